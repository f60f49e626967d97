-- Truth values.
use Rattle.std.proofs.Common.{◌≡◌, ℕ, zero, suc, ◌+◌, ◌-◌, ◌<◌, ◌≤◌, nat_lt, Bool, true, false, ◌&&◌, ◌||◌, cond, Some, List, [], ◌∷◌, ◌++◌, map, Result, Ok, Err, IfOk, OnOk, refl, sym, ap, ◌∙◌, append_assoc, append-nil, arith}
use Rattle.std.proofs.lemmas.Bool.{ltb-true}
use Rattle.std.specs.List.{find, range_with_len}

pub and-or : (n a s e : Bool) → n && (a || s && e) ≡ n && a || s && (n && e)
and-or true true true true = refl
and-or true true true false = refl
and-or true true false e = refl
and-or true false true true = refl
and-or true false true false = refl
and-or true false false e = refl
and-or false a true e = refl
and-or false a false e = refl

pub or-swap : (a b s : Bool) → (a || (b && s)) ≡ (a || (s && b))
or-swap true b s = refl
or-swap false true true = refl
or-swap false true false = refl
or-swap false false true = refl
or-swap false false false = refl

-- one that doesn't pass is left out
pub find-skip : (p : ℕ → Bool) (a b : ℕ) → a < b → p a ≡ false → find p (range_with_len (a + 1) (b - (a + 1))) ≡ find p (range_with_len a (b - a))
find-skip p a b h e =
    let n : b - a ≡ suc (b - (a + 1)) = omega (arith, h) in
    sym (ap (λ m. find p (range_with_len a m)) n ∙ ap (λ c. cond c (Some a) (find p (range_with_len (a + 1) (b - (a + 1))))) e)

pub not-below : (a b : ℕ) → b ≤ a → nat_lt a b ≡ false
not-below a b h = go (nat_lt a b) refl
  where
    go : (c : Bool) → nat_lt a b ≡ c → nat_lt a b ≡ false
    go true e = absurd (let k = ltb-true a b e in omega (arith, h, k))
    go false e = e

-- two facts of a value that came
pub ok2 : {T E : Type 0} {P Q W : T → Type 0} (r : Result T E) → ((x : T) → P x → Q x → W x) → IfOk r P → IfOk r Q → IfOk r W
ok2 (Ok x) f p q = f x p q
ok2 (Err e) f p q = tt

-- three facts of a value that came
pub ok3 : {T E : Type 0} {P Q S W : T → Type 0} (r : Result T E) → ((x : T) → P x → Q x → S x → W x) → IfOk r P → IfOk r Q → IfOk r S → IfOk r W
ok3 (Ok x) f p q s = f x p q s
ok3 (Err e) f p q s = tt

-- two facts of a value that came, and one that there was one
pub ok3-on : {T E : Type 0} {P Q W : T → Type 0} {S : Type 0} (r : Result T E) → ((x : T) → P x → Q x → S → W x) → IfOk r P → IfOk r Q → OnOk r S → IfOk r W
ok3-on (Ok x) f p q s = f x p q s
ok3-on (Err e) f p q s = tt

pub suc-pred : (n : ℕ) → (n ≡ 0 → ⊥) → suc (n - 1) ≡ n
suc-pred n h = go n refl
  where
    go : (m : ℕ) → n ≡ m → suc (n - 1) ≡ n
    go zero e = absurd (h e)
    go (suc m) e = omega (arith, e)

-- one more of a range is done
pub map-step : {A : Type 0} (f : ℕ → A) (done all : List A) (a b : ℕ) → a < b → done ++ map f (range_with_len a (b - a)) ≡ all → (done' : List A) (x : A) → x ≡ f a → done' ≡ done ++ x ∷ []
    → done' ++ map f (range_with_len (a + 1) (b - (a + 1))) ≡ all
map-step f done all a b h so done' x is more =
    let n : b - a ≡ suc (b - (a + 1)) = omega (arith, h) in
    ap (λ ys. ys ++ map f (range_with_len (a + 1) (b - (a + 1)))) (more ∙ ap (λ y. done ++ y ∷ []) is)
    ∙ (append_assoc done (f a ∷ []) (map f (range_with_len (a + 1) (b - (a + 1)))) ∙ (sym (ap (λ m. done ++ map f (range_with_len a m)) n) ∙ so))

-- all of it is done
pub map-done : {A : Type 0} (f : ℕ → A) (done all : List A) (a b : ℕ) → b ≤ a → done ++ map f (range_with_len a (b - a)) ≡ all → done ≡ all
map-done f done all a b h so =
    let n : b - a ≡ 0 = omega (arith, h) in
    sym (append-nil done) ∙ (sym (ap (λ m. done ++ map f (range_with_len a m)) n) ∙ so)
