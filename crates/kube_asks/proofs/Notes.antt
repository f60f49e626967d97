-- One more event of an exchange.
use Rattle.std.proofs.Common.{◌≡◌, ℕ, zero, suc, ◌+◌, ◌<◌, Bool, true, false, ◌||◌, List, [], ◌∷◌, ◌++◌, length, get_or, map, take, Err, sym, ◌∙◌, ap, arith, append-nil}
use Rattle.std.specs.Result.{IsErrOf}
use Rattle.std.specs.List.{fold, flat_map, list_any}
use Rattle.std.proofs.lemmas.List.{take_more, map-append}
use Rattle.std.proofs.lemmas.List.Folds.{list_any-append}
use Rattle.std.proofs.lemmas.List.Sums.{fold_push}
use Rattle.std.proofs.lemmas.Grind.{flat_map-append}
use Rattle.std.proofs.Math.Bool.{or-true}

-- a fault of a callee's is the caller's
pub same-fault : {T S E : Type 0} (a b : E) → IsErrOf {T = T} (Err a) b → IsErrOf {T = S} (Err a) b
same-fault a b e = let same : a ≡ b = cc in ap Err same

module _ {E F O : Type 0} (f : E → F) (objects : F → List O) (p : O → Bool) where
  mapped-more : (xs : List E) (i : ℕ) (a : E) → i < length xs → a ≡ get_or xs i a → map f (take (i + 1) xs) ≡ map f (take i xs) ++ f a ∷ []
  mapped-more xs i a h is = ap (map f) (take_more xs i a h ∙ ap (λ y. take i xs ++ y ∷ []) (sym is)) ∙ map-append f (take i xs) (a ∷ [])

  pub fold-more : {N : Type 0} (g : N → F → N) (n₀ n n' : N) (xs : List E) (i : ℕ) (a : E) → i < length xs → a ≡ get_or xs i a
      → n ≡ fold g n₀ (map f (take i xs)) → n' ≡ g n (f a) → n' ≡ fold g n₀ (map f (take (i + 1) xs))
  fold-more g n₀ n n' xs i a h is e q =
      q ∙ (ap (λ m. g m (f a)) e ∙ (sym (fold_push g n₀ (map f (take i xs)) (f a)) ∙ ap (fold g n₀) (sym (mapped-more xs i a h is))))

  pub none-more : (xs : List E) (i : ℕ) (a : E) → i < length xs → a ≡ get_or xs i a
      → list_any p (flat_map objects (map f (take i xs))) ≡ false → list_any p (objects (f a)) ≡ false → list_any p (flat_map objects (map f (take (i + 1) xs))) ≡ false
  none-more xs i a h is e q =
      ap (λ ys. list_any p (flat_map objects ys)) (mapped-more xs i a h is)
      ∙ (ap (list_any p) (flat_map-append objects (map f (take i xs)) (f a ∷ []) ∙ ap (λ ys. flat_map objects (map f (take i xs)) ++ ys) (append-nil (objects (f a))))
      ∙ (list_any-append p (flat_map objects (map f (take i xs))) (objects (f a)) ∙ (ap (λ b. b || list_any p (objects (f a))) e ∙ q)))

  pub any-at : (xs : List E) (i : ℕ) (a : E) → i < length xs → a ≡ get_or xs i a → list_any p (objects (f a)) ≡ true → list_any p (flat_map objects (map f xs)) ≡ true
  any-at [] i a h is q = let no : i < 0 = h in absurd (omega arith)
  any-at (x ∷ xs) zero a h is q =
      list_any-append p (objects (f x)) (flat_map objects (map f xs)) ∙ ap (λ b. b || list_any p (flat_map objects (map f xs))) (ap (λ y. list_any p (objects (f y))) (sym is) ∙ q)
  any-at (x ∷ xs) (suc i) a h is q =
      let l : suc i < suc (length xs) = h in
      list_any-append p (objects (f x)) (flat_map objects (map f xs)) ∙ (ap (λ b. list_any p (objects (f x)) || b) (any-at xs i a (omega arith) is q) ∙ or-true (list_any p (objects (f x))))
