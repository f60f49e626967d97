-- Futures by key, one place after another.
use Rattle.std.proofs.Common.{◌≡◌, ◌≢◌, ◌≤◌, ◌↔◌, ℕ, zero, suc, ◌+◌, Bool, true, false, if◌then◌else◌, cond, List, [], ◌∷◌, ◌++◌, length, Option, Some, None, refl, sym, ap, subst, ◌∙◌, append_assoc, append-nil, remove, slice_get, arith}
use Rattle.std.specs.List.{AllByRecursion}
use Rattle.std.proofs.lemmas.List.{length-append}
use Rattle.std.specs.Map.{remove_entry, keys_of}
use Rattle.indexmap.specs.IndexMap.{set_value_at, insert_entry}
use Rattle.futures.specs.declared.task.Poll.{Poll}
use Rattle.kube_meta.specs.declared.poll.Polled.{Polled}
use Rattle.kube_meta.specs.declared.poll.Polled.TheVariants.{Ready, NotReady}
use Rattle.kube_sched.specs.Futures.{CanPollAll, TellsPending, AllPending, FirstReady, MapPolled, PlaceReady, PlacePending}

-- Lists in two parts.

cons-head : {A : Type 0} (x y : A) (xs ys : List A) → x ∷ xs ≡ y ∷ ys → x ≡ y
cons-head x y xs ys e = cc

cons-tail : {A : Type 0} (x y : A) (xs ys : List A) → x ∷ xs ≡ y ∷ ys → xs ≡ ys
cons-tail x y xs ys e = cc

pub first_parts : {A : Type 0} (xs ys ss ts : List A) → length xs ≡ length ys → xs ++ ss ≡ ys ++ ts → xs ≡ ys
first_parts [] [] ss ts l e = refl
first_parts [] (y ∷ ys) ss ts l e = absurd (omega arith)
first_parts (x ∷ xs) [] ss ts l e = absurd (omega arith)
first_parts (x ∷ xs) (y ∷ ys) ss ts l e =
    let head = cons-head x y (xs ++ ss) (ys ++ ts) e in
    let tail = first_parts xs ys ss ts (omega arith) (cons-tail x y (xs ++ ss) (ys ++ ts) e) in cc

pub second_parts : {A : Type 0} (xs ys ss ts : List A) → length xs ≡ length ys → xs ++ ss ≡ ys ++ ts → ss ≡ ts
second_parts [] [] ss ts l e = e
second_parts [] (y ∷ ys) ss ts l e = absurd (omega arith)
second_parts (x ∷ xs) [] ss ts l e = absurd (omega arith)
second_parts (x ∷ xs) (y ∷ ys) ss ts l e = second_parts xs ys ss ts (omega arith) (cons-tail x y (xs ++ ss) (ys ++ ts) e)

pub remove-there : {A : Type 0} (xs : List A) (x : A) (ys : List A) → remove (xs ++ x ∷ ys) (length xs) ≡ xs ++ ys
remove-there [] x ys = refl
remove-there (w ∷ xs) x ys = ap (λ zs. w ∷ zs) (remove-there xs x ys)

no-more : {A : Type 0} (xs : List A) → length xs ≡ 0 → xs ≡ []
no-more [] h = refl
no-more (x ∷ xs) h = absurd (omega arith)

pub all-replaced : {A : Type 0} (P : A → Type 0) (xs : List A) (x y : A) (ys : List A) → P y → AllByRecursion P (xs ++ x ∷ ys) → AllByRecursion P (xs ++ y ∷ ys)
all-replaced P [] x y ys p h = (p, h.1)
all-replaced P (w ∷ xs) x y ys p h = (h.0, all-replaced P xs x y ys p h.1)

pub all-without : {A : Type 0} (P : A → Type 0) (xs : List A) (x : A) (ys : List A) → AllByRecursion P (xs ++ x ∷ ys) → AllByRecursion P (xs ++ ys)
all-without P [] x ys h = h.1
all-without P (w ∷ xs) x ys h = (h.0, all-without P xs x ys h.1)

pub all-there : {A : Type 0} (P : A → Type 0) (xs : List A) (x : A) (ys : List A) → AllByRecursion P (xs ++ x ∷ ys) → P x
all-there P [] x ys h = h.0
all-there P (w ∷ xs) x ys h = all-there P xs x ys h.1

-- A list whose value at a place is written.

module _ {K F : Type 0} where
  pub record SplitAt (es : List (K × F)) (i : ℕ) (k : K) (f w : F) : Type 0 where
    pub before : List (K × F)
    pub behind : List (K × F)
    pub was : es ≡ before ++ (k, f) ∷ behind
    pub is : set_value_at es i w ≡ before ++ (k, w) ∷ behind
    pub there : length before ≡ i

  pub split_at : (es : List (K × F)) (i : ℕ) (k : K) (f w : F) → slice_get es i ≡ Some (k, f) → SplitAt es i k f w
  split_at [] i k f w h = absurd (cc)
  split_at (d ∷ es) zero k f w h =
      let same : d ≡ (k, f) = cc in
      record { before = []; behind = es; was = ap (λ (x : K × F). x ∷ es) same; is = ap (λ (x : K × F). (x.0, w) ∷ es) same; there = refl }
  split_at (d ∷ es) (suc i) k f w h =
      let s = split_at es i k f w h in
      record { before = d ∷ s.before; behind = s.behind; was = ap (λ xs. d ∷ xs) s.was; is = ap (λ xs. d ∷ xs) s.is; there = ap suc s.there }

-- Polls of one place after another.

module _ {K F X : Type 0} (told : F → Option (List (Poll X))) (gives : F → X → Type 0) where
  -- so many places were polled, and none is ready
  pub record Polling (old now : List (K × F)) (place : ℕ) : Type 0 where
    pub before : List (K × F)
    pub polled : List (K × F)
    pub behind : List (K × F)
    pub was : old ≡ before ++ behind
    pub is : now ≡ polled ++ behind
    pub pending : AllPending told gives before polled
    pub there : length polled ≡ place

  pub polling-none : (old : List (K × F)) → Polling old old 0
  polling-none old = record { before = []; polled = []; behind = old; was = refl; is = refl; pending = tt; there = refl }

  pending-more : (before polled : List (K × F)) (k : K) (f f' : F) → AllPending told gives before polled → TellsPending told gives f f'
      → AllPending told gives (before ++ (k, f) ∷ []) (polled ++ (k, f') ∷ [])
  pending-more [] [] k f f' h t = (refl, t, tt)
  pending-more (e ∷ es) [] k f f' h t = absurd h
  pending-more [] (e' ∷ es') k f f' h t = absurd h
  pending-more (e ∷ es) (e' ∷ es') k f f' h t = (h.0, h.1, pending-more es es' k f f' h.2 t)

  pub polling-more : (can : F → Type 0) (old now after : List (K × F)) (place : ℕ) → Polling old now place → PlacePending told gives can place now after → Polling old after (place + 1)
  polling-more can old now after place p q =
      let same : p.polled ++ p.behind ≡ q.before ++ (q.key, q.future) ∷ q.behind = sym p.is ∙ q.was in
      let len : length p.polled ≡ length q.before = p.there ∙ sym q.there in
      let first = first_parts p.polled q.before p.behind ((q.key, q.future) ∷ q.behind) len same in
      let second = second_parts p.polled q.before p.behind ((q.key, q.future) ∷ q.behind) len same in
      record {
        before = p.before ++ (q.key, q.future) ∷ [];
        polled = p.polled ++ (q.key, q.left) ∷ [];
        behind = q.behind;
        was = p.was ∙ ap (λ xs. p.before ++ xs) second ∙ sym (append_assoc p.before ((q.key, q.future) ∷ []) q.behind);
        is = q.is ∙ ap (λ xs. xs ++ (q.key, q.left) ∷ q.behind) (sym first) ∙ sym (append_assoc p.polled ((q.key, q.left) ∷ []) q.behind);
        pending = pending-more p.before p.polled q.key q.future q.left p.pending q.pending;
        there = (let e = length-append p.polled ((q.key, q.left) ∷ []) in let t = p.there in omega arith);
      }

  pub polling-ready : (old now after : List (K × F)) (place : ℕ) (x : X) → Polling old now place → PlaceReady told gives place now after x
      → FirstReady told gives old (remove after place) x
  polling-ready old now after place x p q =
      let same : p.polled ++ p.behind ≡ q.before ++ (q.key, q.future) ∷ q.behind = sym p.is ∙ q.was in
      let len : length p.polled ≡ length q.before = p.there ∙ sym q.there in
      let first = first_parts p.polled q.before p.behind ((q.key, q.future) ∷ q.behind) len same in
      let second = second_parts p.polled q.before p.behind ((q.key, q.future) ∷ q.behind) len same in
      record {
        before = p.before;
        polled = p.polled;
        entry = (q.key, q.future);
        behind = q.behind;
        was = p.was ∙ ap (λ xs. p.before ++ xs) second;
        is = subst (λ n. remove after n ≡ p.polled ++ q.behind) q.there
            (ap (λ xs. remove xs (length q.before)) q.is ∙ remove-there q.before (q.key, q.left) q.behind ∙ ap (λ xs. xs ++ q.behind) (sym first));
        pending = p.pending;
        ready = record { left = q.left; tells = q.tells; given = q.given };
      }

  pub can-more : (can : F → Type 0) (now after : List (K × F)) (place : ℕ) → PlacePending told gives can place now after → CanPollAll can now → CanPollAll can after
  can-more can now after place q h =
      subst (CanPollAll can) (sym q.is)
      (all-replaced (λ (e : K × F). can e.1) q.before (q.key, q.future) (q.key, q.left) q.behind q.again (subst (CanPollAll can) q.was h))

  pub can-ready : (can : F → Type 0) (now after : List (K × F)) (place : ℕ) (x : X) → PlaceReady told gives place now after x → CanPollAll can now → CanPollAll can (remove after place)
  can-ready can now after place x q h =
      let gone : remove after place ≡ q.before ++ q.behind =
      subst (λ n. remove after n ≡ q.before ++ q.behind) q.there (ap (λ xs. remove xs (length q.before)) q.is ∙ remove-there q.before (q.key, q.left) q.behind) in
      subst (CanPollAll can) (sym gone) (all-without (λ (e : K × F). can e.1) q.before (q.key, q.future) q.behind (subst (CanPollAll can) q.was h))

  -- where all places were polled
  pub polling-all : (old now : List (K × F)) (count : ℕ) → Polling old now count → length now ≡ count → AllPending told gives old now
  polling-all old now count p len =
      let none : p.behind ≡ [] = no-more p.behind (let e = length-append p.polled p.behind in let i = ap length p.is in let t = p.there in omega arith) in
      let was : old ≡ p.before = p.was ∙ ap (λ xs. p.before ++ xs) none ∙ append-nil p.before in
      let is : now ≡ p.polled = p.is ∙ ap (λ xs. p.polled ++ xs) none ∙ append-nil p.polled in
      subst (λ xs. AllPending told gives xs now) (sym was) (subst (AllPending told gives p.before) (sym is) p.pending)

  pub length-more : (can : F → Type 0) (now after : List (K × F)) (place : ℕ) → PlacePending told gives can place now after → length after ≡ length now
  length-more can now after place q =
      let a = ap length q.was in
      let b = ap length q.is in
      let c = length-append q.before ((q.key, q.future) ∷ q.behind) in
      let d = length-append q.before ((q.key, q.left) ∷ q.behind) in
      omega arith

-- What stays the same, and what falls.

not-nothing : {A : Type 0} (xs : List A) (x : A) (ys : List A) → xs ++ x ∷ ys ≡ [] → ⊥
not-nothing [] x ys e = absurd (cc)
not-nothing (w ∷ xs) x ys e = absurd (cc)

module _ {K F X : Type 0} (told : F → Option (List (Poll X))) (gives : F → X → Type 0) where
  pub keys-pending : (old new : List (K × F)) → AllPending told gives old new → keys_of new ≡ keys_of old
  keys-pending [] [] h = refl
  keys-pending (e ∷ es) [] h = absurd h
  keys-pending [] (e' ∷ es') h = absurd h
  keys-pending (e ∷ es) (e' ∷ es') h = let head = h.0 in let tail = keys-pending es es' h.2 in cc

  pub length-pending : (old new : List (K × F)) → AllPending told gives old new → length new ≡ length old
  length-pending [] [] h = refl
  length-pending (e ∷ es) [] h = absurd h
  length-pending [] (e' ∷ es') h = absurd h
  length-pending (e ∷ es) (e' ∷ es') h = ap suc (length-pending es es' h.2)

  pub length-first : (old new : List (K × F)) (x : X) → FirstReady told gives old new x → length new ≤ length old
  length-first old new x f =
      let a = ap length f.was in
      let b = ap length f.is in
      let c = length-append f.before (f.entry ∷ f.behind) in
      let d = length-append f.polled f.behind in
      let e = length-pending f.before f.polled f.pending in
      omega arith

  first-shorter : (old new : List (K × F)) (x : X) → FirstReady told gives old new x → length new + 1 ≡ length old
  first-shorter old new x f =
      let a = ap length f.was in
      let b = ap length f.is in
      let c = length-append f.before (f.entry ∷ f.behind) in
      let d = length-append f.polled f.behind in
      let e = length-pending f.before f.polled f.pending in
      omega arith

  pub first-some : (old new : List (K × F)) (x : X) → FirstReady told gives old new x → old ≢ []
  first-some old new x f e = not-nothing f.before f.entry f.behind (sym f.was ∙ e)

  -- not ready is what each told, and nothing else
  pub map-not-ready : (old new : List (K × F)) (answer : Polled (Option X)) → MapPolled told gives old new answer
      → (answer ≡ NotReady) ↔ ((old ≢ []) × AllPending told gives old new)
  map-not-ready old new (Ready (Some x)) f = (
    λ e. absurd (cc),
    λ p. absurd (let a = first-shorter old new x f in let b = length-pending old new p.1 in omega arith),
  )
  map-not-ready old new (Ready None) f = (λ e. absurd (cc), λ p. absurd (p.0 f.0))
  map-not-ready old new NotReady f = (λ e. f, λ p. refl)

-- A list with a value put, or without one.

pub can-put : {K F : Type 0} (can : F → Type 0) (eq : K → K → Bool) (es : List (K × F)) (k : K) (f : F) → can f → CanPollAll can es → CanPollAll can (insert_entry eq es k f)
can-put can eq [] k f p h = (p, tt)
can-put can eq (e ∷ es) k f p h = go (eq k e.0) (can-put can eq es k f p h.1)
  where
    go : (b : Bool) → CanPollAll can (insert_entry eq es k f) → CanPollAll can (if b then (e.0, f) ∷ es else e ∷ insert_entry eq es k f)
    go true r = (p, h.1)
    go false r = (h.0, r)

pub can-removed : {K F : Type 0} (can : F → Type 0) (test : K → Bool) (es : List (K × F)) → CanPollAll can es → CanPollAll can (remove_entry test es)
can-removed can test [] h = tt
can-removed can test (e ∷ es) h = go (test e.0) (can-removed can test es h.1)
  where
    go : (b : Bool) → CanPollAll can (remove_entry test es) → CanPollAll can (cond b es (e ∷ remove_entry test es))
    go true r = h.1
    go false r = (h.0, r)
