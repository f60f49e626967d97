-- One more take, handed over.
use Rattle.std.proofs.Common.{◌≡◌, ◌≤◌, ◌+◌, ℕ, true, false, not, List, [], ◌∷◌, ◌++◌, length, Option, Some, None, is_some, refl, sym, ap, ap₂, subst, ◌∙◌, append_assoc, append-nil, arith}
use Rattle.std.specs.List.{AllByRecursion, cons_option, filter_map}
use Rattle.std.proofs.lemmas.List.{map-append, length-append}
use Rattle.std.proofs.lemmas.List.Elements.{filter_map-append}
use Rattle.kube_meta.specs.declared.metadata.ObjectMeta.{ObjectMeta}
use Rattle.kube_meta.specs.Reference.{ObjectType, Reference}
use Rattle.kube_model.specs.History.{Taken}
use Rattle.kube_model.specs.Raw.{grown_by}
use Rattle.kube_history.specs.CoreWorld.{CoreWorld}
use Rattle.kube_history.specs.CoreEvents.{CoreEvent, Took, clock_of, next_taken}
use Rattle.kube_history.specs.Legal.{AreLegal}
use Rattle.kube_history.specs.TurnEvents.{takes}
use Rattle.kube_history.proofs.Calls.{legal-right}
use Rattle.kube_history.proofs.Segments.{legal-append}
use Rattle.kube_core.specs.Cores.{Parts, StandsFor}
use Rattle.kube_step.specs.HandOvers.{handed, handed_by}
use Rattle.kube_step.specs.Takes.{taken_so_far}
use Rattle.kube_step.proofs.Waits.{waits_after, fewer-wait}

pub none-of : {A : Type 0} (o : Option A) → not (is_some o) ≡ true → o ≡ None
none-of None e = refl
none-of (Some a) e = absurd (cc)

pub some-of : {A : Type 0} (o : Option A) → not (is_some o) ≡ false → (a : A) × (o ≡ Some a)
some-of None e = absurd (cc)
some-of (Some a) e = (a, refl)

pub grown-nil : {A : Type 0} (o : Option (List A)) → grown_by o [] ≡ o
grown-nil None = refl
grown-nil (Some xs) = ap Some (append-nil xs)

pub grown-append : {A : Type 0} (o : Option (List A)) (xs ys : List A) → grown_by (grown_by o xs) ys ≡ grown_by o (xs ++ ys)
grown-append None xs ys = refl
grown-append (Some zs) xs ys = ap Some (append_assoc zs xs ys)

pub all-push : {A : Type 0} (P : A → Type 0) (xs : List A) (x : A) → AllByRecursion P xs → P x → AllByRecursion P (xs ++ x ∷ [])
all-push P [] x h p = (p, tt)
all-push P (y ∷ ys) x h p = (h.0, all-push P ys x h.1 p)

-- one more of those that are something
pub kept-push : {A B : Type 0} (f : A → Option B) (xs : List A) (x : A) (b : B) → f x ≡ Some b → filter_map f (xs ++ x ∷ []) ≡ filter_map f xs ++ b ∷ []
kept-push f xs x b e = filter_map-append f xs (x ∷ []) ∙ ap (λ o. filter_map f xs ++ cons_option o []) e

-- what a reconciler was handed, after one more take
pub handed-more : {O : Type 0} (o o' o'' : Option (List (Reference × O))) (ts : List (Taken O)) (u : Option (Taken O)) (v : Taken O) → u ≡ Some v → o' ≡ grown_by o (handed_by ts) → o'' ≡ grown_by o' (handed_by (cons_option u [])) → o'' ≡ grown_by o (handed_by (ts ++ v ∷ []))
handed-more o o' o'' ts u v e h k =
    k ∙ (ap₂ (λ p q. grown_by p (handed_by (cons_option q []))) h e ∙ (grown-append o (handed_by ts) (handed_by (v ∷ [])) ∙ ap (grown_by o) (sym (filter_map-append handed ts (v ∷ [])))))

module _ {K D : Type 0} (type_of : D → ObjectType) (meta : K → ObjectMeta) (world : CoreWorld K) (es : List (CoreEvent K)) (at : ℕ) (ts : List (Taken K)) where
  -- the take that finds nothing
  pub took-none : (core : Parts K D) (o : Option (Taken K)) → o ≡ None → StandsFor type_of meta world (es ++ taken_so_far at ts ++ Took at o ∷ []) core → StandsFor type_of meta world (es ++ takes at ts) core
  took-none core o e s =
      subst (λ us. StandsFor type_of meta world us core) (ap (λ p. es ++ taken_so_far at ts ++ Took at p ∷ []) e ∙ append_assoc es (taken_so_far at ts) (Took at None ∷ [])) s

  module _ (core : Parts K D) (o : Option (Taken K)) (v : Taken K) (e : o ≡ Some v) (s : StandsFor type_of meta world (es ++ taken_so_far at ts ++ Took at o ∷ []) core) where
    one-more : es ++ taken_so_far at ts ++ Took at o ∷ [] ≡ es ++ taken_so_far at (ts ++ v ∷ [])
    one-more =
        ap (λ p. es ++ taken_so_far at ts ++ Took at p ∷ []) e
        ∙ (append_assoc es (taken_so_far at ts) (Took at (Some v) ∷ []) ∙ ap (λ us. es ++ us) (sym (map-append (λ t. Took at (Some t)) ts (v ∷ []))))

    pub took-more : StandsFor type_of meta world (es ++ taken_so_far at (ts ++ v ∷ [])) core
    took-more = subst (λ us. StandsFor type_of meta world us core) one-more s

    pub fewer-more : o ≡ next_taken world (es ++ taken_so_far at ts) → length (waits_after world (es ++ taken_so_far at ts)) + length ts ≤ length (waits_after world es)
        → length (waits_after world (es ++ taken_so_far at (ts ++ v ∷ []))) + length (ts ++ v ∷ []) ≤ length (waits_after world es)
    fewer-more next l =
        let f = fewer-wait world (es ++ taken_so_far at ts) at v (sym e ∙ next) in
        let g : length (waits_after world (es ++ taken_so_far at (ts ++ v ∷ []))) + 1 ≤ length (waits_after world (es ++ taken_so_far at ts)) =
        subst (λ us. length (waits_after world us) + 1 ≤ length (waits_after world (es ++ taken_so_far at ts)))
        (append_assoc es (taken_so_far at ts) (Took at (Some v) ∷ []) ∙ ap (λ us. es ++ us) (sym (map-append (λ t. Took at (Some t)) ts (v ∷ [])))) f in
        let n = length-append ts (v ∷ []) in
        omega (arith, l, g, n)

  -- takes so far are legal
  pub legal-takes : (core : Parts K D) → StandsFor type_of meta world (es ++ taken_so_far at ts) core → AreLegal world es (taken_so_far at ts)
  legal-takes core s = legal-right world [] es (taken_so_far at ts) s.legal

  -- and so is the next one
  pub legal-next : (core : Parts K D) → StandsFor type_of meta world (es ++ taken_so_far at ts) core → core.clock.0 ≤ at → (v : Taken K) → Some v ≡ next_taken world (es ++ taken_so_far at ts) → AreLegal world es (taken_so_far at (ts ++ v ∷ []))
  legal-next core s clock v next =
      let moment = s.clock in
      subst (AreLegal world es) (sym (map-append (λ t. Took at (Some t)) ts (v ∷ [])))
      (legal-right world [] es (taken_so_far at ts ++ Took at (Some v) ∷ [])
      (subst (AreLegal world []) (append_assoc es (taken_so_far at ts) (Took at (Some v) ∷ []))
      (legal-append world [] (es ++ taken_so_far at ts) (Took at (Some v) ∷ []) s.legal
      (record { moment = let l : clock_of (es ++ taken_so_far at ts) ≤ at = omega (arith, moment, clock) in l; reply = next }, tt))))
