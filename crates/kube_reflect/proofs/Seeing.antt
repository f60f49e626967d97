-- What a subscriber has seen, and what waits for it.
use Rattle.std.proofs.Common.{◌≡◌, ℕ, suc, ◌-◌, ◌≤◌, List, [], ◌∷◌, ◌++◌, length, take, drop, Option, Some, None, refl, sym, ap, ◌∙◌, arith, append_assoc, append-nil}
use Rattle.std.proofs.lemmas.List.{take-append-drop, length-drop}
use Rattle.kube_meta.specs.Reference.{Reference}
use Rattle.kube_reflect.specs.Reads.{object_at}
use Rattle.kube_reflect.specs.Subscribers.{first_stored, left}
use Rattle.kube_reflect.specs.Subscriptions.{Act, Offered, Polled, offers, seen, seen_by, waiting_after}

-- a list is the rest of another after so many
record IsRest {A : Type 0} (xs ys : List A) : Type 0 where
  skipped : ℕ
  within : skipped ≤ length xs
  rest : ys ≡ drop skipped xs

module _ {O : Type 0} (store : List (Reference × O)) where
  left-rest : (rs : List Reference) → IsRest rs (left (first_stored store rs))
  left-rest [] = record { skipped = 0; within = omega arith; rest = refl }
  left-rest (r ∷ rs) = go (object_at store r) (left-rest rs)
    where
      go : (q : Option O) → IsRest rs (left (first_stored store rs)) → IsRest (r ∷ rs) (left (elim q [ Some o ↦ Some (o, rs) | None ↦ first_stored store rs ]))
      go (Some o) h = record { skipped = 1; within = omega arith; rest = refl }
      go None h = record { skipped = suc h.skipped; within = (let w = h.within in omega arith); rest = h.rest }

  pub seen-left : (rs : List Reference) → seen_by store rs ++ left (first_stored store rs) ≡ rs
  seen-left rs =
      let h = left-rest rs in
      let w = h.within in
      let n = ap length h.rest ∙ length-drop h.skipped rs in
      let k : length rs - length (left (first_stored store rs)) ≡ h.skipped = omega (arith, n) in
      ap (λ m. take m rs ++ left (first_stored store rs)) k ∙ (ap (λ ys. take h.skipped rs ++ ys) h.rest ∙ take-append-drop h.skipped rs)

pub each-once : {O : Type 0} (rs : List Reference) (acts : List (Act O)) → seen rs acts ++ waiting_after rs acts ≡ rs ++ offers acts
each-once rs [] = sym (append-nil rs)
each-once rs (Offered r ∷ acts) = each-once (rs ++ r ∷ []) acts ∙ append_assoc rs (r ∷ []) (offers acts)
each-once rs (Polled store ∷ acts) =
    append_assoc (seen_by store rs) (seen (left (first_stored store rs)) acts) (waiting_after (left (first_stored store rs)) acts)
    ∙ (ap (λ ys. seen_by store rs ++ ys) (each-once (left (first_stored store rs)) acts)
    ∙ (sym (append_assoc (seen_by store rs) (left (first_stored store rs)) (offers acts)) ∙ ap (λ ys. ys ++ offers acts) (seen-left store rs)))
