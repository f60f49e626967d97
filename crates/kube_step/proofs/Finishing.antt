-- One more finish of a turn.
use Rattle.std.proofs.Common.{◌≡◌, ℕ, suc, ◌+◌, ◌<◌, true, List, [], ◌∷◌, ◌++◌, map, length, take, drop, get_or, refl, sym, ap, ap₂, subst, ◌∙◌, append_assoc, append-nil}
use Rattle.std.specs.List.{fold, AllZip}
use Rattle.std.proofs.lemmas.List.{map-append, map-id, length-map, take-append-drop, drop_more}
use lib.Seq.{take-append_seam}
use Rattle.kube_meta.specs.declared.action.Action.{Action}
use Rattle.kube_meta.specs.Reference.{ObjectType}
use Rattle.kube_meta.specs.Keys.{reference_of}
use Rattle.kube_model.specs.History.{Step, Turn, Finished as PlainFinished}
use Rattle.kube_model.specs.Takes.{Running, running, runs, unfinished}
use Rattle.kube_model.specs.Traces.{IsValid, handed_over}
use Rattle.kube_history.specs.CoreEvents.{CoreEvent, running_of, running_with}
use Rattle.kube_history.specs.TurnEvents.{finish_event}
use Rattle.kube_history.proofs.Finishes.{running-finishes}
use Rattle.kube_history.proofs.FinishOrder.{finds-running}
use Rattle.kube_history.proofs.Segments.{running-append}
use Rattle.kube_turn.specs.declared.turn.Finish.{Finish}
use Rattle.kube_turn.specs.declared.record.Finished.{Finished}
use Rattle.kube_turn.specs.Records.{finish_of, finished_of, outcome_of}
use Rattle.kube_step.specs.Finishes.{AreFinished, AreFinishedFirst, AreFinishedSo, IsFinished, IsActionFor}
use Rattle.kube_step.proofs.Ended.{handed-still}

zip-push : {A B : Type 0} (R : A → B → Type 0) (xs : List A) (ys : List B) (x : A) (y : B) → AllZip R xs ys → R x y → AllZip R (xs ++ x ∷ []) (ys ++ y ∷ [])
zip-push R [] [] x y h r = (r, tt)
zip-push R [] (z ∷ ys) x y h r = absurd h
zip-push R (z ∷ xs) [] x y h r = absurd h
zip-push R (z ∷ xs) (u ∷ ys) x y h r = (h.0, zip-push R xs ys x y h.1 r)

zip-length : {A B : Type 0} (R : A → B → Type 0) (xs : List A) (ys : List B) → AllZip R xs ys → length ys ≡ length xs
zip-length R [] [] h = refl
zip-length R [] (y ∷ ys) h = absurd h
zip-length R (x ∷ xs) [] h = absurd h
zip-length R (x ∷ xs) (y ∷ ys) h = ap suc (zip-length R xs ys h.1)

-- a list that a loop goes over is what it has yielded, and what is left; and where it yields one more that comes next
module _ {A : Type 0} (all items ys : List A) (same : items ≡ all) (front : map (λ a. a) ys ≡ take (length ys) items) where
  pub all-left : all ≡ ys ++ drop (length ys) all
  all-left = sym (take-append-drop (length ys) all) ∙ ap (λ zs. zs ++ drop (length ys) all) (ap (take (length ys)) (sym same) ∙ (sym front ∙ map-id ys))

  pub all-next : (x : A) → (length ys < length items) × (x ≡ get_or items (length ys) x) → all ≡ ys ++ x ∷ [] ++ drop (length ys + 1) all
  all-next x here =
      all-left
      ∙ (ap (λ zs. ys ++ zs)
      (drop_more all (length ys) x (subst (λ zs. length ys < length zs) same here.0) ∙ ap (λ z. z ∷ drop (length ys + 1) all) (ap (λ zs. get_or zs (length ys) x) (sym same) ∙ sym here.1))
      ∙ sym (append_assoc ys (x ∷ []) (drop (length ys + 1) all)))

-- of finishes these were done first
pub finished-first : {K D E : Type 0} (type_of : D → ObjectType) (policy : K → E → Action → Type 0) (rs : List (Running K)) (all fs rest : List (Finish K E D)) (gs : List (Finished K E D)) → all ≡ fs ++ rest
    → AreFinished type_of policy rs fs gs → AreFinishedFirst type_of policy rs all (map (finished_of type_of) gs)
finished-first type_of policy rs all fs rest gs e k = (
  gs,
  subst (λ us. AreFinished type_of policy rs us gs)
      (sym (ap₂ (λ n us. take n us) (length-map gs (finished_of type_of) ∙ zip-length (IsFinished type_of policy rs) fs gs k) e ∙ take-append_seam fs rest)) k,
  refl,
)

-- all of them are the first
pub finished-whole : {K D E : Type 0} (type_of : D → ObjectType) (policy : K → E → Action → Type 0) (rs : List (Running K)) (all : List (Finish K E D)) (plain : List PlainFinished) → AreFinishedSo type_of policy rs all plain → AreFinishedFirst type_of policy rs all plain
finished-whole type_of policy rs all plain k =
    subst (AreFinishedFirst type_of policy rs all) (sym k.2) (finished-first type_of policy rs all all [] k.0 (sym (append-nil all)) k.1)

module _ {K D E : Type 0} (type_of : D → ObjectType) (policy : K → E → Action → Type 0) (h : List (Step K)) (t : Turn) (v : IsValid h t) where
  same-finishes : (fs : List (Finish K E D)) (gs : List (Finished K E D)) → AreFinished type_of policy (running h) fs gs → map (λ (z : PlainFinished). z.finish) (map (finished_of type_of) gs) ≡ map (finish_of type_of) fs
  same-finishes [] [] k = refl
  same-finishes [] (g ∷ gs) k = absurd k
  same-finishes (f ∷ fs) [] k = absurd k
  same-finishes (f ∷ fs) (g ∷ gs) k =
      ap₂ (λ y ys. y ∷ ys) (λ i. record { reference = reference_of type_of (k.0.reference i); outcome = outcome_of (k.0.outcome i) }) (same-finishes fs gs k.1)

  module _ (at : ℕ) (es : List (CoreEvent K)) (runs_so : running_of es ≡ running h) (fs : List (Finish K E D)) (gs : List (Finished K E D)) (done : AreFinished type_of policy (running h) fs gs) (x : Finish K E D) (rest : List (Finish K E D))
      (all : t.finishes ≡ map (finish_of type_of) (fs ++ x ∷ [] ++ rest)) where
    abbrev so-far : List (CoreEvent K)
    so-far = es ++ map (finish_event at) (map (finished_of type_of) gs)

    runs-now : running_of so-far ≡ unfinished (running h) (map (finish_of type_of) fs)
    runs-now =
        running-append es (map (finish_event at) (map (finished_of type_of) gs))
        ∙ (ap (λ rs. fold running_with rs (map (finish_event at) (map (finished_of type_of) gs))) runs_so
        ∙ (running-finishes at (map (finished_of type_of) gs) (running h) ∙ ap (unfinished (running h)) (same-finishes fs gs done)))

    in-order : t.finishes ≡ map (finish_of type_of) fs ++ finish_of type_of x ∷ map (finish_of type_of) rest
    in-order = all ∙ (ap (map (finish_of type_of)) (append_assoc fs (x ∷ []) rest) ∙ map-append (finish_of type_of) fs (x ∷ rest))

    still-runs : runs (unfinished (running h) (map (finish_of type_of) fs)) (reference_of type_of x.reference) ≡ true
    still-runs = finds-running h t (map (finish_of type_of) fs) (finish_of type_of x) (map (finish_of type_of) rest) v in-order

    pub it-runs : runs (running_of so-far) (reference_of type_of x.reference) ≡ true
    it-runs = ap (λ rs. runs rs (reference_of type_of x.reference)) runs-now ∙ still-runs

    pub one-finished : (g : Finished K E D) → (g.reference ≡ x.reference) × (g.outcome ≡ x.outcome) → IsActionFor policy (handed_over (running_of so-far) (reference_of type_of x.reference)) x.outcome g.action
        → AreFinished type_of policy (running h) (fs ++ x ∷ []) (gs ++ g ∷ [])
    one-finished g same action =
        zip-push (IsFinished type_of policy (running h)) fs gs x g done
        (record {
          reference = same.0;
          outcome = same.1;
          action =
              subst (λ o. IsActionFor policy o x.outcome g.action)
              (ap (λ rs. handed_over rs (reference_of type_of x.reference)) runs-now ∙ handed-still (running h) (map (finish_of type_of) fs) (reference_of type_of x.reference) still-runs) action;
        })

    pub one-event : (g : Finished K E D) → so-far ++ finish_event at (finished_of type_of g) ∷ [] ≡ es ++ map (finish_event at) (map (finished_of type_of) (gs ++ g ∷ []))
    one-event g =
        append_assoc es (map (finish_event at) (map (finished_of type_of) gs)) (finish_event at (finished_of type_of g) ∷ [])
        ∙ ap (λ us. es ++ us)
        (sym (ap (map (finish_event at)) (map-append (finished_of type_of) gs (g ∷ [])) ∙ map-append (finish_event at) (map (finished_of type_of) gs) (finished_of type_of g ∷ [])))
