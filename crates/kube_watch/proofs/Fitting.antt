-- The objects of a recorded exchange fit its answer.
use Rattle.std.proofs.Common.{refl, sym, ap, subst, ◌∙◌}
use Rattle.kube_model.specs.World.{World, Settings}
use Rattle.kube_model.specs.History.{Exchange}
use Rattle.kube_model.specs.Fits.{WatchItemsFit}
use Rattle.kube_model.specs.Raw.{Raw, RawAnswer, Waits, Fails, GivesPage, Opens, GivesAdded, GivesModified, GivesDeleted, GivesBookmark, GivesError, Ends}
use Rattle.kube_model.specs.Recorded.{IsRecorded, IsAnsweredBy, AsItCame, PastItsWindow, answer_of, items_of}

module _ {O B : Type 0} (w : World O B) where
  raw-items : (r : RawAnswer O) → WatchItemsFit w (answer_of w.version r) (items_of r)
  raw-items Waits = refl
  raw-items (Fails error) = refl
  raw-items (GivesPage items token version) = tt
  raw-items Opens = refl
  raw-items (GivesAdded o) = refl
  raw-items (GivesModified o) = refl
  raw-items (GivesDeleted o) = refl
  raw-items (GivesBookmark version annotations) = refl
  raw-items (GivesError status) = refl
  raw-items Ends = refl

  pub items-fit : (settings : Settings) (raw : Raw O) (x : Exchange O) → IsRecorded w.version settings raw x → WatchItemsFit w x.answer x.items
  items-fit settings raw x h = go h.answer
    where
      go : IsAnsweredBy w.version raw x.answer → WatchItemsFit w x.answer x.items
      go (AsItCame e) = subst (λ os. WatchItemsFit w x.answer os) (sym h.items) (subst (λ a. WatchItemsFit w a (items_of raw.answer)) (sym e) (raw-items raw.answer))
      go (PastItsWindow c e a) = subst (λ b. WatchItemsFit w b x.items) (sym a) (h.items ∙ ap items_of e)
