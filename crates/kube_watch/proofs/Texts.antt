-- Recorded answers have no empty texts.
use Rattle.std.proofs.Common.{◌≡◌, ℕ, List, [], ◌∷◌, Option, Some, None, refl, sym, subst}
use Rattle.kube_model.specs.declared.call.Answer.{Answer}
use Rattle.kube_model.specs.Raw.{Raw, RawAnswer, Waits, Fails, GivesPage, Opens, GivesAdded, GivesModified, GivesDeleted, GivesBookmark, GivesError, Ends}
use Rattle.kube_model.specs.Recorded.{IsAnsweredBy, AsItCame, PastItsWindow, answer_of}
use Rattle.kube_model.specs.Fits.{nonempty, TextsFit}

nonempty-twice : (text : Option (List ℕ)) → nonempty text ≡ nonempty (nonempty text)
nonempty-twice None = refl
nonempty-twice (Some []) = refl
nonempty-twice (Some (c ∷ cs)) = refl

module _ {V : Type 0} (version : V → Option (List ℕ)) where
  texts-of : (raw : RawAnswer V) → TextsFit (answer_of version raw)
  texts-of Waits = tt
  texts-of (Fails error) = tt
  texts-of (GivesPage items token reached) = (nonempty-twice token, nonempty-twice reached)
  texts-of Opens = tt
  texts-of (GivesAdded o) = nonempty-twice (version o)
  texts-of (GivesModified o) = nonempty-twice (version o)
  texts-of (GivesDeleted o) = nonempty-twice (version o)
  texts-of (GivesBookmark reached annotations) = tt
  texts-of (GivesError status) = tt
  texts-of Ends = tt

  pub texts-fit : (raw : Raw V) (answer : Answer) → IsAnsweredBy version raw answer → TextsFit answer
  texts-fit raw answer (AsItCame e) = subst TextsFit (sym e) (texts-of raw.answer)
  texts-fit raw answer (PastItsWindow call waits e) = subst TextsFit (sym e) tt
