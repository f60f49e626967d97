-- What an exchange of a watched source is, is determined by those before it, its moment, and how the call was answered.
use Rattle.std.proofs.Common.{◌≡◌, ℕ, Bool, true, false, IsTrue, List, Option, Some, refl, sym, ap, subst, ◌∙◌, inl, inr}
use Rattle.kube_model.specs.declared.call.Call.{Call}
use Rattle.kube_model.specs.declared.call.Call.TheVariants.{List as ListCall, Watch, Next, Stream}
use Rattle.kube_model.specs.declared.call.Answer.{Answer}
use Rattle.kube_model.specs.declared.call.Answer.TheVariants.{NotReady, Idle, Item}
use Rattle.kube_model.specs.World.{Settings}
use Rattle.kube_model.specs.Owed.{Marked, is_next}
use Rattle.kube_model.specs.Fits.{ErrorFits, error_of, idle_fits}
use Rattle.kube_model.specs.Raw.{Raw, RawAnswer, NextAsked, Waits, Fails, GivesPage, Opens, GivesAdded, GivesModified, GivesDeleted, GivesBookmark, GivesError, Ends}
use Rattle.kube_model.specs.Recorded.{AsItCame, IsAnsweredBy, PastItsWindow, answer_of, raw_call}

module _ {V : Type 0} (version : V → Option (List ℕ)) where
  no-item : (a : RawAnswer V) → Item ≡ answer_of version a → ⊥
  no-item Waits e = absurd (cc)
  no-item (Fails error) e = absurd (cc)
  no-item (GivesPage items token v) e = absurd (cc)
  no-item Opens e = absurd (cc)
  no-item (GivesAdded o) e = absurd (cc)
  no-item (GivesModified o) e = absurd (cc)
  no-item (GivesDeleted o) e = absurd (cc)
  no-item (GivesBookmark v annotations) e = absurd (cc)
  no-item (GivesError status) e = absurd (cc)
  no-item Ends e = absurd (cc)

  -- an API gives no stream's item
  pub not-item : (raw : Raw V) (a : Answer) → IsAnsweredBy version raw a → a ≡ Item → ⊥
  not-item raw a (AsItCame e) i = no-item raw.answer (sym i ∙ e)
  not-item raw a (PastItsWindow c w e) i = absurd (cc)

  over-both : (over : Bool) → IsTrue (idle_fits over NotReady) → IsTrue (idle_fits over Idle) → ⊥
  over-both true h k = absurd (cc)
  over-both false h k = absurd (cc)

  waits-idle : (raw : Raw V) (over : Bool) (a b : Answer) → a ≡ answer_of version raw.answer → raw.answer ≡ Waits → b ≡ Idle → IsTrue (idle_fits over a) → IsTrue (idle_fits over b) → ⊥
  waits-idle raw over a b e w f h k =
      over-both over (subst (λ z. IsTrue (idle_fits over z)) (e ∙ ap (answer_of version) w) h) (subst (λ z. IsTrue (idle_fits over z)) f k)

  -- one raw answer is recorded by one answer, since the window is over or isn't
  pub answer-same : (raw : Raw V) (over : Bool) (a b : Answer) → IsAnsweredBy version raw a → IsAnsweredBy version raw b
      → (raw.call ≡ NextAsked → IsTrue (idle_fits over a)) → (raw.call ≡ NextAsked → IsTrue (idle_fits over b)) → a ≡ b
  answer-same raw over a b (AsItCame e) (AsItCame f) h k = e ∙ sym f
  answer-same raw over a b (AsItCame e) (PastItsWindow c w f) h k = absurd (waits-idle raw over a b e w f (h c) (k c))
  answer-same raw over a b (PastItsWindow c w f) (AsItCame e) h k = absurd (waits-idle raw over b a e w f (k c) (h c))
  answer-same raw over a b (PastItsWindow c w e) (PastItsWindow d v f) h k = e ∙ sym f

  -- its error is that of its answer
  pub error-is : {O : Type 0} (m : Marked O) (raw : Raw V) → IsAnsweredBy version raw m.exchange.answer → ErrorFits m → m.exchange.error ≡ error_of m
  error-is m raw r (inl i) = absurd (not-item raw m.exchange.answer r i)
  error-is m raw r (inr e) = e

pub next-call : (settings : Settings) (c : Call) → raw_call settings c ≡ Some NextAsked → is_next c ≡ true
next-call settings (ListCall token) e = absurd (cc)
next-call settings (Watch version initial) e = absurd (cc)
next-call settings Next e = refl
next-call settings Stream e = absurd (cc)
