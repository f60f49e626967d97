-- The asks of a turn are the next ones of the definitions.
use Rattle.std.proofs.Common.{◌≡◌, false, ◌||◌, List, [], ◌∷◌, ◌++◌, None, if◌then◌else◌, sym, ap, subst, ◌∙◌, append_assoc, append-nil}
use Rattle.std.proofs.lemmas.List.{map-append}
use Rattle.kube_model.specs.World.{World}
use Rattle.kube_model.specs.History.{Exchange, Turn, Step, exchanges, dated}
use Rattle.kube_model.specs.Shutdowns.{is_shut, asks_shutdown}
use Rattle.kube_model.specs.Asks.{next_asked}
use Rattle.kube_model.specs.Turns.{next_source}
use Rattle.kube_model.specs.Traces.{EachIsNext}
use Rattle.kube_watch.specs.Polls.{dated_now}
use Rattle.kube_asks.specs.Asking.{AreNextAsked}

module _ {O B : Type 0} (w : World O B) (h : List (Step O)) (t : Turn) (open_h : is_shut h ≡ false) (open_t : asks_shutdown t.shutdown ≡ false) where
  source-is : (xs : List (Exchange O)) → next_asked w t.budget (exchanges h) (dated t.at xs) t.at ≡ next_source w h t xs
  source-is xs =
      let next = next_asked w t.budget (exchanges h) (dated t.at xs) t.at in
      ap (λ b. if b then None else next) (sym open_t) ∙ ap (λ b. if b || asks_shutdown t.shutdown then None else next) (sym open_h)

  dated-more : (before : List (Exchange O)) (x : Exchange O) → dated t.at before ++ dated_now t.at x ∷ [] ≡ dated t.at (before ++ x ∷ [])
  dated-more before x = sym (map-append (λ y. record { at = t.at; exchange = y }) before (x ∷ []))

  pub asked-in-turn : (before xs : List (Exchange O)) → AreNextAsked w t.budget (exchanges h) (dated t.at before) t.at xs
      → EachIsNext w h t before xs × (next_source w h t (before ++ xs) ≡ None)
  asked-in-turn before [] k = (tt, ap (next_source w h t) (append-nil before) ∙ (sym (source-is before) ∙ k))
  asked-in-turn before (x ∷ xs) k =
      let rest = asked-in-turn (before ++ x ∷ []) xs (subst (λ ds. AreNextAsked w t.budget (exchanges h) ds t.at xs) (dated-more before x) k.1) in
      ((record { source = sym (source-is before) ∙ k.0.0; fits = k.0.1 }, rest.0), ap (next_source w h t) (sym (append_assoc before (x ∷ []) xs)) ∙ rest.1)
