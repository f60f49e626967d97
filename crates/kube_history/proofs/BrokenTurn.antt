-- A turn that something without a name breaks off: what it has done by then.
use Rattle.std.proofs.Common.{◌≡◌, ℕ, Bool, true, false, List, [], ◌++◌, Option, Some, None, refl, ap, ◌∙◌}
use Rattle.kube_model.specs.World.{World, Settings, Watched, feed_of}
use Rattle.kube_model.specs.History.{Exchange, Turn, Finished, Step}
use Rattle.kube_model.specs.Shutdowns.{is_closed}
use Rattle.kube_model.specs.Takes.{running}
use Rattle.kube_model.specs.Turns.{next_source}
use Rattle.kube_model.specs.Traces.{IsValid, AreFinishesOf, EachIsNext}
use Rattle.kube_model.specs.Named.{EachIsNamed, RootIsNamed}
use Rattle.kube_history.specs.CoreEvents.{CoreEvent}
use Rattle.kube_history.specs.TurnEvents.{asks}
use Rattle.kube_history.specs.Agrees.{Agrees, AgreesSoFar}
use Rattle.kube_history.proofs.Finishes.{finishes-are}
use Rattle.kube_history.proofs.TurnParts.{none-made, none-next}
use Rattle.kube_history.proofs.AskedTurn.{agrees-so}

module _ {O B : Type 0} (w : World O B) where
  -- a turn that asks is open
  open-is : (h : List (Step O)) (t : Turn) (xs : List (Exchange O)) (source : ℕ) → EachIsNext w h t [] xs → next_source w h t xs ≡ Some source → is_closed w h t ≡ false
  open-is h t xs source k s = go (is_closed w h t) refl
    where
      go : (b : Bool) → is_closed w h t ≡ b → b ≡ false
      go true c = absurd (let none : next_source w h t xs ≡ None = ap (next_source w h t) (none-made w h t c xs k) ∙ none-next w h t c in let some : next_source w h t xs ≡ Some source = s in cc)
      go false c = refl

  pub so-far : (settings : Settings) → feed_of w 0 ≡ Watched settings → (policies : ℕ → O → Option ℕ) (h : List (Step O)) (t : Turn) (fs : List Finished) (xs : List (Exchange O)) (es : List (CoreEvent O))
      → is_closed w h t ≡ false → IsValid h t → AreFinishesOf policies (running h) t.finishes fs → EachIsNext w h t [] xs → EachIsNamed w (RootIsNamed w) h t [] xs → Agrees w h es
      → AgreesSoFar w h t fs xs (es ++ asks t fs xs)
  so-far settings watched policies h t fs xs es c v z k n a = agrees-so w settings watched h t fs xs es v (finishes-are policies (running h) t.finishes fs z) k n a c

  pub broken : (settings : Settings) → feed_of w 0 ≡ Watched settings → (policies : ℕ → O → Option ℕ) (h : List (Step O)) (t : Turn) (fs : List Finished) (xs : List (Exchange O)) (source : ℕ) (es : List (CoreEvent O))
      → IsValid h t → AreFinishesOf policies (running h) t.finishes fs → EachIsNext w h t [] xs → EachIsNamed w (RootIsNamed w) h t [] xs → next_source w h t xs ≡ Some source → Agrees w h es
      → AgreesSoFar w h t fs xs (es ++ asks t fs xs)
  broken settings watched policies h t fs xs source es v z k n s a = so-far settings watched policies h t fs xs es (open-is h t xs source k s) v z k n a
