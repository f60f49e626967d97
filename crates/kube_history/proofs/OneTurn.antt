-- A turn's events agree with it, after events that agree with the history before; and so do those of a trace.
use Rattle.std.proofs.Common.{◌≡◌, ℕ, ◌+◌, Option, Bool, true, false, List, [], ◌∷◌, ◌++◌, if◌then◌else◌, refl, sym, subst, append_assoc, append-nil, arith}
use Rattle.kube_model.specs.World.{World, Settings, Watched, feed_of}
use Rattle.kube_model.specs.History.{Turn, Step}
use Rattle.kube_model.specs.Shutdowns.{is_closed}
use Rattle.kube_model.specs.Traces.{Made, step, IsRecord, IsTrace, steps}
use Rattle.kube_model.specs.Named.{EachIsNamed, AreNamedTurns, RootIsNamed}
use Rattle.kube_history.specs.CoreEvents.{CoreEvent}
use Rattle.kube_history.specs.TurnEvents.{takes, before_takes, closing, core_events, core_after, core_of}
use Rattle.kube_history.specs.Agrees.{Agrees}
use Rattle.kube_history.proofs.ClosedTurn.{closed-agrees}
use Rattle.kube_history.proofs.OpenTurn.{open-agrees}

module _ {O B : Type 0} (w : World O B) (settings : Settings) (watched : feed_of w 0 ≡ Watched settings) where
  pub one-turn : (policies : ℕ → O → Option ℕ) (h : List (Step O)) (t : Turn) (m : Made O) (es : List (CoreEvent O)) → IsRecord w policies h t m → EachIsNamed w (RootIsNamed w) h t [] m.0.exchanges → Agrees w h es
      → Agrees w (h ++ step t m ∷ []) (es ++ core_events w h (step t m))
  one-turn policies h t m es k n a = go (is_closed w h t) refl
    where
      go : (b : Bool) → is_closed w h t ≡ b
          → Agrees w (h ++ step t m ∷ []) (es ++ (if b then closing w h t m.0.finished else before_takes w h t m.0.finished m.0.exchanges ++ takes t.at m.0.taken))
      go true c = closed-agrees w settings watched policies h t m k es a c
      go false c = open-agrees w settings watched policies h t m es k n a c

  from-here : (policies : ℕ → ℕ → O → Option ℕ) (h : List (Step O)) (ts : List Turn) (ms : List (Made O)) (es : List (CoreEvent O)) → IsTrace w policies h ts ms → AreNamedTurns w (RootIsNamed w) h (steps ts ms)
      → Agrees w h es → Agrees w (h ++ steps ts ms) (es ++ core_after w h (steps ts ms))
  from-here policies h [] ms es k n a = subst (λ g. Agrees w g (es ++ [])) (sym (append-nil h)) (subst (Agrees w h) (sym (append-nil es)) a)
  from-here policies h (t ∷ ts) [] es k n a = subst (λ g. Agrees w g (es ++ [])) (sym (append-nil h)) (subst (Agrees w h) (sym (append-nil es)) a)
  from-here policies h (t ∷ ts) (m ∷ ms) es k n a =
      subst (λ g. Agrees w g (es ++ core_after w h (steps (t ∷ ts) (m ∷ ms)))) (append_assoc h (step t m ∷ []) (steps ts ms))
      (subst (Agrees w ((h ++ step t m ∷ []) ++ steps ts ms)) (append_assoc es (core_events w h (step t m)) (core_after w (h ++ step t m ∷ []) (steps ts ms)))
      (from-here (λ i. policies (i + 1)) (h ++ step t m ∷ []) ts ms (es ++ core_events w h (step t m)) k.2 n.1 (one-turn (policies 0) h t m es k.1 n.0 a)))

  pub at-first : Agrees w [] []
  at-first = record { queue = refl; running = refl; shut = refl; answers = refl; store = refl; fits = tt; legal = tt; behind = omega arith; clock = λ e. refl }

  pub whole-trace : (policies : ℕ → ℕ → O → Option ℕ) (ts : List Turn) (ms : List (Made O)) → IsTrace w policies [] ts ms → AreNamedTurns w (RootIsNamed w) [] (steps ts ms) → Agrees w (steps ts ms) (core_of w (steps ts ms))
  whole-trace policies ts ms k n = from-here policies [] ts ms [] k n at-first
