use Rattle.std.proofs.Common.{◌≡◌, ◌≤◌, ◌<◌, ◌+◌, ◌^◌, List, [], map, length}
use Rattle.kube_model.specs.World.{World}
use Rattle.kube_model.specs.History.{Step, Turn}
use Rattle.kube_history.specs.CoreEvents.{CoreEvent}
use Rattle.kube_core.specs.Cores.{HasSameHandles}
use Rattle.kube_turn.specs.Views.{exchange_of}
use Rattle.kube_asks.specs.Kept.{total}
use Rattle.kube_step.specs.Asked.{AreAsked, MayAsk}
use Rattle.kube_step.proofs.sources.ask_all.Given as goal

-- as far as the loop has come
abbrev pub invariant-loop-all : goal.invariant-loop-all
invariant-loop-all g l =
    record {
      few : length (g.S.RelatedSet.feeds l.asks.related) + 1 < 2 ^ 32;
      root : g.R.RootSource.can_poll l.asks.root;
      related : g.S.RelatedSet.can_poll l.asks.related;
      feeds : g.S.RelatedSet.feeds l.asks.related ≡ g.S.RelatedSet.feeds l.fn.asks.related;
      clock : l.core.clock.0 ≤ l.now.0;
      handles : HasSameHandles l.fn.core.writer l.core.writer;
      asked : (w : World _ _) (h : List (Step _)) (t : Turn) (es : List (CoreEvent _)) → t.at ≡ l.now.0
          → MayAsk g.R.RootSource g.S.RelatedSet g.B.Backoff g.R.Object.Resource w h t [] es l.fn.asks l.fn.core
          → AreAsked g.R.RootSource g.S.RelatedSet g.B.Backoff g.R.Object.Resource w h t es l.fn.asks (map (exchange_of g.R.Object.Resource.type_of) l.all.items) l.asks l.core;
    }

-- each exchange uses up one of a budget
abbrev pub decreases-loop-all : goal.decreases-loop-all
decreases-loop-all g l = total l.asks.kept.left
