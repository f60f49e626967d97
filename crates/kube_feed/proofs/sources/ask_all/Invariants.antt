use Rattle.std.proofs.Common.{◌≡◌, ◌<◌, ◌+◌, ◌^◌, List, [], map, length}
use Rattle.kube_model.specs.World.{World}
use Rattle.kube_model.specs.History.{Message, Step, Turn}
use Rattle.kube_model.specs.Queue.{QueueEvent}
use Rattle.kube_turn.specs.Views.{exchange_of}
use Rattle.kube_asks.specs.Kept.{total}
use Rattle.kube_feed.specs.Asked.{AreAsked, MayAsk}
use Rattle.kube_feed.proofs.sources.ask_all.Given as goal

-- as far as the loop has come
abbrev pub invariant-loop-all : goal.invariant-loop-all
invariant-loop-all g l =
    record {
      few : length (g.S.RelatedSet.feeds l.asks.related) + 1 < 2 ^ 32;
      root : g.R.RootSource.can_poll l.asks.root;
      related : g.S.RelatedSet.can_poll l.asks.related;
      feeds : g.S.RelatedSet.feeds l.asks.related ≡ g.S.RelatedSet.feeds l.fn.asks.related;
      kind : g.R.RootSource.kind l.asks.root ≡ g.R.RootSource.kind l.fn.asks.root;
      asked : (w : World _ _) (h : List (Step _)) (t : Turn) (qs : List (QueueEvent Message)) → t.at ≡ l.now.0
          → MayAsk g.R.RootSource g.S.RelatedSet g.B.Backoff g.R.Object.Resource w h t qs [] l.fn.asks l.fn.pending
          → AreAsked g.R.RootSource g.S.RelatedSet g.B.Backoff g.R.Object.Resource w h t qs l.fn.asks (map (exchange_of g.R.Object.Resource.type_of) l.all.items) l.asks l.pending;
    }

-- each exchange uses up one of a budget
abbrev pub decreases-loop-all : goal.decreases-loop-all
decreases-loop-all g l = total l.asks.kept.left
