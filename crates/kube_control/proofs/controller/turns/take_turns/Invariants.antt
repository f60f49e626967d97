use Rattle.std.proofs.Common.{◌≡◌, ◌≤◌, List, length, map}
use Rattle.std.specs.Arc.{arc_value}
use Rattle.std.specs.List.{AllByRecursion}
use Rattle.kube_model.specs.World.{World}
use Rattle.kube_model.specs.History.{Step}
use Rattle.kube_model.specs.Raw.{grown_by}
use Rattle.kube_core.specs.Cores.{HasSameHandles}
use Rattle.kube_turn.specs.Records.{record_of, turn_of}
use Rattle.kube_turn.specs.declared.record.TurnRecord.{TurnRecord}
use Rattle.kube_step.specs.HandOvers.{handed_by, taken_by}
use Rattle.kube_step.specs.Policies.{Answers}
use Rattle.kube_step.specs.Takes.{IsSomething}
use Rattle.kube_control.specs.Runs.{AreFinishedIn, HaveRun, IsWatching}
use Rattle.kube_control.proofs.controller.turns.take_turns.Given as goal

-- the turns so far have run
abbrev pub invariant-loop-turn : goal.invariant-loop-turn
invariant-loop-turn g l =
    let type_of = g.R.Object.Resource.type_of in
    record {
      feeds : g.S.RelatedSet.feeds l.controller.asks.related ≡ g.S.RelatedSet.feeds l.fn.controller.asks.related;
      root : g.R.RootSource.can_poll l.controller.asks.root;
      related : g.S.RelatedSet.can_poll l.controller.asks.related;
      handles : HasSameHandles l.fn.controller.core.writer l.controller.core.writer;
      spent : l.controller.is_spent ≡ l.fn.controller.is_spent;
      short : length l.records.items ≤ length l.yielded;
      done : (w : World _ _) (h : List (Step _)) → IsWatching g.R.RootSource g.S.RelatedSet g.B.Backoff g.R.Object.Resource w h l.fn.controller
          → HaveRun g.R.RootSource g.S.RelatedSet g.B.Backoff g.R.Object.Resource w h (map (turn_of type_of) l.yielded) l.fn.controller (map (record_of type_of) l.records.items) l.controller
          × AreFinishedIn type_of (Answers g.P.Fn l.error_policy (arc_value l.context)) h l.yielded l.records.items;
      handed : g.Rc.Reconciler.handed l.reconciler ≡ grown_by (g.Rc.Reconciler.handed l.fn.reconciler) (handed_by (taken_by (map (record_of type_of) l.records.items)));
      something : AllByRecursion (λ (r : TurnRecord _ _ _). AllByRecursion (IsSomething type_of) r.taken) l.records.items;
    }
