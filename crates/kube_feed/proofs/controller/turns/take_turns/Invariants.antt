use Rattle.std.proofs.Common.{◌≡◌, ◌≤◌, List, length, map}
use Rattle.std.specs.Arc.{arc_value}
use Rattle.std.specs.List.{AllByRecursion}
use Rattle.kube_model.specs.World.{World}
use Rattle.kube_model.specs.History.{Step}
use Rattle.kube_model.specs.Raw.{grown_by}
use Rattle.kube_model.specs.Traces.{Made}
use Rattle.kube_turn.specs.Records.{record_of, turn_of}
use Rattle.kube_turn.specs.declared.record.TurnRecord.{TurnRecord}
use Rattle.kube_step.specs.HandOvers.{handed_by, taken_by}
use Rattle.kube_step.specs.Policies.{Answers}
use Rattle.kube_step.specs.Takes.{IsSomething}
use Rattle.kube_feed.specs.Fed.{StandsFor}
use Rattle.kube_feed.specs.Reads.{AreReadIn, IsLater}
use Rattle.kube_feed.specs.Runs.{AreFinishedIn, HaveRun, records_in}
use Rattle.kube_feed.proofs.controller.turns.take_turns.Given as goal

-- the turns so far have run
abbrev pub invariant-loop-turn : goal.invariant-loop-turn
invariant-loop-turn g l =
    let type_of = g.R.Object.Resource.type_of in
    record {
      feeds : g.S.RelatedSet.feeds l.controller.asks.related ≡ g.S.RelatedSet.feeds l.fn.controller.asks.related;
      root : g.R.RootSource.can_poll l.controller.asks.root;
      related : g.S.RelatedSet.can_poll l.controller.asks.related;
      same : IsLater l.fn.controller.reader l.controller.reader;
      spent : l.controller.is_spent ≡ l.fn.controller.is_spent;
      short : length l.records.items ≤ length l.yielded;
      done : (w : World _ _) (h : List (Step _)) → StandsFor g.R.RootSource g.S.RelatedSet g.B.Backoff g.R.Object.Resource w h l.fn.controller
          → (ms : List (Made _)) × (records_in ms ≡ map (record_of type_of) l.records.items) × AreReadIn g.R.Object.Resource.meta_of ms l.fn.controller.reader l.controller.reader
          × HaveRun g.R.RootSource g.S.RelatedSet g.B.Backoff g.R.Object.Resource w h (map (turn_of type_of) l.yielded) l.fn.controller ms l.controller
          × AreFinishedIn type_of (Answers g.P.Fn l.error_policy (arc_value l.context)) h l.yielded l.records.items ms;
      handed : g.Rc.Reconciler.handed l.reconciler ≡ grown_by (g.Rc.Reconciler.handed l.fn.reconciler) (handed_by (taken_by (map (record_of type_of) l.records.items)));
      something : AllByRecursion (λ (r : TurnRecord _ _ _). AllByRecursion (IsSomething type_of) r.taken) l.records.items;
    }
