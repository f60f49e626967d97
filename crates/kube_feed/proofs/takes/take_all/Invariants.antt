use Rattle.std.proofs.Common.{◌≡◌, List, length}
use Rattle.std.specs.List.{AllByRecursion, filter_map}
use Rattle.kube_model.specs.History.{Message}
use Rattle.kube_model.specs.Queue.{QueueEvent}
use Rattle.kube_model.specs.Raw.{grown_by}
use Rattle.kube_model.specs.Takes.{Running}
use Rattle.kube_history.specs.CoreWorld.{CoreWorld}
use Rattle.kube_core.specs.Pendings.{Stands}
use Rattle.kube_turn.specs.Views.{taken_of}
use Rattle.kube_step.specs.HandOvers.{handed_by}
use Rattle.kube_step.specs.Takes.{IsSomething}
use Rattle.kube_feed.specs.Reads.{IsLater}
use Rattle.kube_feed.proofs.Taking.{HaveGone}
use Rattle.kube_feed.proofs.takes.take_all.Given as goal

-- as far as the loop has come
abbrev pub invariant-loop-take : goal.invariant-loop-take
invariant-loop-take g l =
    let type_of = g.K.Resource.type_of in
    let ts = filter_map (taken_of type_of) l.taken.items in
    record {
      same : IsLater l.fn.reader l.reader;
      count : length ts ≡ l._take;
      handed : g.Rc.Reconciler.handed l.reconciler ≡ grown_by (g.Rc.Reconciler.handed l.fn.reconciler) (handed_by ts);
      something : AllByRecursion (IsSomething type_of) l.taken.items;
      gone : (core : CoreWorld _) (qs : List (QueueEvent Message)) (rs : List (Running _)) → Stands type_of core l.fn.pending qs rs → HaveGone g.K.Resource core qs rs l.fn.reader ts l.pending l.reader;
    }
