use Rattle.std.proofs.Common.{◌≡◌, ◌≤◌, ◌+◌, ◌++◌, List, length}
use Rattle.std.specs.List.{AllByRecursion, filter_map}
use Rattle.kube_model.specs.Raw.{grown_by}
use Rattle.kube_history.specs.CoreWorld.{CoreWorld}
use Rattle.kube_history.specs.CoreEvents.{CoreEvent}
use Rattle.kube_core.specs.Cores.{StandsFor}
use Rattle.kube_turn.specs.Views.{taken_of}
use Rattle.kube_step.specs.HandOvers.{handed_by}
use Rattle.kube_step.specs.Takes.{IsSomething, taken_so_far}
use Rattle.kube_step.proofs.Waits.{waits_after}
use Rattle.kube_step.proofs.takes.take_all.Given as goal

-- as far as the loop has come
abbrev pub invariant-loop-take : goal.invariant-loop-take
invariant-loop-take g l =
    let type_of = g.K.Resource.type_of in
    let meta = g.K.Resource.meta_of in
    let ts = filter_map (taken_of type_of) l.taken.items in
    record {
      clock : l.core.clock.0 ≤ l.now.0;
      writer : l.core.writer ≡ l.fn.core.writer;
      count : length ts ≡ l._take;
      handed : g.Rc.Reconciler.handed l.reconciler ≡ grown_by (g.Rc.Reconciler.handed l.fn.reconciler) (handed_by ts);
      something : AllByRecursion (IsSomething type_of) l.taken.items;
      stands : (world : CoreWorld _) (es : List (CoreEvent _)) → StandsFor type_of meta world es l.fn.core
          → StandsFor type_of meta world (es ++ taken_so_far l.now.0 ts) l.core × (length (waits_after world (es ++ taken_so_far l.now.0 ts)) + length ts ≤ length (waits_after world es));
    }
