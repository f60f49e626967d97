use Rattle.kube_watch.specs.Polls.{api_in}
use Rattle.kube_final.proofs.WaitLoops.{IsAsking}
use Rattle.kube_final.proofs.wait.poll_end.Given as goal

abbrev pub invariant-loop-asked : goal.invariant-loop-asked
invariant-loop-asked g l =
    IsAsking (api_in g.A.ApiMode g.A.Value.Resource.meta_of)
    (g.C.Condition.says l.condition) l.now.0 l._asked l.fn.watch l.watch
