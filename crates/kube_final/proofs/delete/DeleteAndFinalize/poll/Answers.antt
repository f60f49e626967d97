use Rattle.std.proofs.Common.{refl}
use Rattle.kube_watch.specs.Polls.{api_in}
use Rattle.kube_final.specs.FinalizerPolls.{objects_in}
use Rattle.kube_final.proofs.DeleteLosses.{lost_still}
use Rattle.kube_final.proofs.delete.DeleteAndFinalize.poll.Goals as goal

pub returns-then-self-clause-lost : goal.returns-then-self-clause-lost
returns-then-self-clause-lost g c =
    lost_still (objects_in g.O.ObjectApi) g.O.Value.Resource.meta_of (api_in g.A.ApiMode g.A.Value.Resource.meta_of) g.A.Value.Resource.meta_of
    c.args.now.0 c.args.fuel c.args.self.now.uid c.args.objects.now c.args.objects.now c.args.self.now c.args.self.now refl refl
