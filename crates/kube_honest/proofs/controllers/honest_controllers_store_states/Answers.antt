use Rattle.std.proofs.Common.{ap}
use Rattle.kube_model.specs.World.{Watched}
use Rattle.kube_honest.proofs.Standing.{controller-stores}
use Rattle.kube_honest.proofs.controllers.honest_controllers_store_states.Goals as goal

pub returns : goal.returns
returns g c w h controller s settings by selects by_key history is_history small before talk told t honest n =
    controller-stores _ g.S.RelatedSet g.B.Backoff g.A.Value.Resource w h controller s settings (ap Watched by) selects by_key history is_history small before talk t honest n
