use Rattle.std.proofs.Common.{[], refl, ap}
use Rattle.kube_model.specs.World.{Watched}
use Rattle.kube_server.specs.Connections.{selected_by}
use Rattle.kube_server.specs.Servers.{meta_of}
use Rattle.kube_server.proofs.KeyLemmas.{selected_by-key}
use Rattle.kube_server.proofs.LaterLemmas.{later_equal}
use Rattle.kube_watch.specs.Stands.{api_of}
use Rattle.kube_honest.specs.States.{selection_by}
use Rattle.kube_honest.proofs.Reached.{reached-all, reached-honest}
use Rattle.kube_honest.proofs.Standing.{controller-newest, controller-stores}
use Rattle.kube_honest.proofs.controllers.connected_controllers_store_states.Goals as goal

pub returns-clause-states : goal.returns-clause-states
returns-clause-states g c w h controller s settings by changes compacted acts reached told history gone is_history small later n =
    let conn = api_of controller.asks.root.watcher in
    controller-stores _ g.S.RelatedSet g.B.Backoff _ w h controller s settings (ap Watched by) (selected_by meta_of) (selected_by-key meta_of (selection_by settings)) history is_history small [] conn.talk told
    (reached-honest meta_of changes compacted acts conn history gone reached small later) n

pub returns-clause-newest : goal.returns-clause-newest
returns-clause-newest g c w h controller s settings by changes compacted acts reached told history is_history small whole owes waits =
    let conn = api_of controller.asks.root.watcher in
    controller-newest _ g.S.RelatedSet g.B.Backoff _ w h controller s settings (ap Watched by) (selected_by meta_of) (selected_by-key meta_of (selection_by settings)) history is_history small [] conn.talk told
    (reached-honest meta_of changes compacted acts conn history conn.compacted reached small (later_equal conn.changes history conn.compacted conn.compacted whole refl)) owes
    (reached-all meta_of changes compacted acts conn history reached small whole waits)
