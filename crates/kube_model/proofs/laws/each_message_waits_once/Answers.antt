use Rattle.std.proofs.Common.{◌++◌}
use Rattle.std.specs.Cmp.{on_equiv}
use Rattle.kube_meta.specs.ReferenceLaws.{same_reference_equiv}
use Rattle.kube_model.specs.History.{Message, same_message}
use Rattle.kube_model.specs.Requests.{events_of, turn_events}
use Rattle.kube_model.proofs.Waits.{waiting-once}
use Rattle.kube_model.proofs.laws.each_message_waits_once.Goals as goal

pub returns : goal.returns
returns g c w h t r finished xs =
    waiting-once same_message (on_equiv (λ (m : Message). m.reference) same_reference_equiv) w.debounce (events_of w h ++ turn_events w h t r finished xs)
