use Rattle.kube_history.proofs.Calls.{idle-is}
use Rattle.kube_history.proofs.laws.idle_is_nothing_running.Goals as goal

pub returns : goal.returns
returns g c w h t m es a = idle-is w h t m es a
