use Rattle.kube_sched.proofs.Least.{least-time}
use Rattle.kube_sched.proofs.laws.entry_has_the_least_time.Goals as goal

pub returns : goal.returns
returns g c same events moments m e is_entry is_open = least-time same m events moments e is_entry is_open
