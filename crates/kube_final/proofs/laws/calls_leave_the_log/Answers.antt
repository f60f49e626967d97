use Rattle.kube_final.proofs.LogLaws.{calls-keep}
use Rattle.kube_final.proofs.laws.calls_leave_the_log.Goals as goal

pub returns : goal.returns
returns c talk faults version settings now old new xs calls = calls-keep talk faults version settings now old new xs calls
