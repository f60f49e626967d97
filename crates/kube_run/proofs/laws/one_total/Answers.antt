use Rattle.kube_run.proofs.OneRun.{one-total}
use Rattle.kube_run.proofs.laws.one_total.Goals as goal

pub returns : goal.returns
returns c = record { total = one-total }
