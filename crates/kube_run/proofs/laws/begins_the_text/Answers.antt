use Rattle.kube_run.proofs.Ends.{begins-the-end}
use Rattle.kube_run.proofs.laws.begins_the_text.Goals as goal

pub returns : goal.returns
returns c = record { begins = begins-the-end }
