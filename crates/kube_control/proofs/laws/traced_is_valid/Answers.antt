use Rattle.kube_control.proofs.Refusals.{refused-invalid, trace-valid}
use Rattle.kube_control.proofs.laws.traced_is_valid.Goals as goal

pub returns-clause-traced : goal.returns-clause-traced
returns-clause-traced g c w policies h ts ms k = trace-valid w policies h ts ms k

pub returns-clause-refused : goal.returns-clause-refused
returns-clause-refused g c w policies h ts ms why k v = refused-invalid w policies h ts ms why k v
