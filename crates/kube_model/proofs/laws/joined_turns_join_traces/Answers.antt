use Rattle.kube_model.proofs.Joins.{joined}
use Rattle.kube_model.proofs.laws.joined_turns_join_traces.Goals as goal

pub returns : goal.returns
returns g c w policies h ts us ms ns k l = joined w policies h ts us ms ns k l
