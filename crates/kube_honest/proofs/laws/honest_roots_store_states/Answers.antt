use Rattle.kube_honest.proofs.Turns.{trace-stores}
use Rattle.kube_honest.proofs.laws.honest_roots_store_states.Goals as goal

pub returns : goal.returns
returns g c w settings watched kind meta of_meta selects by_key history is_history small policies ts ms k before talk r honest n =
    trace-stores w settings watched kind meta of_meta selects history by_key is_history small policies ts ms k before talk r honest n
