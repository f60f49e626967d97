use Rattle.kube_honest.proofs.Turns.{exchanges-newest, exchanges-store}
use Rattle.kube_honest.proofs.laws.honest_exchanges_store_states.Goals as goal

pub returns-clause-states : goal.returns-clause-states
returns-clause-states g c w settings watched kind meta of_meta selects by_key history is_history small ds f before talk r honest =
    exchanges-store w settings watched kind meta of_meta selects history by_key is_history small ds f before talk r honest

pub returns-clause-newest : goal.returns-clause-newest
returns-clause-newest g c w settings watched kind meta of_meta selects by_key history is_history small ds f before talk r honest owes all =
    exchanges-newest w settings watched kind meta of_meta selects history by_key is_history small ds f before talk r honest owes all
