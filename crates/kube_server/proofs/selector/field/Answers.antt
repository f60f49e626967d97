use Rattle.kube_server.proofs.SelectorLemmas.{asks_none}
use Rattle.kube_server.proofs.selector.field.Goals as goal

pub returns-in-None : goal.returns-in-None
returns-in-None c = asks_none c.args.selector.now c.in-None.ensures.cases
