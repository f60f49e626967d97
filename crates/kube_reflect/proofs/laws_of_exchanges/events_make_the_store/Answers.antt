use Rattle.std.proofs.Common.{[]}
use Rattle.kube_reflect.proofs.Exchanging.{all-leave, made-come}
use Rattle.kube_reflect.proofs.laws_of_exchanges.events_make_the_store.Goals as goal

pub returns-clause-left : goal.returns-clause-left
returns-clause-left g c = λ key settings xs may. all-leave key settings xs may

pub returns-clause-made : goal.returns-clause-made
returns-clause-made g c = λ settings before xs made. made-come settings before xs made

pub returns-clause-stored : goal.returns-clause-stored
returns-clause-stored g c = λ key settings xs made. (all-leave key settings xs (made-come settings [] xs made)).stored
