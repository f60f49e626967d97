use Rattle.kube_meta.proofs.ReferenceOrder.{before-itself, before-transitive, neither-namespaces, neither-names}
use Rattle.kube_meta.proofs.laws.references_have_an_order.Goals as goal

pub returns-clause-itself : goal.returns-clause-itself
returns-clause-itself c a = before-itself a

pub returns-clause-transitive : goal.returns-clause-transitive
returns-clause-transitive c x y z h k = before-transitive x y z h k

pub returns-clause-namespaces : goal.returns-clause-namespaces
returns-clause-namespaces c x y h k = neither-namespaces x y h k

pub returns-clause-names : goal.returns-clause-names
returns-clause-names c x y h k = neither-names x y h k
