use Rattle.kube_final.proofs.AnyObject.{changes-finalizers, server-changes}
use Rattle.kube_final.proofs.laws.patches_change_finalizers_alone.Goals as goal

pub returns-clause-document : goal.returns-clause-document
returns-clause-document c o content whole name decision seen sendable = changes-finalizers o content whole name decision seen sendable

pub returns-clause-server : goal.returns-clause-server
returns-clause-server c revision o content whole name decision seen sendable = server-changes revision o content whole name decision seen sendable
