use Rattle.kube_reflect.specs.Writers.{references_for}
use Rattle.kube_reflect.proofs.Staying.{has-ring, own-number, stay-by}
use Rattle.kube_reflect.proofs.store.Writer.copy_subscriber.Goals as goal

pub returns-clause-own : goal.returns-clause-own
returns-clause-own g c =
    own-number c.args.self.now c.copy_once.new.self (references_for c.args.self.now c.args.number) c.copy_once.result (has-ring c.args.self.now c.args.number c.requires)
    c.copy_once.ensures.number c.copy_once.ensures.writer

pub returns-clause-live : goal.returns-clause-live
returns-clause-live g c = λ number h.
    stay-by c.args.self.now c.copy_once.new.self (references_for c.args.self.now c.args.number) c.copy_once.result c.copy_once.ensures.writer c.copy_once.ensures.err number h
