use Rattle.std.proofs.Common.{[]}
use Rattle.kube_reflect.proofs.Staying.{own-handle, stay-by}
use Rattle.kube_reflect.proofs.store.Writer.subscribe.Goals as goal

pub returns-clause-own : goal.returns-clause-own
returns-clause-own g c = own-handle c.args.self.now c.subscribe_once.new.self c.subscribe_once.result c.subscribe_once.ensures.none c.subscribe_once.ensures.handle c.subscribe_once.ensures.writer

pub returns-clause-live : goal.returns-clause-live
returns-clause-live g c = λ number h. stay-by c.args.self.now c.subscribe_once.new.self [] c.subscribe_once.result c.subscribe_once.ensures.writer c.subscribe_once.ensures.err number h
