use Rattle.std.proofs.Common.{sym, drop}
use Rattle.kube_reflect.proofs.Turning.{turns}
use Rattle.kube_reflect.proofs.Pending.{published, after_show, tied_after}
use Rattle.kube_reflect.proofs.copies.show.show_pending.Goals as goal

pub publish_as-requires : goal.publish_as-requires
publish_as-requires g c next is =
    let type_of = g.K.Resource.type_of in
    let meta = g.K.Resource.meta_of in
    let w = c.args.inner in
    let p = published type_of meta w.desk.shown.value next (drop w.behind w.log.items) c.args.origin.now is c.requires.named c.requires.behind c.requires.readable in
    turns type_of meta _ _ w.desk.shown.value next (sym p.1) p.2

pub returns-clause-behind : goal.returns-clause-behind
returns-clause-behind g c = (after_show g.K.Resource.type_of g.K.Resource.meta_of c.args.inner.desk.shown.value c.publish_as.result.0.desk.shown.value (drop c.args.inner.behind c.args.inner.log.items) (drop c.publish_as.result.0.behind c.publish_as.result.0.log.items) c.args.origin.now c.publish_as.result.1 c.requires.named c.requires.behind c.requires.readable c.publish_as.ensures.values).0

pub returns-clause-shown : goal.returns-clause-shown
returns-clause-shown g c = (after_show g.K.Resource.type_of g.K.Resource.meta_of c.args.inner.desk.shown.value c.publish_as.result.0.desk.shown.value (drop c.args.inner.behind c.args.inner.log.items) (drop c.publish_as.result.0.behind c.publish_as.result.0.log.items) c.args.origin.now c.publish_as.result.1 c.requires.named c.requires.behind c.requires.readable c.publish_as.ensures.values).1

pub returns-clause-tied : goal.returns-clause-tied
returns-clause-tied g c =
    tied_after g.K.Resource.type_of g.K.Resource.meta_of _ _ c.args.inner.desk.shown.value c.publish_as.result.0.desk.shown.value c.args.origin.now (drop c.publish_as.result.0.behind c.publish_as.result.0.log.items) c.publish_as.result.1 (after_show g.K.Resource.type_of g.K.Resource.meta_of c.args.inner.desk.shown.value c.publish_as.result.0.desk.shown.value (drop c.args.inner.behind c.args.inner.log.items) (drop c.publish_as.result.0.behind c.publish_as.result.0.log.items) c.args.origin.now c.publish_as.result.1 c.requires.named c.requires.behind c.requires.readable c.publish_as.ensures.values).0 c.publish_as.ensures.rule
