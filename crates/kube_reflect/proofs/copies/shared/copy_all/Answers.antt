use Rattle.std.proofs.Common.{◌<◌, length, arith}
use Rattle.kube_reflect.proofs.Telling.{copy_next}
use Rattle.kube_reflect.proofs.copies.shared.copy_all.Goals as goal

pub loop-event-preserved : goal.loop-event-preserved
loop-event-preserved g c =
    let h : c.loop-event.event-index < length c.args.events.now = omega arith in
    copy_next _ _ _ c.event-item.result c.args.events.now c.loop-event.event-index c.in_ok-push_back.ensures.items c.in_ok-copy.ensures h c.event-item.is c.loop-event.invariant
