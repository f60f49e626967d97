use Rattle.std.proofs.Common.{◌<◌, ◌∙◌, ap, ap₂, sym, length, arith}
use Rattle.std.specs.Arc.{arc_value}
use Rattle.kube_watch.specs.Events.{event_map}
use Rattle.kube_reflect.specs.Cached.{has_name}
use Rattle.kube_reflect.specs.Published.{keeping_with}
use Rattle.kube_reflect.proofs.Making.{fold-next, all-next}
use Rattle.kube_reflect.proofs.keeper.apply_each.Goals as goal

pub loop-event-preserved : goal.loop-event-preserved
loop-event-preserved g c =
    let meta = g.K.Resource.meta_of in
    let kind = g.K.Resource.type_of c.args.dyntype.now in
    let all = c.args.events.now in
    let i = c.loop-event.event-index in
    let x = c.event-item.result in
    let h : c.loop-event.event-index < length c.args.events.now = omega arith in
    record {
      applied =
          ap₂ (λ k es. record { kind = kind; kept = k; events = es }) c.in_ok-apply.ensures.applied c.one_more-history.ensures
          ∙ (ap (λ k. keeping_with arc_value meta k x) c.loop-event.invariant.applied
          ∙ sym (fold-next (keeping_with arc_value meta) (record { kind = kind; kept = c.args.made; events = c.args.history.log }) all i x h c.event-item.is));
      named = all-next (λ e. has_name meta (event_map arc_value e)) all i x h c.event-item.is c.loop-event.invariant.named c.in_ok-apply.ensures.named;
    }
