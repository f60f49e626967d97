use Rattle.std.proofs.Common.{◌<◌, length, arith, not}
use Rattle.std.specs.Arc.{arc_value}
use Rattle.kube_meta.specs.Keys.{is_named}
use Rattle.kube_watch.specs.Agrees.{objects_of}
use Rattle.kube_watch.specs.Events.{event_map}
use Rattle.kube_asks.specs.Noting.{after_event, request_of}
use Rattle.kube_asks.proofs.Notes.{fold-more, none-more, any-at}
use Rattle.kube_asks.proofs.noting.note_all.Goals as goal

pub returns-in-Err-clause-unnamed : goal.returns-in-Err-clause-unnamed
returns-in-Err-clause-unnamed g c h =
    let meta = g.K.Resource.meta_of in
    let l : c.loop-event.event-index < length c.args.events.now = omega arith in
    any-at (event_map arc_value) objects_of (λ o. not (is_named (meta o))) c.args.events.now c.loop-event.event-index c.event-item.result l c.event-item.is (c.in-Err.ensures.unnamed h)

pub loop-event-preserved : goal.loop-event-preserved
loop-event-preserved g c =
    let meta = g.K.Resource.meta_of in
    let type_of = g.K.Resource.type_of in
    let l : c.loop-event.event-index < length c.args.events.now = omega arith in
    record {
      noted =
          fold-more (event_map arc_value) objects_of (λ o. not (is_named (meta o))) (after_event (request_of (type_of c.args.dyntype.now) meta)) _ _ _
          c.args.events.now c.loop-event.event-index c.event-item.result l c.event-item.is c.loop-event.invariant.noted c.in-Ok.ensures.noted;
      named = none-more (event_map arc_value) objects_of (λ o. not (is_named (meta o))) c.args.events.now c.loop-event.event-index c.event-item.result l c.event-item.is c.loop-event.invariant.named c.in-Ok.ensures.named;
    }
