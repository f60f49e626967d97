use Rattle.std.proofs.Common.{◌≡◌, map, take, false}
use Rattle.std.specs.List.{fold, flat_map}
use Rattle.std.specs.Arc.{arc_value}
use Rattle.kube_watch.specs.Agrees.{objects_of}
use Rattle.kube_watch.specs.Events.{event_map}
use Rattle.kube_asks.specs.Noting.{noted_of, after_event, request_of, any_unnamed}
use Rattle.kube_asks.proofs.noting.note_all.Given as goal

-- as far as the loop has come
abbrev pub invariant-loop-event : goal.invariant-loop-event
invariant-loop-event g l =
    let meta = g.K.Resource.meta_of in
    let type_of = g.K.Resource.type_of in
    let seen = map (event_map arc_value) (take l.event-index l.events) in
    record {
      noted : noted_of type_of l.noted ≡ fold (after_event (request_of (type_of l.dyntype) meta)) (noted_of type_of l.fn.noted) seen;
      named : any_unnamed meta (flat_map objects_of seen) ≡ false;
    }
