use Rattle.std.proofs.Common.{◌≡◌, true, take}
use Rattle.std.specs.List.{fold, list_all}
use Rattle.std.specs.Arc.{arc_value}
use Rattle.kube_watch.specs.Events.{event_map}
use Rattle.kube_reflect.specs.Cached.{has_name}
use Rattle.kube_reflect.specs.Published.{keeping_with}
use Rattle.kube_reflect.proofs.keeper.apply_each.Given as goal

-- those before were applied, and have names
abbrev pub invariant-loop-event : goal.invariant-loop-event
invariant-loop-event g l =
    let meta = g.K.Resource.meta_of in
    let kind = g.K.Resource.type_of l.dyntype in
    record {
      applied : record { kind = kind; kept = l.made; events = l.history.log } ≡ fold (keeping_with arc_value meta) (record { kind = kind; kept = l.fn.made; events = l.fn.history.log }) (take l.event-index l.events);
      named : list_all (λ e. has_name meta (event_map arc_value e)) (take l.event-index l.events) ≡ true;
    }
