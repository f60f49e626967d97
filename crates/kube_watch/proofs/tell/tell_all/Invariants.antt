use Rattle.std.proofs.Common.{◌≡◌, ◌++◌, take, map}
use Rattle.std.specs.Arc.{arc_value}
use Rattle.kube_watch.specs.Events.{event_map}
use Rattle.kube_watch.specs.Told.{told_as}
use Rattle.kube_watch.proofs.tell.tell_all.Given as goal

-- the objects so far were told
abbrev pub invariant-loop-item : goal.invariant-loop-item
invariant-loop-item g l =
    map (event_map arc_value) l.events
    ≡ map (event_map arc_value) l.fn.events ++ map (told_as l.form) (map arc_value (take l.item-index l.items))
