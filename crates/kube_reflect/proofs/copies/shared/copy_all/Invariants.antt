use Rattle.std.proofs.Common.{◌≡◌, map, take}
use Rattle.std.specs.Arc.{arc_value}
use Rattle.kube_watch.specs.Events.{event_map}
use Rattle.kube_reflect.specs.Entries.{entries_of}
use Rattle.kube_reflect.specs.Copies.{added}
use Rattle.kube_reflect.proofs.copies.shared.copy_all.Given as goal

abbrev pub invariant-loop-event : goal.invariant-loop-event
invariant-loop-event g l = added l.ops.items ≡ entries_of (map (event_map arc_value) (take l.event-index l.events))
