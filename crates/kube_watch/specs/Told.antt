-- How objects are told, between code and definitions.
use Rattle.kube_watch.specs.declared.event.Event.{Event}
use Rattle.kube_watch.specs.Events.{event_map}

-- an event of this form, of an object
abbrev pub told_as : {O : Type 0} → Event (Unit {0}) → O → Event O
told_as form object = event_map (λ u. object) form
