use Rattle.std.proofs.Common.{◌≡◌, map, take}
use Rattle.std.specs.Arc.{arc_value}
use Rattle.kube_model.specs.Raw.{GivesAdded}
use Rattle.kube_api.specs.Answers.{event_answer}
use Rattle.kube_server.proofs.watching.initial_events.Given as goal

abbrev pub invariant-loop-object : goal.invariant-loop-object
invariant-loop-object l = map event_answer l.events.items ≡ map GivesAdded (map arc_value (take l.object-index l.objects))
