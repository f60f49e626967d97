-- What was handed to a reconciler, as plain data.
use Rattle.std.specs.Prelude.{List, Option}
use Rattle.std.specs.List.{filter_map, flat_map}
use Rattle.std.specs.Option.{option_map}
use Rattle.std.specs.Arc.{arc_value}
use Rattle.kube_meta.specs.Reference.{ObjectType, Reference}
use Rattle.kube_meta.specs.Keys.{reference_of}
use Rattle.kube_model.specs.History.{Taken, TurnRecord}
use Rattle.kube_step.specs.declared.reconciler.Handed.{Handed}

abbrev pub hand_over : {K D : Type 0} → (D → ObjectType) → Handed K D → Reference × K
hand_over type_of h = (reference_of type_of h.reference, arc_value h.object)

-- what a take hands over: the object that it found, under the message's reference
abbrev pub handed : {O : Type 0} → Taken O → Option (Reference × O)
handed t = option_map (λ o. (t.message.reference, o)) t.object

-- what these takes hand over, in order
abbrev pub handed_by : {O : Type 0} → List (Taken O) → List (Reference × O)
handed_by ts = filter_map handed ts

-- all that these records took, in order
abbrev pub taken_by : {O : Type 0} → List (TurnRecord O) → List (Taken O)
taken_by rs = flat_map (λ r. r.taken) rs
