-- What was handed over, one after another.
use Rattle.std.proofs.Common.{◌≡◌, List, ◌∷◌, ◌++◌, refl}
use Rattle.std.specs.List.{filter_map}
use Rattle.std.specs.Option.{option_to_list}
use Rattle.kube_meta.specs.Reading.{ObjectData}
use Rattle.kube_object.specs.Named.{Named, named_type}
use Rattle.kube_turn.specs.Views.{taken_of}
use Rattle.kube_turn.specs.declared.taken.Taken.{Taken}
use Rattle.kube_turn.specs.declared.taken.Taken.TheVariants.{Started, NotFound, Nothing}
use Rattle.kube_run.specs.GeneratedRun.{references_in}

abbrev pub Held : Type 0
Held = Taken ObjectData Named

-- what was handed over of one more, and of the rest
pub references-cons : (t : Held) (ts : List Held) → references_in (filter_map (taken_of named_type) (t ∷ ts)) ≡ references_in (option_to_list (taken_of named_type t)) ++ references_in (filter_map (taken_of named_type) ts)
references-cons (Started reference reason object) ts = refl
references-cons (NotFound reference reason) ts = refl
references-cons Nothing ts = refl
