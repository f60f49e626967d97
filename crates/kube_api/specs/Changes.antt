-- The changes that the code makes, as those that the definitions of a patch speak of.
use Rattle.std.specs.Prelude.{Bool, true, false, Option, Some, None}
use Rattle.serde_json.specs.View.{view}
use Rattle.kube_api.specs.Patches.{Change, Puts, Takes}
use Rattle.kube_api.specs.declared.change.Change.{Change as ChangeMade}
use Rattle.kube_api.specs.declared.change.Change.TheVariants.{Put, Take}

abbrev pub change_of : ChangeMade → Change
change_of (Put value) = Puts (view value)
change_of Take = Takes

-- what a change left, where it was made
abbrev pub left : {A : Type 0} → Bool → A → Option A
left true a = Some a
left false a = None
