-- What an object asks of a finalizer, and the patch that is then sent. (Kubernetes API concept "finalizers"; crate: `finalizer`.)
use Rattle.std.specs.Prelude.{ℕ, ◌<◌, ◌^◌, Bool, true, false, List, [], ◌∷◌, ◌++◌, map, Option, Some, None, is_some, unwrap_or, codes, decimal}
use Rattle.std.specs.Str.{bytes_eq}
use Rattle.std.specs.List.{position_from}
use Rattle.std.specs.Arc.{arc_value}
use Rattle.serde_json.specs.Data.{Data, null, string, array}
use Rattle.serde_json.specs.View.{items_of}
use Rattle.kube_meta.specs.declared.metadata.ObjectMeta.{ObjectMeta}
use Rattle.kube_api.specs.Patches.{Operation, Tests, Changes, Puts, Takes}
use Rattle.kube_final.specs.declared.finalizer.Decision.{Decision}
use Rattle.kube_final.specs.declared.finalizer.Decision.TheVariants.{Apply, Cleanup, AddFirst, AddMore, Nothing, Unnamed}
use Rattle.kube_final.specs.declared.finalizer.Event.{Event}
use Rattle.kube_final.specs.declared.finalizer.Event.TheVariants.{Apply as ApplyEvent, Cleanup as CleanupEvent}

-- ---- the decision

abbrev pub finalizers_in : ObjectMeta → List (List ℕ)
finalizers_in meta = unwrap_or meta.finalizers []

-- by whether the object has a name, whether it is being deleted, the index at which the finalizer stands first, and all finalizers
abbrev pub decided : Bool → Bool → Option ℕ → List (List ℕ) → Decision
decided named false (Some i) names = Apply
decided true true (Some i) names = Cleanup i
decided false true (Some i) names = Unnamed
decided true false None [] = AddFirst
decided true false None (n ∷ ns) = AddMore
decided false false None names = Unnamed
decided named true None names = Nothing

-- the index at which a name stands first
abbrev pub first_index : List ℕ → List (List ℕ) → Option ℕ
first_index name names = position_from (λ other. bytes_eq other name) 0 names

abbrev pub decision_on : List ℕ → ObjectMeta → Decision
decision_on name meta = decided (is_some meta.name) (is_some meta.deletion_timestamp) (first_index name (finalizers_in meta)) (finalizers_in meta)

-- ---- the branch that is owed

pub data Branch (K : Type 0) : Type 0 where
  Applies : (object : K) → Branch K
  Cleans : (object : K) → Branch K

abbrev pub branch_of : {K : Type 0} → Event K → Branch K
branch_of (ApplyEvent object) = Applies (arc_value object)
branch_of (CleanupEvent object) = Cleans (arc_value object)

abbrev pub branch_on : {K : Type 0} → Decision → K → Option (Branch K)
branch_on Apply object = Some (Applies object)
branch_on (Cleanup i) object = Some (Cleans object)
branch_on AddFirst object = None
branch_on AddMore object = None
branch_on Nothing object = None
branch_on Unnamed object = None

-- ---- the patch

abbrev pub list_path : List ℕ
list_path = codes "/metadata/finalizers"

abbrev pub item_path : ℕ → List ℕ
item_path i = codes "/metadata/finalizers/" ++ decimal i

abbrev pub end_path : List ℕ
end_path = codes "/metadata/finalizers/-"

abbrev pub names_data : List (List ℕ) → Data
names_data names = array (items_of (map string names))

-- the finalizer is taken out at this index, if it is still there
abbrev pub removal : List ℕ → ℕ → List Operation
removal name i = Tests (item_path i) (string name) ∷ Changes (item_path i) Takes ∷ []

-- it becomes the first one, if there is still none
abbrev pub first_addition : List ℕ → List Operation
first_addition name = Tests list_path null ∷ Changes list_path (Puts (names_data (name ∷ []))) ∷ []

-- it is added at the end, if the others are still these
abbrev pub addition : List ℕ → List (List ℕ) → List Operation
addition name names = Tests list_path (names_data names) ∷ Changes end_path (Puts (string name)) ∷ []

-- other finalizers stand in their place
abbrev pub replacement : List (List ℕ) → List Operation
replacement names = Changes list_path (Puts (names_data names)) ∷ []

-- what is sent, by the finalizer's name and the finalizers that were seen; nothing where no patch is owed
abbrev pub patch_on : List ℕ → List (List ℕ) → Decision → List Operation
patch_on name names Apply = []
patch_on name names (Cleanup i) = removal name i
patch_on name names AddFirst = first_addition name
patch_on name names AddMore = addition name names
patch_on name names Nothing = []
patch_on name names Unnamed = []

-- the index of a removal is one that a `u64` holds
abbrev pub IsSmall : Decision → Type 0
IsSmall (Cleanup i) = i < 2 ^ 64
IsSmall Apply = Unit {0}
IsSmall AddFirst = Unit {0}
IsSmall AddMore = Unit {0}
IsSmall Nothing = Unit {0}
IsSmall Unnamed = Unit {0}
