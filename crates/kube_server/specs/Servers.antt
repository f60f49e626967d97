-- What a server holds, and what each call makes of it: one change of its history, or none. (Kubernetes API concepts: resource versions, uids, finalizers, resource deletion.)
use Rattle.std.specs.Prelude.{◌≡◌, ℕ, ◌+◌, ◌≤◌, max, min, Bool, true, false, ◌&&◌, not, if◌then◌else◌, is_some, is_none, List, [], ◌∷◌, ◌++◌, length, Option, Some, None, Result, Ok, Err, option_map, option_and_then, decimal, codes}
use Rattle.serde_json.specs.Data.{Data}
use Rattle.kube_meta.specs.declared.metadata.ObjectMeta.{ObjectMeta}
use Rattle.kube_meta.specs.declared.dynamic.DynamicObject.{DynamicObject}
use Rattle.kube_meta.specs.declared.object_fault.ObjectFault.{ObjectFault}
use Rattle.kube_meta.specs.Reference.{ObjectType, Reference, same_type}
use Rattle.kube_meta.specs.Reading.{ObjectData, seen_object, object_data_at, unless_empty}
use Rattle.kube_meta.specs.Writing.{object_data}
use Rattle.kube_api.specs.declared.patch.PatchRefusal.{PatchRefusal}
use Rattle.kube_api.specs.declared.patch.PatchRefusal.TheVariants.{NotAnObject, NotFound, NoMemory as PatchMemory}
use Rattle.kube_api.specs.Patches.{Operation, patched}
use Rattle.kube_server.specs.History.{Key, Change, Adds, Modifies, Removes, change_seen, object_at, state_of}

-- a server: the type of its objects, its history, and up to which revision that counts as gone
pub record ServerState : Type 0 where
  pub kind : ObjectType
  pub changes : List (Change DynamicObject)
  pub compacted : ℕ

abbrev pub meta_of : DynamicObject → ObjectMeta
meta_of o = o.metadata

abbrev pub data_meta : ObjectData → ObjectMeta
data_meta o = o.metadata

-- the newest revision, and the one that the next change gets
abbrev pub newest : ServerState → ℕ
newest s = length s.changes

abbrev pub next_revision : ServerState → ℕ
next_revision s = length s.changes + 1

-- ---- what it holds

abbrev pub reference_key : Reference → Key
reference_key r = record { namespace = r.namespace; name = r.name }

abbrev pub held_under : ServerState → Key → Option ObjectData
held_under s key = option_map seen_object (object_at key (state_of meta_of s.changes))

-- the object of a reference, which is of the server's type
abbrev pub held : ServerState → Reference → Option ObjectData
held s r = if same_type r.kind s.kind then held_under s (reference_key r) else None

-- the object itself, with all that isn't seen of it
abbrev pub held_object : ServerState → Reference → Option DynamicObject
held_object s r = if same_type r.kind s.kind then object_at (reference_key r) (state_of meta_of s.changes) else None

-- ---- one change

-- the history has this change more, and all else is as before
pub record IsStep (old new : ServerState) (change : Change ObjectData) : Type 0 where
  pub made : Change DynamicObject
  pub seen : change_seen seen_object made ≡ change
  pub grown : new ≡ record old { changes = old.changes ++ made ∷ [] }

-- this change, and where there is none nothing
abbrev pub IsAtMostStep : ServerState → ServerState → Option (Change ObjectData) → Type 0
IsAtMostStep old new None = new ≡ old
IsAtMostStep old new (Some change) = IsStep old new change

-- there is such a change, and it was made
abbrev pub IsMade : ServerState → ServerState → Option (Change ObjectData) → Type 0
IsMade old new None = ⊥
IsMade old new (Some change) = IsStep old new change

abbrev pub with_version : ℕ → ObjectData → ObjectData
with_version r o = record o { metadata = record o.metadata { resource_version = Some (decimal r) } }

-- ---- puts

-- a new object's uid, where it brings none
abbrev pub made_uid : ℕ → List ℕ
made_uid r = codes "uid-" ++ decimal r

-- its own uid, else that of the object in whose place it comes, else a new one
abbrev pub uid_of : ℕ → Option (List ℕ) → Option ObjectData → Option (List ℕ)
uid_of r (Some uid) stored = Some uid
uid_of r None (Some o) = o.metadata.uid
uid_of r None None = Some (made_uid r)

abbrev pub put_object : ℕ → Option ObjectData → ObjectData → ObjectData
put_object r stored o =
    record o { metadata = record o.metadata { uid = uid_of r o.metadata.uid stored; resource_version = Some (decimal r) } }

abbrev pub put_over : ℕ → Option ObjectData → ObjectData → Change ObjectData
put_over r None o = Adds (put_object r None o)
put_over r (Some stored) o = Modifies (put_object r (Some stored) o)

-- a put of an object under its key
abbrev pub put_change : ServerState → Key → ObjectData → Change ObjectData
put_change s key o = put_over (next_revision s) (held_under s key) o

-- ---- removals

abbrev pub removal : ℕ → ObjectData → Change ObjectData
removal r o = Removes (with_version r o)

abbrev pub remove_change : ServerState → Reference → Option (Change ObjectData)
remove_change s r = option_map (removal (next_revision s)) (held s r)

-- ---- requests to delete

abbrev pub has_finalizers : ObjectMeta → Bool
has_finalizers m = is_some (unless_empty m.finalizers)

abbrev pub is_deleting : ObjectMeta → Bool
is_deleting m = is_some m.deletion_timestamp

abbrev pub deleting : ℕ → ℕ → ObjectData → ObjectData
deleting r now o =
    record o { metadata = record o.metadata { resource_version = Some (decimal r); deletion_timestamp = Some (decimal now) } }

-- without finalizers it goes; with some it stays, and is being deleted from then on
abbrev pub deletion : ℕ → ℕ → ObjectData → Option (Change ObjectData)
deletion r now o =
    if has_finalizers o.metadata
    then (if is_deleting o.metadata then None else Some (Modifies (deleting r now o)))
    else Some (removal r o)

-- ---- patches

-- an object that is being deleted goes with its last finalizer
abbrev pub is_gone : ObjectMeta → Bool
is_gone m = is_deleting m && not (has_finalizers m)

abbrev pub patch_result : ℕ → ObjectData → Change ObjectData
patch_result r o = if is_gone o.metadata then removal r o else Modifies (with_version r o)

abbrev pub read_patched : ℕ → Result ObjectData ObjectFault → Result (Change ObjectData) PatchRefusal
read_patched r (Ok o) = Ok (patch_result r o)
read_patched r (Err fault) = Err NotAnObject

abbrev pub patch_document : ℕ → Result Data PatchRefusal → Result (Change ObjectData) PatchRefusal
patch_document r (Ok document) = read_patched r (object_data_at document)
patch_document r (Err refusal) = Err refusal

-- what a patch makes of an object, by its JSON document
abbrev pub patch_change : ℕ → List Operation → ObjectData → Result (Change ObjectData) PatchRefusal
patch_change r os o = patch_document r (patched os (object_data o))

abbrev pub IsPatched : ServerState → ServerState → Result (Change ObjectData) PatchRefusal → Type 0
IsPatched old new (Ok change) = IsStep old new change
IsPatched old new (Err refusal) = ⊥

-- ---- of the object that is held, where one is

-- it was found, and this holds of it
abbrev pub IsHeldAnd : Option ObjectData → (ObjectData → Type 0) → Type 0
IsHeldAnd None P = ⊥
IsHeldAnd (Some o) P = P o

-- ---- compaction

-- what counts as gone only grows, and never past the newest revision
abbrev pub compacted_to : ℕ → ServerState → ServerState
compacted_to r s = record s { compacted = max s.compacted (min r (newest s)) }

-- why a patch was refused: nothing is held, or the object that is held is such that it is; want of memory is free
abbrev pub RefusesAs : {C : Type 0} → Result C PatchRefusal → PatchRefusal → Type 0
RefusesAs (Ok change) e = ⊥
RefusesAs (Err f) e = f ≡ e

abbrev pub IsOfHeld : {C : Type 0} → Option ObjectData → (ObjectData → Result C PatchRefusal) → PatchRefusal → Type 0
IsOfHeld None patch e = e ≡ NotFound
IsOfHeld (Some o) patch e = RefusesAs (patch o) e

abbrev pub IsPatchRefusal : {C : Type 0} → Option ObjectData → (ObjectData → Result C PatchRefusal) → PatchRefusal → Type 0
IsPatchRefusal held patch e = ¬ (e ≡ PatchMemory) → IsOfHeld held patch e
