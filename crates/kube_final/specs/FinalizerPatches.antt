-- What the patch of a decision makes of an object, whatever else the object is. (Kubernetes API concept "finalizers"; RFC 6902.)
use Rattle.std.specs.Prelude.{◌≡◌, ℕ, Bool, true, false, List, Some, Result, Ok, Err, if◌then◌else◌, slice_get}
use Rattle.serde_json.specs.Data.{Data}
use Rattle.kube_meta.specs.Reading.{ObjectData, object_data_at}
use Rattle.kube_meta.specs.Writing.{as_read, object_data}
use Rattle.kube_api.specs.declared.patch.PatchRefusal.{PatchRefusal}
use Rattle.kube_api.specs.declared.patch.PatchRefusal.TheVariants.{TestFailed}
use Rattle.kube_api.specs.Patches.{Operation, patched}
use Rattle.kube_server.specs.History.{Change}
use Rattle.kube_server.specs.Servers.{patch_result}
use Rattle.kube_final.specs.declared.finalizer.Decision.{Decision}
use Rattle.kube_final.specs.declared.finalizer.Decision.TheVariants.{Apply, Cleanup, AddFirst, AddMore, Nothing, Unnamed}
use Rattle.kube_final.specs.Lives.{is_at, is_empty, same_names}

-- the same object with these finalizers
abbrev pub with_finalizers : List (List ℕ) → ObjectData → ObjectData
with_finalizers names o = record o { metadata = record o.metadata { finalizers = Some names } }

-- whether the test of the patch passes: the finalizer still stands at its index, there is still none, or all are still those that were seen
abbrev pub is_as_seen : List ℕ → Decision → List (List ℕ) → List (List ℕ) → Bool
is_as_seen name (Cleanup i) seen names = is_at name (slice_get names i)
is_as_seen name AddFirst seen names = is_empty names
is_as_seen name AddMore seen names = same_names seen names
is_as_seen name Apply seen names = false
is_as_seen name Nothing seen names = false
is_as_seen name Unnamed seen names = false

-- where its test passes a patch makes of the object's document one of which the same object is read with these finalizers, and else it is refused
abbrev pub ChangesFinalizers : ObjectData → List Operation → Bool → List (List ℕ) → Type 0
ChangesFinalizers o os true names = (document : Data) × (patched os (object_data o) ≡ Ok document) × (object_data_at document ≡ Ok (as_read (with_finalizers names o)))
ChangesFinalizers o os false names = patched os (object_data o) ≡ Err (TestFailed 0)

-- what a server makes of it at a revision
abbrev pub finalizers_changed : ℕ → ObjectData → Bool → List (List ℕ) → Result (Change ObjectData) PatchRefusal
finalizers_changed r o passes names = if passes then Ok (patch_result r (as_read (with_finalizers names o))) else Err (TestFailed 0)
