-- Words of the script's tables: values of a form, numbers of a range, and members that have a default. A fault is the first one, with its place as a JSON Pointer (RFC 6901).
use Rattle.std.specs.Prelude.{ℕ, Bool, List, [], Option, Result, Ok, nat_lt, if◌then◌else◌, unwrap_or}
use Rattle.serde_json.specs.Data.{Data}
use Rattle.serde_json.specs.Find.{as_bool}
use Rattle.kube_meta.specs.declared.object_fault.ObjectFault.{ObjectFault}
use Rattle.kube_meta.specs.Places.{◌>>=◌, misshapen}
use Rattle.kube_meta.specs.Reading.{found, list_at, maybe, maybe_field, unsigned_at}

-- a truth value
abbrev pub flag_at : Data → Result Bool ObjectFault
flag_at d = found (as_bool d)

-- a whole number of 64 bits without sign
abbrev pub number_at : Data → Result ℕ ObjectFault
number_at d = unsigned_at d

abbrev pub at_most : ℕ → ℕ → Result ℕ ObjectFault
at_most most n = if nat_lt most n then misshapen else Ok n

-- one of 32 bits
unfoldable pub small_at : Data → Result ℕ ObjectFault
small_at d = number_at d >>= at_most 4294967295

-- one of 16 bits
unfoldable pub short_at : Data → Result ℕ ObjectFault
short_at d = number_at d >>= at_most 65535

-- a member that has a default
unfoldable pub default_field : {A : Type 0} → List ℕ → (Data → Result A ObjectFault) → A → Data → Result A ObjectFault
default_field k f default d = maybe_field k f d >>= λ o. Ok (unwrap_or o default)

-- an array that is empty where it is absent
unfoldable pub list_field : {A : Type 0} → List ℕ → (Data → Result A ObjectFault) → Data → Result (List A) ObjectFault
list_field k f d = default_field k (list_at f) [] d

-- the same, of the member's value
abbrev pub list_of : {A : Type 0} → List ℕ → (Data → Result A ObjectFault) → Option Data → Result (List A) ObjectFault
list_of k f o = maybe k (list_at f) o >>= λ xs. Ok (unwrap_or xs [])
