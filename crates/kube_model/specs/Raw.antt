-- Calls to an API with their answers, as they came. V is the type of objects. (Kubernetes API concepts: list, watch, bookmark, status.)
use Rattle.std.specs.Prelude.{◌≡◌, ℕ, ◌-◌, ◌^◌, ◌<◌, ◌⊎◌, Bool, true, false, List, [], ◌∷◌, ◌++◌, Option, Some, None, IsTrue}
use Rattle.std.specs.List.{AllByRecursion}
use Rattle.kube_model.specs.declared.params.ListParams.{ListParams}
use Rattle.kube_model.specs.declared.params.WatchParams.{WatchParams}
use Rattle.kube_model.specs.declared.error.ApiError.{ApiError}
use Rattle.kube_model.specs.declared.error.Status.{Status}

pub data RawCall : Type 0 where
  ListAsked : (params : ListParams) → RawCall
  WatchAsked : (params : WatchParams) → (version : List ℕ) → RawCall
  NextAsked : RawCall

pub data RawAnswer (V : Type 0) : Type 0 where
  Waits : RawAnswer V
  Fails : (error : ApiError) → RawAnswer V
  GivesPage : (items : List V) → (token version : Option (List ℕ)) → RawAnswer V
  Opens : RawAnswer V
  GivesAdded : (object : V) → RawAnswer V
  GivesModified : (object : V) → RawAnswer V
  GivesDeleted : (object : V) → RawAnswer V
  GivesBookmark : (version : List ℕ) → (annotations : List (List ℕ × List ℕ)) → RawAnswer V
  GivesError : (status : Status) → RawAnswer V
  Ends : RawAnswer V

-- a call with its answer. The talk of an API is a list of these
pub record Raw (V : Type 0) : Type 0 where
  pub call : RawCall
  pub answer : RawAnswer V

-- a list with one more at its end, where it is told
abbrev pub grown : {A : Type 0} → Option (List A) → A → Option (List A)
grown None a = None
grown (Some xs) a = Some (xs ++ a ∷ [])

-- with these at its end
abbrev pub grown_by : {A : Type 0} → Option (List A) → List A → Option (List A)
grown_by None bs = None
grown_by (Some xs) bs = Some (xs ++ bs)

abbrev pub is_fault : {V : Type 0} → RawAnswer V → Bool
is_fault (Fails e) = true
is_fault _ = false

-- where there was a fault the count rose, or it stands at the greatest u64
abbrev pub FaultRose : Bool → ℕ → ℕ → Type 0
FaultRose failed old new = IsTrue failed → (old < new) ⊎ (new ≡ 2 ^ 64 - 1)

abbrev pub IsNotOpened : {V : Type 0} → RawAnswer V → Type 0
IsNotOpened Opens = ⊥
IsNotOpened _ = Unit {0}

-- it is told, and has no watch that was opened
abbrev pub IsNeverOpened : {V : Type 0} → Option (List (Raw V)) → Type 0
IsNeverOpened None = ⊥
IsNeverOpened (Some raws) = AllByRecursion (λ r. IsNotOpened r.answer) raws
