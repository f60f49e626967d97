-- Futures by key, polled in order of insertion. (Crate: `FutureHashMap`; standard library: `Future::poll`.)
use Rattle.std.specs.Prelude.{◌≡◌, ◌≢◌, ℕ, List, [], ◌∷◌, ◌++◌, length, Option, Some, None}
use Rattle.std.specs.List.{AllByRecursion}
use Rattle.futures.specs.declared.task.Poll.{Poll}
use Rattle.futures.specs.declared.task.Poll.TheVariants.{Ready as ReadyNow, Pending}
use Rattle.kube_meta.specs.declared.poll.Polled.{Polled}
use Rattle.kube_meta.specs.declared.poll.Polled.TheVariants.{Ready, NotReady}
use Rattle.kube_model.specs.Raw.{grown}

-- each future may be polled
abbrev pub CanPollAll : {K F : Type 0} → (F → Type 0) → List (K × F) → Type 0
CanPollAll can entries = AllByRecursion (λ e. can e.1) entries

module _ {F X : Type 0} (told : F → Option (List (Poll X))) (gives : F → X → Type 0) where
  -- a future that was polled and isn't ready: it told so, and it gives nothing that it didn't give before
  pub record TellsPending (old new : F) : Type 0 where
    pub tells : told new ≡ grown (told old) Pending
    pub same : (x : X) → gives new x → gives old x

  -- one that was polled and gave this
  pub record TellsReady (old : F) (x : X) : Type 0 where
    pub left : F
    pub tells : told left ≡ grown (told old) (ReadyNow x)
    pub given : gives old x

  -- each was polled once in its order, and none is ready
  abbrev pub AllPending : {K : Type 0} → List (K × F) → List (K × F) → Type 0
  AllPending [] [] = Unit {0}
  AllPending (e ∷ es) [] = ⊥
  AllPending [] (e' ∷ es') = ⊥
  AllPending (e ∷ es) (e' ∷ es') = (e'.0 ≡ e.0) × TellsPending e.1 e'.1 × AllPending es es'

  -- the first that is ready gave this and is gone; those before it aren't ready, and those behind it weren't polled
  pub record FirstReady {K : Type 0} (old new : List (K × F)) (x : X) : Type 0 where
    pub before : List (K × F)
    pub polled : List (K × F)
    pub entry : K × F
    pub behind : List (K × F)
    pub was : old ≡ before ++ entry ∷ behind
    pub is : new ≡ polled ++ behind
    pub pending : AllPending before polled
    pub ready : TellsReady entry.1 x

  -- what a poll of each does until one is ready
  abbrev pub FirstPolled : {K : Type 0} → List (K × F) → List (K × F) → Option X → Type 0
  FirstPolled old new (Some x) = FirstReady old new x
  FirstPolled old new None = AllPending old new

  -- what a poll of futures by key does and answers
  abbrev pub MapPolled : {K : Type 0} → List (K × F) → List (K × F) → Polled (Option X) → Type 0
  MapPolled old new (Ready (Some x)) = FirstReady old new x
  MapPolled old new (Ready None) = (old ≡ []) × (new ≡ [])
  MapPolled old new NotReady = (old ≢ []) × AllPending old new

  -- the future at a place was polled, and is ready
  pub record PlaceReady {K : Type 0} (place : ℕ) (old new : List (K × F)) (x : X) : Type 0 where
    pub before : List (K × F)
    pub key : K
    pub future : F
    pub left : F
    pub behind : List (K × F)
    pub was : old ≡ before ++ (key, future) ∷ behind
    pub is : new ≡ before ++ (key, left) ∷ behind
    pub there : length before ≡ place
    pub tells : told left ≡ grown (told future) (ReadyNow x)
    pub given : gives future x

  -- or isn't
  pub record PlacePending {K : Type 0} (can : F → Type 0) (place : ℕ) (old new : List (K × F)) : Type 0 where
    pub before : List (K × F)
    pub key : K
    pub future : F
    pub left : F
    pub behind : List (K × F)
    pub was : old ≡ before ++ (key, future) ∷ behind
    pub is : new ≡ before ++ (key, left) ∷ behind
    pub there : length before ≡ place
    pub pending : TellsPending future left
    pub again : can left

  abbrev pub PlacePolled : {K : Type 0} → (F → Type 0) → ℕ → List (K × F) → List (K × F) → Option X → Type 0
  PlacePolled can place old new (Some x) = PlaceReady place old new x
  PlacePolled can place old new None = PlacePending can place old new
