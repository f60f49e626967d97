-- What one call to an API answered, as it is recorded. V is the type of objects, and version gives the version of one.
use Rattle.std.specs.Prelude.{◌≡◌, ◌⊎◌, ℕ, Bool, true, false, List, map, Option, Some, None}
use Rattle.std.specs.Arc.{arc_value}
use Rattle.kube_model.specs.declared.call.Answer.{Answer}
use Rattle.kube_model.specs.declared.call.Answer.TheVariants.{Opened, Fault, End, NotReady, Idle, Spent}
use Rattle.kube_model.specs.declared.call.Call.{Call}
use Rattle.kube_model.specs.declared.call.Call.TheVariants.{Watch}
use Rattle.kube_model.specs.Raw.{Raw, RawAnswer, grown}
use Rattle.kube_model.specs.Recorded.{raw_call, answer_of, items_of, IsAnsweredBy}
use Rattle.kube_model.specs.World.{Settings}
use Rattle.kube_meta.specs.declared.metadata.ObjectMeta.{ObjectMeta}
use Rattle.kube_watch.specs.declared.calls.Came.{Came}

-- the version of an object, as its metadata has it
abbrev pub version_of : {V : Type 0} → (V → ObjectMeta) → V → Option (List ℕ)
version_of meta o = (meta o).resource_version

module _ {V : Type 0} (meta : V → ObjectMeta) where
  -- the answer and the objects are those that came
  pub record IsCame (raw : RawAnswer V) (c : Came V) : Type 0 where
    pub answer : c.answer ≡ answer_of (version_of meta) raw
    pub items : map arc_value c.items ≡ items_of raw

  -- the call with its answer is recorded so from this raw form
  pub record IsAsked (settings : Settings) (asked : Call) (c : Came V) (raw : Raw V) : Type 0 where
    pub call : raw_call settings asked ≡ Some raw.call
    pub answer : IsAnsweredBy (version_of meta) raw c.answer
    pub items : map arc_value c.items ≡ items_of raw.answer

-- whether an answer to a call brings something to keep, for which memory is taken after the call: objects, a version, an error, or that the objects which are there come first
abbrev pub brings : Answer → Call → Bool
brings NotReady call = false
brings Idle call = false
brings End call = false
brings Spent call = false
brings Opened (Watch version initial) = initial
brings Opened call = false
brings answer call = true

-- the same of an answer as it came: the versions of its objects play no part
abbrev pub brings_raw : {V : Type 0} → RawAnswer V → Call → Bool
brings_raw raw = brings (answer_of (λ o. None) raw)

-- the talk is as it was, or longer by this one call, whose answer brings something
abbrev pub IsAskedOnce : {V : Type 0} → Settings → Call → Option (List (Raw V)) → Option (List (Raw V)) → Type 0
IsAskedOnce {V} settings asked old new = (new ≡ old) ⊎ ((raw : Raw V) × (raw_call settings asked ≡ Some raw.call) × (brings_raw raw.answer asked ≡ true) × (new ≡ grown old raw))

abbrev pub is_fault_answer : Answer → Bool
is_fault_answer (Fault error) = true
is_fault_answer _ = false

-- a look that was not ready is idle where the window is over
abbrev pub idled : Bool → Answer → Answer
idled true NotReady = Idle
idled over answer = answer
