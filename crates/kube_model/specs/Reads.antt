-- What the reader of a root that is a stream, or that of an applier, answered in a turn: one answer for each read, and none where nothing was read. (Crate: `Store::wait_until_ready`, `Store::state`, `Store::get`.)
use Rattle.std.specs.Prelude.{Bool, true, false, List, [], Option, Some, None}
use Rattle.kube_model.specs.declared.error.RunnerError.{RunnerError}

-- what `poll_ready` answered
pub data Readiness : Type 0 where
  IsNotYet : Readiness
  IsReady : Readiness
  HasFailed : (error : RunnerError) → Readiness

-- O is the type of objects
pub record Reads (O : Type 0) : Type 0 where
  pub readiness : Option Readiness  -- where `poll_ready` was polled
  pub reloaded : Option (List O)  -- the objects that a reload found
  pub looked_up : List (Option O)  -- what was found of each candidate that was looked up, in order
  pub shown : Option (List O)  -- the objects that the turn shows

-- a watched root has no reader
abbrev pub nothing_read : {O : Type 0} → Reads O
nothing_read = record { readiness = None; reloaded = None; looked_up = []; shown = None }

abbrev pub is_told_ready : Option Readiness → Bool
is_told_ready (Some IsReady) = true
is_told_ready _ = false

abbrev pub told_ready : {O : Type 0} → Reads O → Bool
told_ready r = is_told_ready r.readiness

abbrev pub failure_in : Option Readiness → Option RunnerError
failure_in (Some (HasFailed error)) = Some error
failure_in _ = None
