-- What a run of a script's controller answers.
use Rattle.std.specs.Prelude.{◌≡◌, ℕ, List, length, map, Result, Ok, Err}
use Rattle.kube_meta.specs.Reading.{ObjectData}
use Rattle.kube_model.specs.History.{Step, Turn, TurnRecord as MadeRecord, exchanges}
use Rattle.kube_model.specs.Named.{AreNamedTurns, RootIsNamed}
use Rattle.kube_model.specs.Traces.{IsTrace, steps, unread}
use Rattle.kube_object.specs.Named.{Named, named_type}
use Rattle.kube_script.specs.Script.{Script}
use Rattle.kube_text.specs.TraceText.{lines_of}
use Rattle.kube_text.specs.TraceView.{seen_records}
use Rattle.kube_turn.specs.Records.{records_of}
use Rattle.kube_turn.specs.declared.record.Trace.{Trace}
use Rattle.kube_turn.specs.declared.record.TurnRecord.{TurnRecord}
use Rattle.kube_step.specs.Calls.{dated_in}
use Rattle.kube_control.specs.Errors.{IfRefused, IfSpent, IfUnnamed, records_before}
use Rattle.kube_control.specs.declared.error.RunError.{RunError}
use Rattle.kube_run.specs.Played.{AreAnswered, IsPlayed, IsPlayedFront, IsRefusedNext, IsUnnamedNext, all_faults, policies_in, script_world}
use Rattle.kube_run.specs.Sources.{AreOfScript, Root, Sources, apis_in}

-- a reconcile's fault is a text
abbrev pub Held : Type 0
Held = List (TurnRecord ObjectData (List ℕ) Named)

abbrev pub ScriptError : Type 0
ScriptError = RunError ObjectData (List ℕ) Named

-- the records are written with the faults of the script's finishes
abbrev pub HasLines : Script → Held → Type 0
HasLines s held = seen_records 0 held ≡ lines_of 0 (all_faults s) (records_of named_type held)

-- these turns have records, and the next one is refused
abbrev pub IsRefusedAfter : Script → Held → ScriptError → Type 0
IsRefusedAfter s held e = IfRefused e (λ turn why. (turn ≡ length (records_of named_type held)) × IsRefusedNext s (records_of named_type held) why)

-- or an object without a name came in the next one
abbrev pub IsUnnamedAfter : Script → Held → ScriptError → Type 0
IsUnnamedAfter s held e = IfUnnamed e (λ turn source. (turn ≡ length (records_of named_type held)) × IsUnnamedNext s (records_of named_type held) source)

-- the trace of a script's turns, or that of the turns before one that ends the run. The controller was not spent before
abbrev pub HasRun : Script → Result (Trace ObjectData (List ℕ) Named) ScriptError → Type 0
HasRun s (Ok t) = IsPlayed s (records_of named_type t.records) × HasLines s t.records
HasRun s (Err e) =
    IsPlayedFront s (records_of named_type (records_before e)) × HasLines s (records_before e)
    × IsRefusedAfter s (records_before e) e × IsUnnamedAfter s (records_before e) e × IfSpent e ⊥

-- after a history of a script's controller these records are the trace of these turns, each object that had to become a reference has a name, and each exchange was answered by what the script had left; how its sources are asked stays as the script tells
pub record GoesOn (s : Script) (h : List (Step ObjectData)) (ts : List Turn) (rs : List (MadeRecord ObjectData)) (r : Root) (t : Sources) (r' : Root) (t' : Sources) : Type 0 where
  pub trace : IsTrace (script_world s) (policies_in s) h ts (map unread rs)
  pub named : AreNamedTurns (script_world s) (RootIsNamed (script_world s)) h (steps ts (map unread rs))
  pub answered : AreAnswered s (exchanges h) (apis_in r t) (dated_in rs) (apis_in r' t')
  pub of_script : AreOfScript s r' t'
