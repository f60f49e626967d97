-- What a run of a script's controller answers, part by part.
use Rattle.std.proofs.Common.{List, ℕ, Result, Ok, Err, IfOk, IfErr}
use Rattle.kube_meta.specs.Reading.{ObjectData}
use Rattle.kube_object.specs.Named.{Named, named_type}
use Rattle.kube_script.specs.Script.{Script}
use Rattle.kube_turn.specs.Records.{records_of}
use Rattle.kube_turn.specs.declared.record.Trace.{Trace}
use Rattle.kube_model.specs.Traces.{Refusal}
use Rattle.kube_step.specs.Errors.{refusal_of}
use Rattle.kube_step.specs.declared.refusal.BadTurn.{BadTurn}
use Rattle.kube_control.specs.Errors.{IfNoMemory, IfRefused, IfSpent, IfUnnamed, records_before}
use Rattle.kube_control.specs.declared.error.RunError.TheVariants.{NoMemory, UnnamedObject, BadTurn as Refused, Spent}
use Rattle.kube_run.specs.Played.{IsPlayed, IsPlayedFront}
use Rattle.kube_run.specs.Runs.{HasLines, HasRun, IsRefusedAfter, IsUnnamedAfter, ScriptError}

abbrev Answer : Type 0
Answer = Result (Trace ObjectData (List ℕ) Named) ScriptError

pub ok-played : (s : Script) (r : Answer) → HasRun s r → IfOk r (λ t. IsPlayed s (records_of named_type t.records))
ok-played s (Ok t) h = h.0
ok-played s (Err e) h = tt

pub ok-lines : (s : Script) (r : Answer) → HasRun s r → IfOk r (λ t. HasLines s t.records)
ok-lines s (Ok t) h = h.1
ok-lines s (Err e) h = tt

pub err-before : (s : Script) (r : Answer) → HasRun s r → IfErr r (λ e. IsPlayedFront s (records_of named_type (records_before e)))
err-before s (Ok t) h = tt
err-before s (Err e) h = h.0

pub err-lines : (s : Script) (r : Answer) → HasRun s r → IfErr r (λ e. HasLines s (records_before e))
err-lines s (Ok t) h = tt
err-lines s (Err e) h = h.1

pub err-refused : (s : Script) (r : Answer) → HasRun s r → IfErr r (λ e. IsRefusedAfter s (records_before e) e)
err-refused s (Ok t) h = tt
err-refused s (Err e) h = h.2

pub err-unnamed : (s : Script) (r : Answer) → HasRun s r → IfErr r (λ e. IsUnnamedAfter s (records_before e) e)
err-unnamed s (Ok t) h = tt
err-unnamed s (Err e) h = h.3

pub err-unspent : (s : Script) (r : Answer) → HasRun s r → IfErr r (λ e. IfSpent e ⊥)
err-unspent s (Ok t) h = tt
err-unspent s (Err e) h = h.4

pub both : (s : Script) (r : Answer) → IfOk r (λ t. IsPlayed s (records_of named_type t.records) × HasLines s t.records)
    → IfErr r (λ e. IsPlayedFront s (records_of named_type (records_before e)) × HasLines s (records_before e) × IsRefusedAfter s (records_before e) e × IsUnnamedAfter s (records_before e) e × IfSpent e ⊥) → HasRun s r
both s (Ok t) h k = h
both s (Err e) h k = k

pub all-ok : {T E : Type 0} {P Q R U V : T → Type 0} (r : Result T E) → ((x : T) → P x → Q x → R x → U x → V x) → IfOk r P → IfOk r Q → IfOk r R → IfOk r U → IfOk r V
all-ok (Ok x) f p q m u = f x p q m u
all-ok (Err e) f p q m u = tt

-- an error, by its kind
pub err-cases : {T : Type 0} (F V Lost Before : ScriptError → Type 0) (Refuses : ScriptError → ℕ → Refusal → Type 0) (Names : ScriptError → ℕ → ℕ → Type 0) (r : Result T ScriptError)
    → IfErr r F → IfErr r (λ e. IfRefused e (Refuses e)) → IfErr r (λ e. IfUnnamed e (Names e)) → IfErr r (λ e. IfNoMemory e (Lost e)) → IfErr r (λ e. IfSpent e (Before e))
    → ((turn : ℕ) (why : BadTurn) (trace : Trace ObjectData (List ℕ) Named) → F (Refused turn why trace) → Refuses (Refused turn why trace) turn (refusal_of why) → V (Refused turn why trace))
    → ((turn source : ℕ) (trace : Trace ObjectData (List ℕ) Named) → F (UnnamedObject turn source trace) → Names (UnnamedObject turn source trace) turn source → V (UnnamedObject turn source trace))
    → ((trace : Trace ObjectData (List ℕ) Named) → F (NoMemory trace) → Lost (NoMemory trace) → V (NoMemory trace)) → ((trace : Trace ObjectData (List ℕ) Named) → Before (Spent trace) → V (Spent trace)) → IfErr r V
err-cases F V Lost Before Refuses Names (Ok x) f p q m b onRefused onUnnamed onLost onSpent = tt
err-cases F V Lost Before Refuses Names (Err (Refused turn why trace)) f p q m b onRefused onUnnamed onLost onSpent = onRefused turn why trace f p
err-cases F V Lost Before Refuses Names (Err (UnnamedObject turn source trace)) f p q m b onRefused onUnnamed onLost onSpent = onUnnamed turn source trace f q
err-cases F V Lost Before Refuses Names (Err (NoMemory trace)) f p q m b onRefused onUnnamed onLost onSpent = onLost trace f m
err-cases F V Lost Before Refuses Names (Err (Spent trace)) f p q m b onRefused onUnnamed onLost onSpent = onSpent trace b
