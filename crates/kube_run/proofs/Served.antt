-- How the program may end for an input.
use Rattle.std.proofs.Common.{◌≡◌, ◌<◌, ◌==◌, arith, ℕ, List, [], ◌∷◌, Option, Some, None, Result, Ok, Err, IfSome, length, refl, sym, subst, inl, inr, Bool, true, false}
use Rattle.std.proofs.lemmas.Bool.{lt-ltb}
use Rattle.kube_script.specs.Script.{Script}
use Rattle.kube_script.specs.Whole.{Cause, too_long, script_of}
use Rattle.kube_text.specs.Refusals.{refusal_text}
use Rattle.kube_text.specs.declared.refusal.Refusal.TheVariants as refusals
use Rattle.kube_run.specs.Limit.{longest}
use Rattle.kube_run.specs.Played.{trace_text}
use Rattle.std.specs.Io.KnownBytes.{Appends}
use Rattle.kube_text.specs.Part.{AppendsPart}
use Rattle.kube_run.specs.GeneratedRun.{AreTotals}
use Rattle.kube_run.specs.Summary.{totals_text}
use Rattle.kube_run.specs.declared.totals.Totals.{Totals}
use Rattle.kube_run.specs.Served.{Generates, IsBegun, RunsFor, RunsFrom, RunsLeft, Tells, WrotePartFor, refusal_of}
use Rattle.kube_run.specs.declared.status.Status.{Status}
use Rattle.kube_run.specs.declared.status.Status.TheVariants as status
use Rattle.kube_run.proofs.Known.{of_left, of_longer}
use Rattle.kube_text.proofs.Sinks.{none_written}
use Rattle.kube_run.proofs.Played.{none-played}
use Rattle.kube_run.proofs.Runs.{tells_so}

script_of_long : (bytes : List ℕ) → longest < length bytes → script_of bytes ≡ Err too_long
unfolding script_of
script_of_long bytes h = rw (lt-ltb longest (length bytes) h) refl

-- ---- nothing was written yet

begun : (input : Result Script Cause) → (text : List ℕ) × IsBegun input text
begun (Ok s) = (trace_text s [], inl ([], none-played s, refl))
begun (Err c) = (refusal_text (refusal_of c), refl)

pub nothing-for : (input : Result Script Cause) (old : Option (List ℕ)) → WrotePartFor input old old
nothing-for input old = let b = begun input in (b.0, b.1, record { front = []; rest = b.0; split = refl; appended = none_written old })

pub nothing-left : (left old : Option (List ℕ)) → RunsLeft status.NoMemory left old old
nothing-left None old = tt
nothing-left (Some bytes) old = nothing-for (script_of bytes) old

-- ---- lines that were told

pub told-script : (c : Cause) (result : Status) (old new : Option (List ℕ)) → Tells result status.BadScript (refusal_text (refusal_of c)) old new → RunsFor result (Err c) old new
told-script c result old new t =
    let line = refusal_text (refusal_of c) in
    tells_so (λ s. RunsFor s (Err c) old new) result status.BadScript line old new t (λ a. (line, refl, a)) (λ a. (line, refl, a)) (λ a. (line, refl, a))

-- the bytes were no script
pub refused-script : (c : Cause) (input : Result Script Cause) (result : Status) (old new : Option (List ℕ)) → input ≡ Err c → Tells result status.BadScript (refusal_text (refusal_of c)) old new → RunsFor result input old new
refused-script c input result old new e t = subst (λ w. RunsFor result w old new) (sym e) (told-script c result old new t)

-- ---- a run by a script

-- bytes that were all that was left
pub runs-left : (st : Status) (left old new : Option (List ℕ)) (v here : List ℕ) → IfSome left (λ bytes. v ≡ bytes) → here ≡ v → RunsFor st (script_of here) old new → RunsFrom st left old new
runs-left status.Done left old new v here e f k = of_left left v (λ bytes. RunsFor status.Done (script_of bytes) old new) e (subst (λ b. RunsFor status.Done (script_of b) old new) f k)
runs-left status.BadRun left old new v here e f k = of_left left v (λ bytes. RunsFor status.BadRun (script_of bytes) old new) e (subst (λ b. RunsFor status.BadRun (script_of b) old new) f k)
runs-left status.BadScript left old new v here e f k = of_left left v (λ bytes. RunsFor status.BadScript (script_of bytes) old new) e (subst (λ b. RunsFor status.BadScript (script_of b) old new) f k)
runs-left status.WriteFault left old new v here e f k = of_left left v (λ bytes. RunsFor status.WriteFault (script_of bytes) old new) e (subst (λ b. RunsFor status.WriteFault (script_of b) old new) f k)
runs-left status.NoMemory left old new v here e f k = of_left left v (λ bytes. RunsFor status.NoMemory (script_of bytes) old new) e (subst (λ b. RunsFor status.NoMemory (script_of b) old new) f k)
runs-left status.Usage left old new v here e f k = absurd k
runs-left status.ReadFault left old new v here e f k = absurd k

long-left : (st : Status) (left old new : Option (List ℕ)) → IfSome left (λ bytes. longest < length bytes) → RunsFor st (Err too_long) old new → RunsLeft st left old new
long-left st left old new h r = of_longer left longest (λ bytes. RunsFor st (script_of bytes) old new) h (λ bytes l. subst (λ w. RunsFor st w old new) (sym (script_of_long bytes l)) r)

-- more bytes than a script may have
pub runs-long : (result : Status) (left old new : Option (List ℕ)) → IfSome left (λ bytes. longest < length bytes) → Tells result status.BadScript (refusal_text refusals.TooLong) old new → RunsFrom result left old new
runs-long result left old new h t =
    let line = refusal_text refusals.TooLong in
    tells_so (λ st. RunsFrom st left old new) result status.BadScript line old new t
    (λ a. long-left status.BadScript left old new h (line, refl, a))
    (λ a. long-left status.WriteFault left old new h (line, refl, a))
    (λ a. long-left status.NoMemory left old new h (line, refl, a))

-- ---- the run over a generated input

pub told-totals : (seed objects turns : ℕ) (totals : Totals) (line : List ℕ) (old new : Option (List ℕ)) → AreTotals seed objects turns totals → line ≡ totals_text totals → Appends old new line → Generates status.Done seed objects turns old new
told-totals seed objects turns totals line old new k e a = (line, (totals, k, e), a)

pub begun-totals : (seed objects turns : ℕ) (totals : Totals) (line : List ℕ) (old new : Option (List ℕ)) → AreTotals seed objects turns totals → line ≡ totals_text totals → AppendsPart old new line → Generates status.WriteFault seed objects turns old new
begun-totals seed objects turns totals line old new k e a = (line, (totals, k, e), a)
