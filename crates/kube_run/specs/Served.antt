-- What the program writes for its words and its input, and how it ends.
use Rattle.std.specs.Prelude.{◌≡◌, ◌⊎◌, ℕ, List, Option, IfSome, Result, Ok, Err}
use Rattle.std.specs.Io.KnownBytes.{Appends, Keeps}
use Rattle.kube_meta.specs.declared.object_fault.ObjectFault.TheVariants as faults
use Rattle.kube_script.specs.Script.{Script}
use Rattle.kube_script.specs.Whole.{Cause, too_long, syntax_fault, faulty, script_of}
use Rattle.kube_text.specs.Refusals.{refusal_text}
use Rattle.kube_text.specs.declared.refusal.Refusal.{Refusal}
use Rattle.kube_text.specs.declared.refusal.Refusal.TheVariants as refusals
use Rattle.kube_text.specs.Part.{AppendsPart}
use Rattle.kube_run.specs.Commands.{IsCommand, NameNothing}
use Rattle.kube_run.specs.GeneratedRun.{AreTotals}
use Rattle.kube_run.specs.Played.{IsWhole, IsCutOff, IsFront}
use Rattle.kube_run.specs.Summary.{totals_text}
use Rattle.kube_run.specs.declared.command.Command.TheVariants as commands
use Rattle.kube_run.specs.declared.totals.Totals.{Totals}
use Rattle.kube_run.specs.declared.status.Status.{Status}
use Rattle.kube_run.specs.declared.status.Status.TheVariants as status
use Rattle.kube_text.specs.declared.failed.Unwritten.{Unwritten}
use Rattle.kube_text.specs.declared.failed.Unwritten.TheVariants as unwritten

-- why bytes are no script, as it is told; data never wants memory
abbrev pub refusal_of : Cause → Refusal
refusal_of too_long = refusals.TooLong
refusal_of syntax_fault = refusals.Syntax
refusal_of (faulty (faults.Shape place)) = refusals.Shape place
refusal_of (faulty (faults.Fraction place)) = refusals.Fraction place
refusal_of (faulty faults.NoMemory) = refusals.Syntax

-- how the program ends where nothing fails, and the text that it writes, for what its input is as a script
abbrev pub Ends : Status → Result Script Cause → List ℕ → Type 0
Ends status.Done (Ok s) text = IsWhole s text
Ends status.BadRun (Ok s) text = IsCutOff s text
Ends status.BadScript (Err cause) text = text ≡ refusal_text (refusal_of cause)
Ends _ _ _ = ⊥

-- a text of which the program may have written a part where something failed: the lines of the trace of some first turns, or the whole text of an end that isn't Done
abbrev pub IsBegun : Result Script Cause → List ℕ → Type 0
IsBegun (Ok s) text = IsFront s text ⊎ IsCutOff s text
IsBegun (Err cause) text = text ≡ refusal_text (refusal_of cause)

-- the text of such an end was written
abbrev pub WroteFor : Status → Result Script Cause → Option (List ℕ) → Option (List ℕ) → Type 0
WroteFor s input old new = (text : List ℕ) × Ends s input text × Appends old new text

-- a part of such a text was written, or nothing
abbrev pub WrotePartFor : Result Script Cause → Option (List ℕ) → Option (List ℕ) → Type 0
WrotePartFor input old new = (text : List ℕ) × IsBegun input text × AppendsPart old new text

-- what may be done for an input, and how it ends
abbrev pub RunsFor : Status → Result Script Cause → Option (List ℕ) → Option (List ℕ) → Type 0
RunsFor status.Done input old new = WroteFor status.Done input old new
RunsFor status.BadRun input old new = WroteFor status.BadRun input old new
RunsFor status.BadScript input old new = WroteFor status.BadScript input old new
RunsFor status.WriteFault input old new = WrotePartFor input old new
RunsFor status.NoMemory input old new = WrotePartFor input old new
RunsFor status.Usage input old new = ⊥
RunsFor status.ReadFault input old new = ⊥

-- so for the bytes that a source had left, where it tells them
abbrev pub RunsLeft : Status → Option (List ℕ) → Option (List ℕ) → Option (List ℕ) → Type 0
RunsLeft s left old new = IfSome left (λ bytes. RunsFor s (script_of bytes) old new)

-- how a run by a script may end, by what the source had left where that is told
abbrev pub RunsFrom : Status → Option (List ℕ) → Option (List ℕ) → Option (List ℕ) → Type 0
RunsFrom status.Done left old new = RunsLeft status.Done left old new
RunsFrom status.BadRun left old new = RunsLeft status.BadRun left old new
RunsFrom status.BadScript left old new = RunsLeft status.BadScript left old new
RunsFrom status.WriteFault left old new = RunsLeft status.WriteFault left old new
RunsFrom status.NoMemory left old new = RunsLeft status.NoMemory left old new
RunsFrom status.ReadFault left old new = Keeps old new
RunsFrom status.Usage left old new = ⊥

-- the text tells the totals of the run over a generated input
abbrev pub TellsTotals : ℕ → ℕ → ℕ → List ℕ → Type 0
TellsTotals seed objects turns text = (totals : Totals) × AreTotals seed objects turns totals × (text ≡ totals_text totals)

-- how the run over a generated input may end: it reads nothing, and is refused for nothing
abbrev pub Generates : Status → ℕ → ℕ → ℕ → Option (List ℕ) → Option (List ℕ) → Type 0
Generates status.Done seed objects turns old new = (text : List ℕ) × TellsTotals seed objects turns text × Appends old new text
Generates status.WriteFault seed objects turns old new = (text : List ℕ) × TellsTotals seed objects turns text × AppendsPart old new text
Generates status.NoMemory seed objects turns old new = Keeps old new
Generates status.Usage seed objects turns old new = ⊥
Generates status.BadScript seed objects turns old new = ⊥
Generates status.BadRun seed objects turns old new = ⊥
Generates status.ReadFault seed objects turns old new = ⊥

-- a line was written, and the end is the wanted one; or a write or memory failed, and a part of it was written
abbrev pub Tells : Status → Status → List ℕ → Option (List ℕ) → Option (List ℕ) → Type 0
Tells result wanted line old new =
    (result ≡ wanted) × Appends old new line
    ⊎ ((result ≡ status.WriteFault) × AppendsPart old new line ⊎ (result ≡ status.NoMemory) × AppendsPart old new line)

-- so for the numbers that the words name
pub record GeneratesFor (s : Status) (words : List (List ℕ)) (old new : Option (List ℕ)) : Type 0 where
  pub seed : ℕ
  pub objects : ℕ
  pub turns : ℕ
  pub named : IsCommand words (commands.Generate seed objects turns)
  pub generates : Generates s seed objects turns old new

-- how the program may end: by its words, by what the source had left where that is told, and by what was written where that is told
abbrev pub Serves : Status → List (List ℕ) → Option (List ℕ) → Option (List ℕ) → Option (List ℕ) → Type 0
Serves s words left old new =
    IsCommand words commands.Run × RunsFrom s left old new
    ⊎ (GeneratesFor s words old new ⊎ NameNothing words × Tells s status.Usage (refusal_text refusals.Usage) old new)

-- how the program ends where a line was not written whole
abbrev pub status_of : Unwritten → Status
status_of unwritten.Fault = status.WriteFault
status_of unwritten.NoMemory = status.NoMemory
