-- How a run of a script may end.
use Rattle.std.proofs.Common.{◌≡◌, List, ℕ, ◌++◌, Option, Ok, ◌⊎◌, inl, inr, sym, ap, refl, subst, ◌∙◌}
use Rattle.std.specs.Io.KnownBytes.{Appends}
use Rattle.kube_meta.specs.Reading.{ObjectData}
use Rattle.kube_object.specs.Named.{Named, named_type}
use Rattle.kube_script.specs.Script.{Script}
use Rattle.kube_text.specs.Refusals.{refusal_text}
use Rattle.kube_text.specs.TraceText.{lines_of, lines_text}
use Rattle.kube_text.specs.TraceView.{seen_records}
use Rattle.kube_text.specs.declared.refusal.Refusal.{Refusal}
use Rattle.kube_turn.specs.Records.{records_of}
use Rattle.kube_turn.specs.declared.record.TurnRecord.{TurnRecord as HeldRecord}
use Rattle.kube_text.specs.Part.{AppendsPart}
use Rattle.kube_run.specs.Played.{IsCutBy, IsCutOff, IsFront, IsPlayed, IsPlayedFront, all_faults, trace_text}
use Rattle.kube_run.specs.Served.{RunsFor, Tells, status_of}
use Rattle.kube_run.specs.declared.status.Status.{Status}
use Rattle.kube_run.specs.declared.status.Status.TheVariants as status
use Rattle.kube_text.specs.declared.failed.Unwritten.{Unwritten}
use Rattle.kube_text.specs.declared.failed.Unwritten.TheVariants as unwritten
use Rattle.kube_run.proofs.Played.{whole-front}

abbrev pub Held : Type 0
Held = HeldRecord ObjectData (List ℕ) Named

-- the lines of what is held are those of the script's records
abbrev pub HasLines : Script → List Held → Type 0
HasLines s held = seen_records 0 held ≡ lines_of 0 (all_faults s) (records_of named_type held)

pub text-of-held : (s : Script) (held rs : List Held) → rs ≡ held → HasLines s held → lines_text (seen_records 0 rs) ≡ trace_text s (records_of named_type held)
text-of-held s held rs e h = ap (λ hs. lines_text (seen_records 0 hs)) e ∙ ap lines_text h

-- how it ends where a line was written, or not
pub tells_so : (P : Status → Type 0) (result wanted : Status) (line : List ℕ) (old new : Option (List ℕ)) → Tells result wanted line old new
    → (Appends old new line → P wanted) → (AppendsPart old new line → P status.WriteFault) → (AppendsPart old new line → P status.NoMemory) → P result
tells_so P result wanted line old new (inl h) f g k = subst P (sym h.0) (f h.1)
tells_so P result wanted line old new (inr (inl h)) f g k = subst P (sym h.0) (g h.1)
tells_so P result wanted line old new (inr (inr h)) f g k = subst P (sym h.0) (k h.1)

-- a line that was not written whole
pub not-told : (e : Unwritten) (result wanted : Status) (line : List ℕ) (old new : Option (List ℕ)) → result ≡ status_of e → AppendsPart old new line → Tells result wanted line old new
not-told unwritten.Fault result wanted line old new h p = inr (inl (h, p))
not-told unwritten.NoMemory result wanted line old new h p = inr (inr (h, p))

pub unwritten-either : (e : Unwritten) (result : Status) → result ≡ status_of e → (result ≡ status.NoMemory) ⊎ (result ≡ status.WriteFault)
unwritten-either unwritten.Fault result h = inr h
unwritten-either unwritten.NoMemory result h = inl h

-- all turns were taken
pub ran-whole : (s : Script) (held rs : List Held) (result : Status) (old new : Option (List ℕ)) → rs ≡ held → HasLines s held → IsPlayed s (records_of named_type held)
    → Tells result status.Done (lines_text (seen_records 0 rs)) old new → RunsFor result (Ok s) old new
ran-whole s held rs result old new e l p t =
    let records = records_of named_type held in
    let front : IsFront s (trace_text s records) = (records, whole-front s records p, refl) in
    let same = text-of-held s held rs e l in
    tells_so (λ st. RunsFor st (Ok s) old new) result status.Done (lines_text (seen_records 0 rs)) old new t
    (λ a. (trace_text s records, (records, p, refl), subst (Appends old new) same a))
    (λ a. (trace_text s records, inl front, subst (AppendsPart old new) same a))
    (λ a. (trace_text s records, inl front, subst (AppendsPart old new) same a))

-- memory was wanting after these
pub ran-front : (s : Script) (held rs : List Held) (result : Status) (old new : Option (List ℕ)) → rs ≡ held → HasLines s held → IsPlayedFront s (records_of named_type held)
    → (result ≡ status.NoMemory) ⊎ (result ≡ status.WriteFault) → AppendsPart old new (lines_text (seen_records 0 rs)) → RunsFor result (Ok s) old new
ran-front s held rs result old new e l p (inl r) a =
    let records = records_of named_type held in
    subst (λ st. RunsFor st (Ok s) old new) (sym r) (trace_text s records, inl (records, p, refl), subst (AppendsPart old new) (text-of-held s held rs e l) a)
ran-front s held rs result old new e l p (inr r) a =
    let records = records_of named_type held in
    subst (λ st. RunsFor st (Ok s) old new) (sym r) (trace_text s records, inl (records, p, refl), subst (AppendsPart old new) (text-of-held s held rs e l) a)

-- a turn ended it after these
pub ran-cut : (s : Script) (held rs : List Held) (refusal : Refusal) (result : Status) (old new : Option (List ℕ)) → rs ≡ held → HasLines s held → IsCutBy s (records_of named_type held) refusal
    → Tells result status.BadRun (lines_text (seen_records 0 rs) ++ refusal_text refusal) old new → RunsFor result (Ok s) old new
ran-cut s held rs refusal result old new e l c t =
    let records = records_of named_type held in
    let text = trace_text s records ++ refusal_text refusal in
    let cut : IsCutOff s text = (records, refusal, c, refl) in
    let same = ap (λ lines. lines ++ refusal_text refusal) (text-of-held s held rs e l) in
    tells_so (λ st. RunsFor st (Ok s) old new) result status.BadRun (lines_text (seen_records 0 rs) ++ refusal_text refusal) old new t
    (λ a. (text, cut, subst (Appends old new) same a))
    (λ a. (text, inr cut, subst (AppendsPart old new) same a))
    (λ a. (text, inr cut, subst (AppendsPart old new) same a))
