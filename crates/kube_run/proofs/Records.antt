-- The lines of a trace, written one after the other.
use Rattle.std.proofs.Common.{◌≡◌, ℕ, ◌+◌, ◌<◌, suc, List, [], ◌∷◌, ◌++◌, Option, refl, sym, ap, ◌∙◌, append_assoc, append-nil, drop, length, subst, get_or, add-one, drop-cons}
use Rattle.std.specs.Io.KnownBytes.{Appends}
use Rattle.kube_meta.specs.Reading.{ObjectData}
use Rattle.kube_turn.specs.declared.record.TurnRecord.{TurnRecord}
use Rattle.kube_text.proofs.Sinks.{none_written, both_written}
use Rattle.kube_text.specs.Part.{AppendsPart}
use Rattle.kube_object.specs.Named.{Named}
use Rattle.kube_text.specs.TraceText.{line_text, lines_text}
use Rattle.kube_text.specs.TraceView.{seen_record, seen_records}

abbrev pub Records : Type 0
Records = List (TurnRecord ObjectData (List ℕ) Named)

pub next_record : {A : Type 0} (rs : List A) (turn : ℕ) (r : A) → turn < length rs → r ≡ get_or rs turn r → drop turn rs ≡ r ∷ drop (turn + 1) rs
next_record rs turn r h e = rw (add-one turn) (drop-cons rs turn r h ∙ ap (λ x. x ∷ drop (suc turn) rs) (sym e))

-- the records before a turn were written
pub record Written (a b : Option (List ℕ)) (turn : ℕ) (rs : Records) : Type 0 where
  pub text : List ℕ
  pub wrote : Appends a b text
  pub whole : lines_text (seen_records 0 rs) ≡ text ++ lines_text (seen_records turn (drop turn rs))

pub nothing_yet : (a : Option (List ℕ)) (rs : Records) → Written a a 0 rs
nothing_yet a rs = record { text = []; wrote = none_written a; whole = refl }

pub one_more : (a b c : Option (List ℕ)) (turn : ℕ) (rs : Records) (r : TurnRecord ObjectData (List ℕ) Named) → Written a b turn rs → drop turn rs ≡ r ∷ drop (turn + 1) rs → Appends b c (line_text (seen_record turn r)) → Written a c (turn + 1) rs
one_more a b c turn rs r w e h = record {
  text = w.text ++ line_text (seen_record turn r);
  wrote = both_written a b c w.text (line_text (seen_record turn r)) w.wrote h;
  whole = w.whole ∙ ap (λ left. w.text ++ lines_text (seen_records turn left)) e
      ∙ sym (append_assoc w.text (line_text (seen_record turn r)) (lines_text (seen_records (turn + 1) (drop (turn + 1) rs))));
}

pub all_written : (a b : Option (List ℕ)) (turn : ℕ) (rs : Records) → Written a b turn rs → drop turn rs ≡ [] → Appends a b (lines_text (seen_records 0 rs))
all_written a b turn rs w e =
    let whole : lines_text (seen_records 0 rs) ≡ w.text = w.whole ∙ ap (λ left. w.text ++ lines_text (seen_records turn left)) e ∙ append-nil w.text in
    subst (Appends a b) (sym whole) w.wrote

pub part_written : (a b c : Option (List ℕ)) (turn : ℕ) (rs : Records) (r : TurnRecord ObjectData (List ℕ) Named) → Written a b turn rs → drop turn rs ≡ r ∷ drop (turn + 1) rs → AppendsPart b c (line_text (seen_record turn r)) → AppendsPart a c (lines_text (seen_records 0 rs))
part_written a b c turn rs r w e p =
    let after = lines_text (seen_records (turn + 1) (drop (turn + 1) rs)) in
    record {
      front = w.text ++ p.front;
      rest = p.rest ++ after;
      split = w.whole ∙ ap (λ left. w.text ++ lines_text (seen_records turn left)) e
          ∙ ap (λ line. w.text ++ (line ++ after)) p.split
          ∙ ap (λ t. w.text ++ t) (append_assoc p.front p.rest after)
          ∙ sym (append_assoc w.text p.front (p.rest ++ after));
      appended = both_written a b c w.text p.front w.wrote p.appended;
    }
