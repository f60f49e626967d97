-- A trace as the program holds it, seen as the lines that are written.
use Rattle.std.specs.Prelude.{ℕ, ◌+◌, List, [], ◌∷◌, map, option_map, Option, Some, None, Result, Ok, Err}
use Rattle.std.specs.List.{filter_map}
use Rattle.std.specs.Arc.{arc_value}
use Rattle.kube_meta.specs.Keys.{reference_of}
use Rattle.kube_meta.specs.Reference.{Reference}
use Rattle.kube_meta.specs.Reading.{ObjectData}
use Rattle.kube_meta.specs.declared.object_ref.ObjectRef.{ObjectRef}
use Rattle.kube_object.specs.Named.{Named, named_type}
use Rattle.kube_turn.specs.declared.record.Finished.{Finished}
use Rattle.kube_turn.specs.declared.record.TurnRecord.{TurnRecord}
use Rattle.kube_turn.specs.Views.{exchange_of, taken_of}
use Rattle.kube_text.specs.TraceText.{ShownFinish, Line}

abbrev pub seen_reference : ObjectRef ObjectData Named → Reference
seen_reference r = reference_of named_type r

abbrev pub error_text : {A : Type 0} → Result A (List ℕ) → Option (List ℕ)
error_text (Ok a) = None
error_text (Err text) = Some text

abbrev pub seen_finish : Finished ObjectData (List ℕ) Named → ShownFinish
seen_finish f = record { error = error_text f.outcome; reference = seen_reference f.reference; requeue = f.action }

abbrev pub seen_record : ℕ → TurnRecord ObjectData (List ℕ) Named → Line
seen_record turn r = record {
  turn = turn;
  at = r.at.0;
  asks = map (exchange_of named_type) r.exchanges;
  ended = r.ended;
  finished = map seen_finish r.finished;
  stops = map (λ s. s) r.stops;
  store = option_map (map arc_value) r.store;
  taken = filter_map (taken_of named_type) r.taken;
}

-- the records numbered from here on
abbrev pub seen_records : ℕ → List (TurnRecord ObjectData (List ℕ) Named) → List Line
seen_records turn [] = []
seen_records turn (r ∷ rs) = seen_record turn r ∷ seen_records (turn + 1) rs
