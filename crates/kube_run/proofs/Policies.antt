-- The trace of a script's turns, from what a run of its controller promises: what the error policy answered is the script's requeue, and the lines are those of the records.
use Rattle.std.proofs.Common.{◌≡◌, ℕ, ◌+◌, ◌≤◌, List, [], ◌∷◌, ◌++◌, Option, Some, None, Result, Ok, Err, map, option_map, length, refl, ap, ap₂, ◌∙◌, arith}
use Rattle.std.specs.Arc.{arc_value}
use Rattle.std.specs.List.{filter_map}
use Rattle.std.specs.declared.sync.Arc.{Arc}
use Rattle.std.specs.declared.alloc.Global.{Global}
use Rattle.std.proofs.lemmas.List.{map-id}
use Rattle.kube_meta.specs.Keys.{reference_of}
use Rattle.kube_meta.specs.Reading.{ObjectData}
use Rattle.kube_meta.specs.declared.action.Action.{Action}
use Rattle.kube_model.specs.History.{Step}
use Rattle.kube_model.specs.Takes.{Running, running}
use Rattle.kube_model.specs.Traces.{AreFinishesOf, IsActionOf, IsRecord, IsRefusedAfter, IsTrace, Refusal, handed_over, step, unread}
use Rattle.kube_model.specs.World.{World}
use Rattle.kube_object.specs.Named.{Named, named_type}
use Rattle.kube_script.specs.Told.{fault_text}
use Rattle.kube_script.specs.declared.backoff.ScriptBackoff.{ScriptBackoff}
use Rattle.kube_step.specs.Finishes.{AreFinished, IsActionFor}
use Rattle.kube_text.specs.TraceText.{line_of, lines_of, shown_finishes}
use Rattle.kube_text.specs.TraceView.{error_text, seen_finish, seen_record, seen_records}
use Rattle.kube_turn.specs.Records.{finish_of, finished_of, outcome_of, record_of, records_of, turn_of, turns_of}
use Rattle.kube_turn.specs.Views.{exchange_of, shown_objects, taken_of}
use Rattle.kube_turn.specs.declared.record.Finished.{Finished}
use Rattle.kube_turn.specs.declared.record.TurnRecord.{TurnRecord as HeldRecord}
use Rattle.kube_turn.specs.declared.turn.Finish.{Finish}
use Rattle.kube_turn.specs.declared.turn.Turn.{Turn as HeldTurn}
use Rattle.kube_control.specs.Runs.{AreFinishedIn}

abbrev Fault : Type 0
Fault = List ℕ

abbrev pub Turns : Type 0
Turns = List (HeldTurn ObjectData Fault Named)

abbrev pub Held : Type 0
Held = List (HeldRecord ObjectData Fault Named)

-- ---- actions

module _ (w : World ObjectData ScriptBackoff) (policy : ObjectData → Fault → Action → Type 0) (requeue : Option ℕ) (says : (o : ObjectData) (e : Fault) (a : Action) → policy o e a → a ≡ requeue) where
  -- the script's requeue, whatever failed
  abbrev always : ℕ → ObjectData → Option ℕ
  always k o = requeue

  action-by : (q : ObjectData → Option ℕ) (object : Option ObjectData) (o : Result Action Fault) (a : Option ℕ) → IsActionFor policy object o a → IsActionOf q object (outcome_of o) a → IsActionOf (always 0) object (outcome_of o) a
  action-by q object (Ok own) a held told = told
  action-by q None (Err fault) a held told = absurd told
  action-by q (Some ob) (Err fault) a held told = says ob fault a held

  finishes-by : (q : ℕ → ObjectData → Option ℕ) (runs : List (Running ObjectData)) (fs : List (Finish ObjectData Fault Named)) (gs : List (Finished ObjectData Fault Named)) → AreFinished named_type policy runs fs gs
      → AreFinishesOf q runs (map (finish_of named_type) fs) (map (finished_of named_type) gs) → AreFinishesOf always runs (map (finish_of named_type) fs) (map (finished_of named_type) gs)
  finishes-by q runs [] [] h k = k
  finishes-by q runs [] (g ∷ gs) h k = absurd h
  finishes-by q runs (f ∷ fs) [] h k = absurd h
  finishes-by q runs (f ∷ fs) (g ∷ gs) h k = (
    record {
      finish = k.0.finish;
      action = action-by (q 0) (handed_over runs (reference_of named_type f.reference)) f.outcome g.action h.0.action k.0.action;
    },
    finishes-by (λ n. q (n + 1)) runs fs gs h.1 k.1,
  )

  record-by : (q : ℕ → ObjectData → Option ℕ) (h : List (Step ObjectData)) (t : HeldTurn ObjectData Fault Named) (r : HeldRecord ObjectData Fault Named) → AreFinished named_type policy (running h) t.finishes r.finished
      → IsRecord w q h (turn_of named_type t) (unread (record_of named_type r)) → IsRecord w always h (turn_of named_type t) (unread (record_of named_type r))
  record-by q h t r f k = record {
    valid = k.valid;
    finishes = finishes-by q (running h) t.finishes r.finished f k.finishes;
    asked = k.asked;
    done = k.done;
    reads = k.reads;
    determined = k.determined;
  }

  pub trace-by : (q : ℕ → ℕ → ObjectData → Option ℕ) (h : List (Step ObjectData)) (ts : Turns) (rs : Held) → AreFinishedIn named_type policy h ts rs
      → IsTrace w q h (turns_of named_type ts) (map unread (records_of named_type rs)) → IsTrace w (λ n. always) h (turns_of named_type ts) (map unread (records_of named_type rs))
  trace-by q h [] rs f k = k
  trace-by q h (t ∷ ts) [] f k = k
  trace-by q h (t ∷ ts) (r ∷ rs) f k = (k.0, record-by (q 0) h t r f.0 k.1, trace-by (λ n. q (n + 1)) (h ++ step (turn_of named_type t) (unread (record_of named_type r)) ∷ []) ts rs f.1 k.2)

  pub refused-by : (q : ℕ → ℕ → ObjectData → Option ℕ) (h : List (Step ObjectData)) (ts : Turns) (rs : Held) (why : Refusal) → AreFinishedIn named_type policy h ts rs
      → IsRefusedAfter w q h (turns_of named_type ts) (map unread (records_of named_type rs)) why → IsRefusedAfter w (λ n. always) h (turns_of named_type ts) (map unread (records_of named_type rs)) why
  refused-by q h [] rs why f k = absurd k
  refused-by q h (t ∷ ts) [] why f k = k
  refused-by q h (t ∷ ts) (r ∷ rs) why f k = (k.0, record-by (q 0) h t r f.0 k.1, refused-by (λ n. q (n + 1)) (h ++ step (turn_of named_type t) (unread (record_of named_type r)) ∷ []) ts rs why f.1 k.2)

-- ---- lines

same-text : {A : Type 0} (o : Result A Fault) → error_text o ≡ fault_text o
same-text (Ok a) = refl
same-text (Err text) = refl

same-finishes : (fs : List (Finished ObjectData Fault Named)) → map seen_finish fs ≡ shown_finishes (map (λ f. error_text f.outcome) fs) (map (finished_of named_type) fs)
same-finishes [] = refl
same-finishes (f ∷ fs) = ap (λ gs. seen_finish f ∷ gs) (same-finishes fs)

same-store : (os : Option (List (Arc ObjectData Global))) → option_map (map arc_value) os ≡ shown_objects os
same-store None = refl
same-store (Some os) = refl

same-line : (turn : ℕ) (r : HeldRecord ObjectData Fault Named) → seen_record turn r ≡ line_of turn (map (λ f. error_text f.outcome) r.finished) (record_of named_type r)
same-line turn r = λ i. record {
  turn = turn;
  at = r.at.0;
  asks = map (exchange_of named_type) r.exchanges;
  ended = r.ended;
  finished = same-finishes r.finished i;
  stops = map-id r.stops i;
  store = same-store r.store i;
  taken = filter_map (taken_of named_type) r.taken;
}

-- the faults of a record's finishes are those of its turn's
same-faults : (policy : ObjectData → Fault → Action → Type 0) (runs : List (Running ObjectData)) (fs : List (Finish ObjectData Fault Named)) (gs : List (Finished ObjectData Fault Named)) → AreFinished named_type policy runs fs gs
    → map (λ g. error_text g.outcome) gs ≡ map (λ f. fault_text f.outcome) fs
same-faults policy runs [] [] h = refl
same-faults policy runs [] (g ∷ gs) h = absurd h
same-faults policy runs (f ∷ fs) [] h = absurd h
same-faults policy runs (f ∷ fs) (g ∷ gs) h = ap₂ (λ x xs. x ∷ xs) (ap error_text h.0.outcome ∙ same-text f.outcome) (same-faults policy runs fs gs h.1)

abbrev pub faults_of : Turns → List (List (Option Fault))
faults_of ts = map (λ t. map (λ f. fault_text f.outcome) t.finishes) ts

pub same-lines : (policy : ObjectData → Fault → Action → Type 0) (n : ℕ) (h : List (Step ObjectData)) (ts : Turns) (rs : Held) → length rs ≤ length ts → AreFinishedIn named_type policy h ts rs
    → seen_records n rs ≡ lines_of n (faults_of ts) (records_of named_type rs)
same-lines policy n h ts [] l f = refl
same-lines policy n h [] (r ∷ rs) l f = absurd (omega (arith, l))
same-lines policy n h (t ∷ ts) (r ∷ rs) l f =
    ap₂ (λ x xs. x ∷ xs) (same-line n r ∙ ap (λ fs. line_of n fs (record_of named_type r)) (same-faults policy (running h) t.finishes r.finished f.0))
    (same-lines policy (n + 1) (h ++ step (turn_of named_type t) (unread (record_of named_type r)) ∷ []) ts rs (omega (arith, l)) f.1)

-- no more records than turns
pub few-records : (w : World ObjectData ScriptBackoff) (q : ℕ → ℕ → ObjectData → Option ℕ) (h : List (Step ObjectData)) (ts : Turns) (rs : Held) → IsTrace w q h (turns_of named_type ts) (map unread (records_of named_type rs)) → length rs ≤ length ts
few-records w q h ts [] k = omega arith
few-records w q h [] (r ∷ rs) k = absurd (cc)
few-records w q h (t ∷ ts) (r ∷ rs) k = let rest = few-records w (λ n. q (n + 1)) (h ++ step (turn_of named_type t) (unread (record_of named_type r)) ∷ []) ts rs k.2 in omega (arith, rest)
