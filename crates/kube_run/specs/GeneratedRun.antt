-- The run over a generated input: a turn each second, in which all finishes that runs before it; and the totals of its records.
use Rattle.std.specs.Prelude.{◌≡◌, ℕ, Bool, ◌+◌, ◌*◌, ◌-◌, false, not, is_some, List, [], ◌∷◌, ◌++◌, map, length, None}
use Rattle.std.specs.List.{filter, filter_map, flat_map, sum_by}
use Rattle.kube_meta.specs.Reading.{ObjectData}
use Rattle.kube_meta.specs.Reference.{Reference}
use Rattle.kube_model.specs.History.{Exchange, Finish, Step, Succeeded, Taken, Turn, TurnRecord}
use Rattle.kube_model.specs.Stored.{store_after}
use Rattle.kube_model.specs.Takes.{running, started}
use Rattle.kube_model.specs.Traces.{step, unread}
use Rattle.kube_model.specs.declared.turn.Shutdown.TheVariants.{No}
use Rattle.kube_gen.specs.Generated.{script_of, second}
use Rattle.kube_script.specs.Script.{Script}
use Rattle.kube_run.specs.Played.{Apis, IsPlayedTo, made_by, script_world}
use Rattle.kube_run.specs.declared.totals.Totals.{Totals}

-- ---- turns

-- a reconcile ended well, and its object comes again after a change
abbrev pub ended_well : Reference → Finish
ended_well r = record { reference = r; outcome = Succeeded None }

-- how often each source may be asked in a turn
abbrev pub budgets : List ℕ
budgets = 200 ∷ 200 ∷ []

-- the turn of a number, the first being 0: at that second, and these finish
abbrev pub turn_at : ℕ → List Reference → Turn
turn_at k references = record {
  at = k * second;
  budget = budgets;
  finishes = map ended_well references;
  reload = false;
  on = [];
  shutdown = No;
  show = false;
}

-- what runs after a history, in the order of its start
abbrev pub running_references : {O : Type 0} → List (Step O) → List Reference
running_references h = map (λ p. p.reference) (running h)

-- turns from the k-th on, after a history: each that has a record is at its second, and all finishes in it that runs before it
abbrev pub AreTurnsFrom : {O : Type 0} → ℕ → List (Step O) → List Turn → List (TurnRecord O) → Type 0
AreTurnsFrom k h (t ∷ ts) (r ∷ rs) = (t ≡ turn_at k (running_references h)) × AreTurnsFrom (k + 1) (h ++ step t (unread r) ∷ []) ts rs
AreTurnsFrom k h _ _ = Unit {0}

-- ---- the run

-- what a seed, a number of objects and a number of turns name: the first turn meets the input unchanged
abbrev pub input_of : ℕ → ℕ → ℕ → Script
input_of seed objects turns = script_of seed objects (turns - 1)

-- the records are the trace of these turns over that input
pub record IsRunOver (seed objects count : ℕ) (turns : List Turn) (records : List (TurnRecord ObjectData)) : Type 0 where
  pub count_is : length turns ≡ count
  pub turns_are : AreTurnsFrom 0 [] turns records
  pub left : Apis
  pub played : IsPlayedTo (input_of seed objects count) turns records left

-- ---- totals

-- what of these was found, and so handed over, in order
abbrev pub references_in : {O : Type 0} → List (Taken O) → List Reference
references_in ts = map (λ p. p.reference) (filter_map started ts)

-- what records handed over
abbrev pub started_by : {O : Type 0} → List (TurnRecord O) → List Reference
started_by rs = flat_map (λ r. references_in r.taken) rs

-- how often a source was asked
abbrev pub asks_in : TurnRecord ObjectData → ℕ
asks_in r = length r.exchanges

-- what the exchanges requested
abbrev pub requested : List (Exchange ObjectData) → ℕ
requested xs = sum_by (λ x. length x.requests) xs

abbrev pub requests_in : TurnRecord ObjectData → ℕ
requests_in r = requested r.exchanges

-- what was handed over, and what was taken and not found
abbrev pub started_in : TurnRecord ObjectData → ℕ
started_in r = length (references_in r.taken)

abbrev pub is_missing : Taken ObjectData → Bool
is_missing t = not (is_some t.object)

abbrev pub missing_in : TurnRecord ObjectData → ℕ
missing_in r = length (filter is_missing r.taken)

abbrev pub finished_in : TurnRecord ObjectData → ℕ
finished_in r = length r.finished

-- of all records, with how many objects are stored at the end
abbrev pub totals_of : List (TurnRecord ObjectData) → ℕ → Totals
totals_of rs stored = record {
  asks = sum_by asks_in rs;
  finished = sum_by finished_in rs;
  missing = sum_by missing_in rs;
  objects = stored;
  requests = sum_by requests_in rs;
  started = sum_by started_in rs;
}

-- how many objects are stored after these turns
abbrev pub stored_after : Script → List Turn → List (TurnRecord ObjectData) → ℕ
stored_after s turns records = length (store_after (script_world s) (made_by turns records))

-- these are the totals of the run over that input
pub record AreTotals (seed objects count : ℕ) (totals : Totals) : Type 0 where
  pub turns : List Turn
  pub records : List (TurnRecord ObjectData)
  pub run : IsRunOver seed objects count turns records
  pub totals_are : totals ≡ totals_of records (stored_after (input_of seed objects count) turns records)
