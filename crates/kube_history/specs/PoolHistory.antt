-- The history of a pool, whose passes share one core: entries of one event, or of a settle and a take, each with the number of its pass. O is the type of objects.
use Rattle.std.specs.Prelude.{◌≡◌, ◌==◌, ℕ, Bool, true, false, List, [], ◌∷◌, ◌++◌, Option, Some, None, is_some, unwrap_or, if◌then◌else◌}
use Rattle.std.specs.List.{filter, filter_map, flat_map}
use Rattle.kube_meta.specs.Reference.{Reference, same_reference}
use Rattle.kube_model.specs.History.{Taken}
use Rattle.kube_model.specs.Cuts.{last}
use Rattle.kube_history.specs.CoreWorld.{CoreWorld}
use Rattle.kube_history.specs.CoreEvents.{CoreEvent, Answered, Requested, Reloaded, Finished, Settled, Took, Shut}
use Rattle.kube_history.specs.Legal.{AreLegal}

-- a pool's take is one entry that settles and then takes
pub data PoolEntry (O : Type 0) : Type 0 where
  Single : (pass : ℕ) (event : CoreEvent O) → PoolEntry O
  SettledAndTook : (pass : ℕ) (at : ℕ) (taken : Option (Taken O)) → PoolEntry O

module _ {O : Type 0} where
  abbrev pub pass_of : PoolEntry O → ℕ
  pass_of (Single pass event) = pass
  pass_of (SettledAndTook pass at taken) = pass

  abbrev pub entry_events : PoolEntry O → List (CoreEvent O)
  entry_events (Single pass event) = event ∷ []
  entry_events (SettledAndTook pass at taken) = Settled at ∷ Took at taken ∷ []

  -- the events of a pool's core
  abbrev pub events_in : List (PoolEntry O) → List (CoreEvent O)
  events_in entries = flat_map entry_events entries

  -- those of one pass
  abbrev pub events_by : ℕ → List (PoolEntry O) → List (CoreEvent O)
  events_by pass entries = events_in (filter (λ e. pass_of e == pass) entries)

  -- what an event says of a reference: a take of it says whether it started it, and a finish of it that it runs no more
  abbrev pub says_of : Reference → CoreEvent O → Option Bool
  says_of r (Took at (Some t)) = if same_reference t.message.reference r then Some (is_some t.object) else None
  says_of r (Finished at reference ok action ran) = if same_reference reference r then Some false else None
  says_of r _ = None

  -- whether the last take or finish of a reference by a pass is a take that started it
  abbrev pub has_started : ℕ → Reference → List (PoolEntry O) → Bool
  has_started pass r entries = unwrap_or (last (filter_map (says_of r) (events_by pass entries))) false

  -- what a pass may do: the first one alone is answered, a take settles before it, and a pass finishes what it has started
  abbrev pub MayPass : List (PoolEntry O) → ℕ → CoreEvent O → Type 0
  MayPass before pass (Answered at x) = pass ≡ 0
  MayPass before pass (Requested at reference) = Unit {0}
  MayPass before pass (Reloaded at) = Unit {0}
  MayPass before pass (Finished at reference ok action ran) = has_started pass reference before ≡ true
  MayPass before pass (Settled at) = Unit {0}
  MayPass before pass (Took at taken) = ⊥
  MayPass before pass (Shut at) = Unit {0}

  abbrev pub IsOfPass : List (PoolEntry O) → PoolEntry O → Type 0
  IsOfPass before (Single pass event) = MayPass before pass event
  IsOfPass before (SettledAndTook pass at taken) = Unit {0}

  abbrev pub AreOfPasses : List (PoolEntry O) → List (PoolEntry O) → Type 0
  AreOfPasses before [] = Unit {0}
  AreOfPasses before (e ∷ es) = IsOfPass before e × AreOfPasses (before ++ e ∷ []) es

-- what a pool's entries are after an opening list of events: legal, and each what its pass may do
module _ {O : Type 0} (core : CoreWorld O) (opening : List (CoreEvent O)) where
  pub record IsPoolHistory (entries : List (PoolEntry O)) : Type 0 where
    pub legal : AreLegal core opening (events_in entries)
    pub passes : AreOfPasses [] entries
