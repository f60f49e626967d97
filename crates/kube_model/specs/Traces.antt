-- Valid turns and their refusals, what a record of a turn is, and what a trace is.
use Rattle.std.specs.Prelude.{◌≡◌, ℕ, ◌+◌, ◌^◌, Bool, true, false, not, ◌||◌, nat_le, nat_lt, List, [], ◌∷◌, ◌++◌, Option, Some, None, if◌then◌else◌}
use Rattle.std.specs.List.{find, list_any}
use Rattle.std.specs.Option.{option_map, option_map_or}
use Rattle.kube_meta.specs.Reference.{Reference, same_reference}
use Rattle.kube_model.specs.World.{World, feed_of}
use Rattle.kube_model.specs.Reads.{Reads, nothing_read}
use Rattle.kube_model.specs.History.{Exchange, Outcome, Succeeded, Failed, Finish, Finished, Turn, TurnRecord, Step, exchanges_with}
use Rattle.kube_model.specs.Cuts.{last}
use Rattle.kube_model.specs.Fits.{IsFitting}
use Rattle.kube_model.specs.Takes.{Running, running, runs}
use Rattle.kube_model.specs.Turns.{next_source, record_with, ReadsFit}

-- Valid turns.

-- why a turn is refused
pub data Refusal : Type 0 where
  Moment : (at : ℕ) → (last : ℕ) → Refusal  -- it is too late, or before the last turn's
  NotRunning : (finish : ℕ) → Refusal  -- no equal reference ran before the turn
  Twice : (finish : ℕ) → Refusal  -- an earlier finish of the turn names an equal one

-- the first finish that is refused, where this one is the n-th and these were named before it
abbrev pub refused_finish : {O : Type 0} → List (Running O) → List Reference → ℕ → List Finish → Option Refusal
refused_finish running named n [] = None
refused_finish running named n (f ∷ fs) =
    if not (runs running f.reference) then Some (NotRunning n)
    else if list_any (λ r. same_reference r f.reference) named then Some (Twice n)
    else refused_finish running (f.reference ∷ named) (n + 1) fs

-- the moment of the last turn, 0 at first
abbrev pub last_moment : {O : Type 0} → List (Step O) → ℕ
last_moment h = option_map_or (λ s. s.turn.at) (last h) 0

-- a moment is below 2^63 and not below the last one
abbrev pub refusal : {O : Type 0} → List (Step O) → Turn → Option Refusal
refusal h t =
    if nat_le (2 ^ 63) t.at || nat_lt t.at (last_moment h) then Some (Moment t.at (last_moment h))
    else refused_finish (running h) [] 0 t.finishes

abbrev pub IsValid : {O : Type 0} → List (Step O) → Turn → Type 0
IsValid h t = refusal h t ≡ None

-- Records.

-- the object that was handed over of a reference that runs
abbrev pub handed_over : {O : Type 0} → List (Running O) → Reference → Option O
handed_over running r = option_map (λ p. p.object) (find (λ p. same_reference p.reference r) running)

-- an outcome's own action is the one taken; for a fault what the error policy answers for the object that was handed over
abbrev pub IsActionOf : {O : Type 0} → (O → Option ℕ) → Option O → Outcome → Option ℕ → Type 0
IsActionOf policy object (Succeeded own) action = action ≡ own
IsActionOf policy None Failed action = ⊥
IsActionOf policy (Some o) Failed action = action ≡ policy o

pub record IsFinishOf {O : Type 0} (policy : O → Option ℕ) (running : List (Running O)) (f : Finish) (g : Finished) : Type 0 where
  pub finish : g.finish ≡ f
  pub action : IsActionOf policy (handed_over running f.reference) f.outcome g.action

-- each finish of a turn with its action; policies has, for the n-th of them, what the error policy answers of its fault for an object
abbrev pub AreFinishesOf : {O : Type 0} → (ℕ → O → Option ℕ) → List (Running O) → List Finish → List Finished → Type 0
AreFinishesOf policies running [] gs = gs ≡ []
AreFinishesOf policies running (f ∷ fs) [] = ⊥
AreFinishesOf policies running (f ∷ fs) (g ∷ gs) = IsFinishOf (policies 0) running f g × AreFinishesOf (λ n. policies (n + 1)) running fs gs

abbrev pub has_ended : {O : Type 0} → List (Step O) → Bool
has_ended h = list_any (λ s. s.made.ended) h

-- what a turn made: its record, with what the reader answered in it
abbrev pub Made : Type 0 → Type 0
Made O = TurnRecord O × Reads O

-- of a watched root, which reads nothing of a reader
abbrev pub unread : {O : Type 0} → TurnRecord O → Made O
unread r = (r, nothing_read)

-- a turn with what it made
abbrev pub step : {O : Type 0} → Turn → Made O → Step O
step t m = record { turn = t; made = m.0; reads = m.1 }

-- turns with what they made
abbrev pub steps : {O : Type 0} → List Turn → List (Made O) → List (Step O)
steps [] ms = []
steps (t ∷ ts) [] = []
steps (t ∷ ts) (m ∷ ms) = step t m ∷ steps ts ms

-- turns that made these after a history are valid where each one up to the first record that has ended is; so is the first that has no record yet, if none has ended
abbrev pub AreValid : {O : Type 0} → List (Step O) → List Turn → List (Made O) → Type 0
AreValid h [] ms = Unit {0}
AreValid h (t ∷ ts) [] = has_ended h ≡ false → IsValid h t
AreValid h (t ∷ ts) (m ∷ ms) = IsValid h t × AreValid (h ++ step t m ∷ []) ts ms

module _ {O B : Type 0} (w : World O B) where
  -- the exchange is the next of a turn after those before it
  pub record IsNext (h : List (Step O)) (t : Turn) (before : List (Exchange O)) (x : Exchange O) : Type 0 where
    pub source : next_source w h t before ≡ Some x.source
    pub fits : IsFitting w (exchanges_with h t before) t.at x

  -- each of these is, after those before
  abbrev pub EachIsNext : List (Step O) → Turn → List (Exchange O) → List (Exchange O) → Type 0
  EachIsNext h t before [] = Unit {0}
  EachIsNext h t before (x ∷ xs) = IsNext h t before x × EachIsNext h t (before ++ x ∷ []) xs

  -- this is what a turn made after a history: the turn is valid, each action is that of its finish, each exchange is the next one, none is left to make, the reads are those of such a turn, and the rest is what all these determine
  pub record IsRecord (policies : ℕ → O → Option ℕ) (h : List (Step O)) (t : Turn) (m : Made O) : Type 0 where
    pub valid : IsValid h t
    pub finishes : AreFinishesOf policies (running h) t.finishes m.0.finished
    pub asked : EachIsNext h t [] m.0.exchanges
    pub done : next_source w h t m.0.exchanges ≡ None
    pub reads : ReadsFit w (feed_of w 0) h t m.1 m.0.finished m.0.exchanges
    pub determined : m.0 ≡ record_with w h t m.1 m.0.finished m.0.exchanges

  -- The trace.

  -- the records are the trace of turns after a history: each is its turn's after the history and the records before it, and the last is that of the last turn or the first that has ended. policies has, for the k-th finish of the n-th turn, what the error policy answers of its fault for an object
  abbrev pub IsTrace : (ℕ → ℕ → O → Option ℕ) → List (Step O) → List Turn → List (Made O) → Type 0
  IsTrace policies h [] ms = ms ≡ []
  IsTrace policies h (t ∷ ts) [] = has_ended h ≡ true
  IsTrace policies h (t ∷ ts) (m ∷ ms) = (has_ended h ≡ false) × IsRecord (policies 0) h t m × IsTrace (λ n. policies (n + 1)) (h ++ step t m ∷ []) ts ms

  -- the turn after those that made these is refused; the records are the trace of the turns before it
  abbrev pub IsRefusedAfter : (ℕ → ℕ → O → Option ℕ) → List (Step O) → List Turn → List (Made O) → Refusal → Type 0
  IsRefusedAfter policies h [] ms why = ⊥
  IsRefusedAfter policies h (t ∷ ts) [] why = (has_ended h ≡ false) × (refusal h t ≡ Some why)
  IsRefusedAfter policies h (t ∷ ts) (m ∷ ms) why = (has_ended h ≡ false) × IsRecord (policies 0) h t m × IsRefusedAfter (λ n. policies (n + 1)) (h ++ step t m ∷ []) ts ms why
