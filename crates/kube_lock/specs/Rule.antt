-- The rule of the lock, which each kind of step keeps. Word 0 is the next ticket, word 1 the ticket served, and word 2 the length of the history. Tickets are counted modulo 2^64.
use Rattle.std.specs.Prelude.{◌≡◌, ◌≢◌, ℕ, ◌==◌, ◌<◌, ◌≤◌, ◌+◌, ◌%◌, ◌^◌, List, [], ◌∷◌, length, Bool, true, false, Option, Some, None, IfSome}
use Rattle.std.specs.List.{filter, AllByRecursion, IsDistinct}
use mathlib.Core.Option.{some}
use mathlib.Core.List.{IsPrefix}
use lib.ListN.{get_elem?}
use Rattle.atomic_table.specs.Table.{State}
use Rattle.kube_lock.specs.declared.view.View.{View}
use Rattle.kube_lock.specs.declared.view.Joined.{Joined}

abbrev pub same : ℕ → ℕ → Bool
same a b = a == b

-- no seat holds the slot
abbrev pub NoneHold : {E P : Type 0} → List (View E P) → Type 0
NoneHold {E} {P} views = (seat : ℕ) (v : View E P) → get_elem? views seat ≡ some v → v.holds ≡ false

module _ {E : Type 0} (number : E → ℕ) where
  -- the entries of one number, in their order
  abbrev pub calls_of : ℕ → List E → List E
  calls_of n log = filter (λ e. number e == n) log

  -- these are all entries of a number; a seat without a number has none of its own
  abbrev pub AreOwn : Option ℕ → List E → List E → Type 0
  AreOwn None own log = own ≡ []
  AreOwn (Some n) own log = calls_of n log ≡ own

  -- what is kept of a number that was taken in are all its entries
  abbrev pub IsKept : List E → Joined E → Type 0
  IsKept log k = calls_of k.number log ≡ k.own

  -- what is said of each view, by: the history; the numbers that wait, in the order of their tickets; the ticket served; how many numbers were given, and the seat that may keep this count; and the seat of each number
  module _ {P : Type 0} (opening : P) (log : List E) (queue : List ℕ) (served given counter : ℕ) (seat_of : ℕ → ℕ) where
    pub record Fits (seat : ℕ) (v : View E P) : Type 0 where
      -- all views know the same opening; a spent one knows none
      pub opens : IfSome v.opening (λ o. o ≡ opening)
      -- the history begins with what was seen, and with each list that a join left
      pub seen : IsPrefix v.seen log
      pub fronts : AllByRecursion (λ front. IsPrefix front log) v.fronts
      pub own : AreOwn v.number v.own log
      pub joined : AllByRecursion (IsKept log) v.joined
      -- its number and those that it keeps were given, and are at this seat alone
      pub here : IfSome v.number (λ n. (n < given) × (seat_of n ≡ seat))
      pub kept : AllByRecursion (λ k. (k.number < given) × (seat_of k.number ≡ seat)) v.joined
      -- its own number is none of those that it keeps
      pub apart : IfSome v.number (λ n. AllByRecursion (λ k. k.number ≢ n) v.joined)
      -- a ticket is its number's place among those that wait
      pub ticket : IfSome v.ticket (λ t. (n : ℕ) × (k : ℕ) × (v.number ≡ Some n) × (get_elem? queue k ≡ some n) × (t ≡ (served + k) % 2 ^ 64))
      -- who holds the slot has the ticket served, and has seen the history
      pub holds : v.holds ≡ true → (v.seen ≡ log) × (v.ticket ≡ Some served)
      -- one seat at most keeps the count
      pub count : IfSome v.given (λ c. (c ≡ given) × (counter ≡ seat))

module _ {C E P : Type 0} (entries : C → List E) (number : E → ℕ) (opened : C → P) (Legal : P → List E → Type 0) (opening : P) where
  pub record IsRuled (s : State (Option C) (View E P)) : Type 0 where
    pub log : List E
    pub queue : List ℕ
    pub served : ℕ
    pub given : ℕ
    pub counter : ℕ
    pub seat_of : ℕ → ℕ
    -- the history passes the test
    pub legal : Legal opening log
    pub words : s.words ≡ (served + length queue) % 2 ^ 64 ∷ served ∷ length log ∷ []
    pub small : served < 2 ^ 64
    -- each ticket from the one served on is held by a seat with the number that waits there, and no number waits twice
    pub held : (k n : ℕ) → get_elem? queue k ≡ some n → (n < given) × (v : View E P) × (get_elem? s.views (seat_of n) ≡ some v) × (v.number ≡ Some n) × (v.ticket ≡ Some ((served + k) % 2 ^ 64))
    pub once : IsDistinct same queue
    pub few : given ≤ 64
    -- a number that wasn't given has no entries
    pub others : (n : ℕ) → given ≤ n → calls_of number n log ≡ []
    pub each : (seat : ℕ) (v : View E P) → get_elem? s.views seat ≡ some v → Fits number opening log queue served given counter seat_of seat v
    -- where no seat holds the slot the value is at home: it tells the history, and what was opened
    pub home : NoneHold s.views → (c : C) × (get_elem? s.homes 0 ≡ some (some (Some c))) × (entries c ≡ log) × (opened c ≡ opening)
