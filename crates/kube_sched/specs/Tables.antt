-- What a scheduler keeps of its messages: a table of entries, the heap of their times, and the numbers of those that wait.
use Rattle.std.specs.Prelude.{◌≡◌, ℕ, zero, suc, ◌+◌, ◌≤◌, ◌<◌, Bool, true, false, nat_eq, List, [], ◌∷◌, ◌++◌, map, find, filter_map, length, Contains, Option, Some, None, slice_get, IsPermutation, if◌then◌else◌}
use Rattle.std.specs.List.{AllByRecursion, IsDistinct, list_any}
use Rattle.std.specs.Ordering.{nat_cmp, ordering_then}
use Rattle.std.specs.Map.{keys_of}
use Rattle.std.specs.BinaryHeap.{IsHeap}
use Rattle.std.specs.declared.cmp.Ordering.{Ordering}
use Rattle.std.specs.declared.cmp.Reverse.{Reverse}
use Rattle.indexmap.specs.IndexMap.{set_value_at}
use Rattle.kube_sched.specs.declared.held.Held.{Held}
use Rattle.kube_sched.specs.declared.table.Entry.{Entry}
use Rattle.kube_sched.specs.declared.timetable.Place.{Place}

-- a message with its entry
abbrev pub Row : Type 0 → Type 0
Row M = M × Entry

abbrev pub number_of : {M : Type 0} → Row M → ℕ
number_of r = r.1.number

-- the row whose entry has this number
abbrev pub at : {M : Type 0} → List (Row M) → ℕ → Option (Row M)
at rows n = find (λ r. nat_eq n r.1.number) rows

abbrev pub held_in : {M : Type 0} → Row M → Held M
held_in r = record { message = r.0; time = r.1.time }

-- a row that waits, and one that doesn't
abbrev pub if_waits : {M : Type 0} → Option (Row M) → Option (Held M)
if_waits None = None
if_waits (Some r) = if r.1.is_waiting then Some (held_in r) else None

abbrev pub if_comes : {M : Type 0} → Option (Row M) → Option (Held M)
if_comes None = None
if_comes (Some r) = if r.1.is_waiting then None else Some (held_in r)

-- the numbers below this one, in their order
abbrev pub upto : ℕ → List ℕ
upto zero = []
upto (suc n) = upto n ++ n ∷ []

-- the messages that wait, in the order of their numbers in the queue
abbrev pub waiting_in : {M : Type 0} → List (Row M) → List ℕ → List (Held M)
waiting_in rows queue = filter_map (λ n. if_waits (at rows n)) queue

-- the messages that don't, in the order of the requests that set them
abbrev pub scheduled_in : {M : Type 0} → List (Row M) → ℕ → List (Held M)
scheduled_in rows next = filter_map (λ n. if_comes (at rows n)) (upto next)

-- the place of an entry in the heap, and the order of places: the earliest time stands on top, and then the least number
abbrev pub place_of : Entry → Reverse Place
place_of e = record { 0 = record { time = e.time.0; number = e.number } }

abbrev pub place_order : Reverse Place → Reverse Place → Ordering
place_order a b = ordering_then (nat_cmp b.0.time a.0.time) (nat_cmp b.0.number a.0.number)

-- the row at a place has this number
pub record RowAt {M : Type 0} (rows : List (Row M)) (place n : ℕ) : Type 0 where
  pub row : Row M
  pub there : slice_get rows place ≡ Some row
  pub numbered : n ≡ row.1.number

-- the row at a place was taken out: the others are the rest, in some order
pub record TakenAt {M : Type 0} (rows rest : List (Row M)) (place : ℕ) (message : M) : Type 0 where
  pub row : Row M
  pub there : slice_get rows place ≡ Some row
  pub is : message ≡ row.0
  pub moves : IsPermutation rows (row ∷ rest)

-- the row at a place waits from now on
pub record MarkedAt {M : Type 0} (rows marked : List (Row M)) (place : ℕ) : Type 0 where
  pub row : Row M
  pub entry : Entry
  pub there : slice_get rows place ≡ Some row
  pub number : entry.number ≡ row.1.number
  pub time : entry.time ≡ row.1.time
  pub held : entry.is_waiting ≡ true
  pub is : marked ≡ set_value_at rows place entry

module _ {M : Type 0} (same : M → M → Bool) where
  -- the numbers stand at the places of their entries, and no two messages are the same or have one number
  pub record IsIndexed (rows : List (Row M)) (numbers : List ℕ) : Type 0 where
    pub numbered : numbers ≡ map number_of rows
    pub apart : IsDistinct nat_eq numbers
    pub unique : IsDistinct same (keys_of rows)

  -- a table, a heap and a queue belong together: numbers come below the next one; what doesn't wait has its place in
  -- the heap, among others that are stale; what waits stands in the queue; none stands twice
  pub record IsKept (rows : List (Row M)) (numbers : List ℕ) (heap : List (Reverse Place)) (queue : List ℕ) (next : ℕ) : Type 0 where
    pub indexed : IsIndexed rows numbers
    pub below : (n : ℕ) → next ≤ n → at rows n ≡ None
    pub ordered : IsHeap place_order heap
    pub bounded : AllByRecursion (λ p. p.0.number < next) heap
    pub different : IsDistinct nat_eq (map (λ p. p.0.number) heap)
    pub live : (p : Reverse Place) (r : Row M) → Contains heap p → at rows p.0.number ≡ Some r → (p ≡ place_of r.1) × (r.1.is_waiting ≡ false)
    pub placed : (n : ℕ) (r : Row M) → at rows n ≡ Some r → r.1.is_waiting ≡ false → Contains heap (place_of r.1)
    pub queued : AllByRecursion (λ n. (r : Row M) × (at rows n ≡ Some r) × (r.1.is_waiting ≡ true)) queue
    pub once : IsDistinct nat_eq queue
    pub waits : (n : ℕ) (r : Row M) → at rows n ≡ Some r → r.1.is_waiting ≡ true → list_any (nat_eq n) queue ≡ true
    pub counted : length rows ≡ length queue + length (scheduled_in rows next)
