-- A timetable as a contract sees it.
use Rattle.std.specs.Prelude.{◌≡◌, ℕ, ◌+◌, ◌-◌, ◌<◌, ◌≤◌, ◌^◌, Bool, List, length}
use Rattle.std.specs.BinaryHeap.{heap_items, heap_len, heap_capacity}
use Rattle.std.specs.VecDeque.{deque_capacity}
use Rattle.indexmap.specs.IndexMap.{spare}
use Rattle.indexmap.specs.IndexSet.{spare as spare_of}
use Rattle.kube_sched.specs.declared.held.Held.{Held}
use Rattle.kube_sched.specs.declared.timetable.Timetable.{Timetable}
use Rattle.kube_sched.specs.Tables.{Row, IsKept as AreKept, waiting_in, scheduled_in}

module _ {M : Type 0} where
  abbrev pub rows_of : Timetable M → List (Row M)
  rows_of t = t.table.entries.entries

  -- the messages that wait, in their order, and those that don't, in the order of the requests that set them
  abbrev pub waiting_of : Timetable M → List (Held M)
  waiting_of t = waiting_in (rows_of t) t.waiting.items

  abbrev pub scheduled_of : Timetable M → List (Held M)
  scheduled_of t = scheduled_in (rows_of t) t.next

  -- the places of the heap that no entry has
  abbrev pub stale_of : Timetable M → ℕ
  stale_of t = length (heap_items t.heap) - length (scheduled_of t)

  -- there is room for as many more entries as are spare, and they have numbers
  pub record HasRoom (t : Timetable M) : Type 0 where
    pub entries : t.spare ≤ spare t.table.entries
    pub numbers : t.spare ≤ spare_of t.table.numbers
    pub heap : heap_len t.heap + t.spare ≤ heap_capacity t.heap
    pub waiting : length (rows_of t) + t.spare ≤ deque_capacity t.waiting
    pub next : t.next + t.spare < 2 ^ 64

  -- its parts belong together
  pub record IsKept (same : M → M → Bool) (t : Timetable M) : Type 0 where
    pub parts : AreKept same (rows_of t) t.table.numbers.keys (heap_items t.heap) t.waiting.items t.next
    pub room : HasRoom t

-- it holds the same
pub record HoldsSame {M : Type 0} (t u : Timetable M) : Type 0 where
  pub waiting : waiting_of u ≡ waiting_of t
  pub scheduled : scheduled_of u ≡ scheduled_of t
  pub stale : stale_of u ≡ stale_of t
