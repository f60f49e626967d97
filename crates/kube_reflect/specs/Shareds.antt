-- What a writer has for its readers. K is the type of objects, D that of dynamic types.
use Rattle.std.specs.Prelude.{ℕ, ◌≡◌, ◌<◌, ◌^◌, ◌-◌, ◌++◌, List, Option, Some, None, IfSome, length}
use mathlib.Core.List.{IsPrefix}
use Rattle.kube_meta.specs.Reference.{ObjectType}
use Rattle.kube_watch.specs.declared.event.Event.{Event}
use Rattle.kube_reflect.specs.Entries.{entries_of, told_in, IsPublished, with_publish}
use Rattle.kube_reflect.specs.Published.{Keeping}
use Rattle.std.specs.VecDeque.{deque_capacity, deque_len}
use Rattle.kube_reflect.specs.declared.copies.law.Entry.{Entry}
use Rattle.kube_reflect.specs.declared.copies.mark.Origin.{Origin}
use Rattle.kube_reflect.specs.declared.copies.shared.Stage.{Stage}
use Rattle.kube_reflect.specs.Copies.{added}
use Rattle.kube_reflect.specs.Ties.{Home}
use Rattle.kube_reflect.specs.Behind.{IsBehind}

-- the writer, the list that its book has, what the copies tell together with what waits for them, how many may wait without
-- memory, and how many reader places are left
pub record SharedList (K D : Type 0) : Type 0 where
  pub home : Home D
  pub named : List (Entry K)
  pub told : Option (List (Entry K))
  pub room : ℕ
  pub readers : ℕ

module _ {K D : Type 0} where
  -- what the list that is shown tells, with what is pending and what waits
  abbrev pub told_of : Stage K D → List (Entry K)
  told_of s = told_in s.shelf.shown.mark.seen.log ++ added (s.shelf.pending ++ s.queue.items)

  abbrev pub told_by : Option (Stage K D) → Option (List (Entry K))
  told_by None = None
  told_by (Some s) = Some (told_of s)

  abbrev pub room_by : Option (Stage K D) → ℕ
  room_by None = 0
  room_by (Some s) = deque_capacity s.queue - deque_len s.queue

  -- what is shown, pending and waiting is this list of this writer
  abbrev pub Stands : Stage K D → Origin K D → Type 0
  Stands s o = IsBehind s.shelf.shown (s.shelf.pending ++ s.queue.items) o

module _ {K D : Type 0} where
  -- a publish made these events readable
  pub record HasShown (s s' : SharedList K D) (events : List (Event K)) : Type 0 where
    pub told : s'.told ≡ Some (entries_of events)
    pub named : s'.named ≡ with_publish s.named events
    pub list : IsPublished s'.named events
    pub room : length s'.named < 2 ^ 62

module _ {K D : Type 0} (type_of : D → ObjectType) where
  -- what a writer has for its readers goes with what it keeps, by so many events: it is for objects of their type, the book
  -- has a beginning of them, and the copies, with what waits, have them all
  pub record Tells (k : Keeping K) (count : ℕ) (s : SharedList K D) : Type 0 where
    pub counted : count ≡ length k.events
    pub room : count < 2 ^ 62
    pub kind : type_of s.home.dyntype ≡ k.kind
    pub begun : IsPrefix (told_in s.named) (entries_of k.events)
    pub told : IfSome s.told (λ es. es ≡ entries_of k.events)
