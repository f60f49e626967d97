-- A timetable whose parts belong together, as its methods need it.
use Rattle.std.proofs.Common.{◌≡◌, ℕ, ◌+◌, ◌<◌, ◌≤◌, Bool, true, false, not, List, [], ◌∷◌, ◌++◌, length, length-append, get_or, Some, None, is_some, ◌||◌, sym, ap, subst, ◌∙◌, arith, Contains}
use Rattle.std.specs.Prelude.{nat_lt, filter, remove, slice_get, IsPermutation}
use Rattle.std.specs.List.{AllByRecursion}
use Rattle.std.specs.Cmp.{IsEquivalence}
use Rattle.std.specs.Map.{lookup}
use Rattle.std.specs.declared.cmp.Reverse.{Reverse}
use Rattle.std.specs.BinaryHeap.{heap_items, IsHeap}
use Rattle.std.specs.Ordering.{is_lt}
use Rattle.std.proofs.lemmas.Bool.{le-leb}
use Rattle.std.proofs.lemmas.Option.{slice_get_read}
use Rattle.std.proofs.lemmas.List.Elements.{Contains-append_left, Contains-push}
use Rattle.std.proofs.lemmas.List.Sorted.{IsPermutation-sym, Contains-permutation, length_permutation}
use Rattle.indexmap.specs.IndexMap.{set_value_at}
use Rattle.kube_meta.specs.declared.moment.Moment.{Moment}
use Rattle.kube_sched.specs.declared.held.Held.{Held}
use Rattle.kube_sched.specs.declared.table.Entry.{Entry}
use Rattle.kube_sched.specs.declared.timetable.Place.{Place}
use Rattle.kube_sched.specs.declared.timetable.Timetable.{Timetable}
use Rattle.kube_model.specs.Queue.{sorted_by}
use Rattle.kube_sched.specs.Held.{comes_before, is_due, is_later, requested_with, MessageAt}
use Rattle.kube_sched.specs.Tables.{Row, at, held_in, waiting_in, scheduled_in, place_order, place_of, RowAt, TakenAt, MarkedAt, IsIndexed, IsKept as AreKept}
use Rattle.kube_sched.specs.Timetables.{rows_of, waiting_of, scheduled_of, IsKept}
use Rattle.kube_sched.proofs.Rows.{some-is, at-place}
use Rattle.kube_sched.proofs.Timetables.{apart, waiting-length, few, all-at, waiting-at, left-scheduled, left-waiting, left-kept, set-stays, set-free, set-old, set-later, set-length, set-new, rest-kept, rest-waiting, stale-kept, part, scheduled-part, frozen-kept, frozen-waiting, frozen-scheduled, frozen-first, frozen-late}

module _ {M : Type 0} (same : M → M → Bool) (equiv : IsEquivalence same) (t : Timetable M) (k : IsKept same t) where
  pub kept-waiting_len : length t.waiting.items ≡ length (waiting_of t)
  kept-waiting_len = sym (waiting-length same equiv (rows_of t) t.table.numbers.keys (heap_items t.heap) t.waiting.items t.next k.parts)

  pub kept-len : length (rows_of t) ≡ length (waiting_of t) + length (scheduled_of t)
  kept-len = let a = k.parts.counted in let b = kept-waiting_len in omega arith

  pub kept-few : length (scheduled_of t) ≤ length (heap_items t.heap)
  kept-few = few same equiv (rows_of t) t.table.numbers.keys (heap_items t.heap) t.waiting.items t.next k.parts

  pub kept-within : (i : ℕ) → i < length (waiting_of t) → i < t.waiting.len
  kept-within i l = let a = kept-waiting_len in let b = t.waiting.ok.0 in omega arith

  pub kept-here : (i x : ℕ) → i < length (waiting_of t) → x ≡ get_or t.waiting.items i x → slice_get t.waiting.items i ≡ Some x
  kept-here i x l e = slice_get_read t.waiting.items t.waiting.len i x t.waiting.ok.0 (kept-within i l) e

  -- the entry of a number that waits
  pub kept-queued : (i n : ℕ) → slice_get t.waiting.items i ≡ Some n → is_some (at (rows_of t) n) ≡ true
  kept-queued i n h = let q = all-at (λ n. (r : Row M) × (at (rows_of t) n ≡ Some r) × (r.1.is_waiting ≡ true)) t.waiting.items i n k.parts.queued h in ap is_some q.1

  module _ (i n place : ℕ) (here : slice_get t.waiting.items i ≡ Some n) (row : RowAt (rows_of t) place n) where
    row-here : at (rows_of t) row.row.1.number ≡ Some row.row
    row-here = at-place (rows_of t) place row.row (apart same equiv (rows_of t) t.table.numbers.keys (heap_items t.heap) t.waiting.items t.next k.parts) row.there

    queued-here : slice_get t.waiting.items i ≡ Some row.row.1.number
    queued-here = here ∙ ap Some row.numbered

    row-waits : row.row.1.is_waiting ≡ true
    row-waits =
        let q = all-at (λ n. (r : Row M) × (at (rows_of t) n ≡ Some r) × (r.1.is_waiting ≡ true)) t.waiting.items i row.row.1.number k.parts.queued queued-here in
        ap (λ (y : Row M). y.1.is_waiting) (some-is (sym row-here ∙ q.1)) ∙ q.2

    pub kept-message : (m : M) (e : Entry) → slice_get (rows_of t) place ≡ Some (m, e) → MessageAt (waiting_of t) i m
    kept-message m e h = record {
      held = held_in row.row;
      is = sym (waiting-at same equiv (rows_of t) t.table.numbers.keys (heap_items t.heap) t.waiting.items t.next k.parts i row.row queued-here row-here row-waits (held_in row.row));
      of = ap (λ (y : Row M). y.0) (some-is (sym h ∙ row.there));
    }

    module _ (rest : List (Row M)) (m : M) (taken : TakenAt (rows_of t) rest place m) where
      same-row : taken.row ≡ row.row
      same-row = some-is (sym taken.there ∙ row.there)

      moved : IsPermutation (rows_of t) (row.row ∷ rest)
      moved = subst (λ (y : Row M). IsPermutation (rows_of t) (y ∷ rest)) same-row taken.moves

      pub kept-taken : MessageAt (waiting_of t) i m
      kept-taken = subst (MessageAt (waiting_of t) i) (sym taken.is) (kept-message taken.row.0 taken.row.1 taken.there)

      pub kept-rest : (numbers' : List ℕ) → IsIndexed same rest numbers' → AreKept same rest numbers' (heap_items t.heap) (remove t.waiting.items i) t.next
      kept-rest = left-kept same equiv (rows_of t) t.table.numbers.keys (heap_items t.heap) t.waiting.items t.next k.parts i row.row queued-here row-here row-waits rest moved

      pub kept-left : waiting_in rest (remove t.waiting.items i) ≡ remove (waiting_of t) i
      kept-left = left-waiting same equiv (rows_of t) t.table.numbers.keys (heap_items t.heap) t.waiting.items t.next k.parts i row.row queued-here row-here row-waits rest moved

      pub kept-others : scheduled_in rest t.next ≡ scheduled_of t
      kept-others = left-scheduled same equiv (rows_of t) t.table.numbers.keys (heap_items t.heap) t.waiting.items t.next k.parts i row.row queued-here row-here row-waits rest moved

  -- A message is set anew.

  module _ (h : Held M) (run_at : Moment) (i : ℕ) (r : Row M) (there : slice_get (rows_of t) i ≡ Some r) (e : same h.message r.0 ≡ true) where
    pub kept-stays : r.1.is_waiting || nat_lt r.1.time.0 run_at.0 ≡ true → scheduled_of t ≡ requested_with same run_at h (waiting_of t) (scheduled_of t)
    kept-stays = set-stays same equiv (rows_of t) t.table.numbers.keys (heap_items t.heap) t.waiting.items t.next k.parts run_at h i r there e

    module _ (s : r.1.is_waiting || nat_lt r.1.time.0 run_at.0 ≡ false) (rest : List (Row M)) (m : M) (taken : TakenAt (rows_of t) rest i m) where
      here-row : at (rows_of t) r.1.number ≡ Some r
      here-row = at-place (rows_of t) i r (apart same equiv (rows_of t) t.table.numbers.keys (heap_items t.heap) t.waiting.items t.next k.parts) there

      free-row : r.1.is_waiting ≡ false
      free-row = set-free same equiv (rows_of t) t.table.numbers.keys (heap_items t.heap) t.waiting.items t.next k.parts run_at h i r there e s

      moves-row : IsPermutation (rows_of t) (r ∷ rest)
      moves-row = subst (λ (y : Row M). IsPermutation (rows_of t) (y ∷ rest)) (some-is (sym taken.there ∙ there)) taken.moves

      pub mid-message : same m h.message ≡ true
      mid-message = ap (λ n. same n h.message) (taken.is ∙ ap (λ (y : Row M). y.0) (some-is (sym taken.there ∙ there))) ∙ equiv.symm r.0 h.message ∙ e

      pub mid-kept : (numbers' : List ℕ) → IsIndexed same rest numbers' → AreKept same rest numbers' (heap_items t.heap) t.waiting.items t.next
      mid-kept = rest-kept same equiv (rows_of t) t.table.numbers.keys (heap_items t.heap) t.waiting.items t.next k.parts r here-row free-row rest moves-row

      pub mid-waiting : waiting_in rest t.waiting.items ≡ waiting_of t
      mid-waiting = rest-waiting same equiv (rows_of t) t.table.numbers.keys (heap_items t.heap) t.waiting.items t.next k.parts r here-row free-row rest moves-row

      pub mid-scheduled : requested_with same run_at h (waiting_of t) (scheduled_of t) ≡ scheduled_in rest t.next ++ h ∷ []
      mid-scheduled = set-old same equiv (rows_of t) t.table.numbers.keys (heap_items t.heap) t.waiting.items t.next k.parts run_at h i r there e s rest moves-row

      pub mid-length : length (scheduled_in rest t.next) + 1 ≡ length (scheduled_of t)
      mid-length = set-length same equiv (rows_of t) t.table.numbers.keys (heap_items t.heap) t.waiting.items t.next k.parts run_at h i r there e s rest moves-row

      pub mid-rows : length rest + 1 ≡ length (rows_of t)
      mid-rows = let l = length_permutation (rows_of t) (r ∷ rest) moves-row in omega arith

      pub mid-later : is_later same h.message run_at (scheduled_of t) ≡ true
      mid-later = set-later same equiv (rows_of t) t.table.numbers.keys (heap_items t.heap) t.waiting.items t.next k.parts run_at h i r there e s

  pub kept-new : (h : Held M) (run_at : Moment) → lookup (same h.message) (rows_of t) ≡ None → requested_with same run_at h (waiting_of t) (scheduled_of t) ≡ scheduled_of t ++ h ∷ []
  kept-new h run_at none = set-new same equiv (rows_of t) t.table.numbers.keys (heap_items t.heap) t.waiting.items t.next k.parts run_at h none

  -- The first place of the heap was taken out.

  module _ (p : Reverse Place) (rest : List (Reverse Place)) (moves : IsPermutation (heap_items t.heap) (p ∷ rest)) where
    in-heap' : Contains (heap_items t.heap) p
    in-heap' = Contains-permutation (p ∷ rest) (heap_items t.heap) p (IsPermutation-sym (heap_items t.heap) (p ∷ rest) moves) (Contains-append_left (p ∷ []) rest p (Contains-push [] p))

    pub stale-here : at (rows_of t) p.0.number ≡ None → IsHeap place_order rest → AreKept same (rows_of t) t.table.numbers.keys rest t.waiting.items t.next
    stale-here gone ordered = stale-kept same equiv (rows_of t) t.table.numbers.keys (heap_items t.heap) t.waiting.items t.next k.parts p rest moves gone ordered

    module _ (i : ℕ) (found : RowAt (rows_of t) i p.0.number) where
      abbrev r : Row M
      r = found.row

      found-here : at (rows_of t) r.1.number ≡ Some r
      found-here = at-place (rows_of t) i r (apart same equiv (rows_of t) t.table.numbers.keys (heap_items t.heap) t.waiting.items t.next k.parts) found.there

      alive : (p ≡ place_of r.1) × (r.1.is_waiting ≡ false)
      alive = k.parts.live p r in-heap' (ap (at (rows_of t)) found.numbered ∙ found-here)

      -- it doesn't wait yet, so there is a place in the queue
      pub settled-room : length t.waiting.items < length (rows_of t)
      settled-room =
          let before = (part same equiv (rows_of t) t.table.numbers.keys (heap_items t.heap) t.waiting.items t.next k.parts r found-here alive.1).before in
          let behind = (part same equiv (rows_of t) t.table.numbers.keys (heap_items t.heap) t.waiting.items t.next k.parts r found-here alive.1).behind in
          let f = ap length (scheduled-part same equiv (rows_of t) t.table.numbers.keys (heap_items t.heap) t.waiting.items t.next k.parts r found-here alive.1) in
          let l = length-append before (held_in r ∷ behind) in
          let n = k.parts.counted in
          omega arith

      module _ (marked' : List (Row M)) (marked : MarkedAt (rows_of t) marked' i) (queue' : List ℕ) (q : queue' ≡ t.waiting.items ++ p.0.number ∷ []) where
        same-marked : marked.row ≡ r
        same-marked = some-is (sym marked.there ∙ found.there)

        number-marked : marked.entry.number ≡ r.1.number
        number-marked = marked.number ∙ ap (λ (y : Row M). y.1.number) same-marked

        time-marked : marked.entry.time ≡ r.1.time
        time-marked = marked.time ∙ ap (λ (y : Row M). y.1.time) same-marked

        moves-marked : IsPermutation (heap_items t.heap) (place_of r.1 ∷ rest)
        moves-marked = subst (λ (y : Reverse Place). IsPermutation (heap_items t.heap) (y ∷ rest)) alive.0 moves

        queue-is : queue' ≡ t.waiting.items ++ r.1.number ∷ []
        queue-is = q ∙ ap (λ n. t.waiting.items ++ n ∷ []) found.numbered

        pub settled-kept : (numbers' : List ℕ) → IsIndexed same marked' numbers' → IsHeap place_order rest → AreKept same marked' numbers' rest queue' t.next
        settled-kept numbers' indexed ordered =
            subst (λ xs. AreKept same xs numbers' rest queue' t.next) (sym marked.is)
            (subst (λ xs. AreKept same (set_value_at (rows_of t) i marked.entry) numbers' rest xs t.next) (sym queue-is)
            (frozen-kept same equiv (rows_of t) t.table.numbers.keys (heap_items t.heap) t.waiting.items t.next k.parts r found-here alive.1 i found.there marked.entry number-marked time-marked marked.held rest moves-marked numbers'
            (subst (λ xs. IsIndexed same xs numbers') marked.is indexed) ordered))

        waiting-settled : waiting_in marked' queue' ≡ waiting_of t ++ held_in r ∷ []
        waiting-settled =
            ap (λ xs. waiting_in xs queue') marked.is
            ∙ ap (waiting_in (set_value_at (rows_of t) i marked.entry)) queue-is
            ∙ frozen-waiting same equiv (rows_of t) t.table.numbers.keys (heap_items t.heap) t.waiting.items t.next k.parts r found-here alive.1 i found.there marked.entry number-marked time-marked marked.held rest moves-marked

        pub settled-length : length (scheduled_in marked' t.next) + 1 ≡ length (scheduled_of t)
        settled-length =
            let d = ap (λ xs. length (scheduled_in xs t.next)) marked.is in
            let e = ap length (frozen-scheduled same equiv (rows_of t) t.table.numbers.keys (heap_items t.heap) t.waiting.items t.next k.parts r found-here alive.1 i found.there marked.entry number-marked time-marked marked.held rest moves-marked) in
            let f = ap length (scheduled-part same equiv (rows_of t) t.table.numbers.keys (heap_items t.heap) t.waiting.items t.next k.parts r found-here alive.1) in
            let before = (part same equiv (rows_of t) t.table.numbers.keys (heap_items t.heap) t.waiting.items t.next k.parts r found-here alive.1).before in
            let behind = (part same equiv (rows_of t) t.table.numbers.keys (heap_items t.heap) t.waiting.items t.next k.parts r found-here alive.1).behind in
            let j = length-append before behind in
            let l = length-append before (held_in r ∷ behind) in
            omega arith

        pub settled-held : length (waiting_in marked' queue') + length (scheduled_in marked' t.next) ≡ length (waiting_of t) + length (scheduled_of t)
        settled-held =
            let a = ap length waiting-settled in
            let b = length-append (waiting_of t) (held_in r ∷ []) in
            let d = ap (λ xs. length (scheduled_in xs t.next)) marked.is in
            let e = ap length (frozen-scheduled same equiv (rows_of t) t.table.numbers.keys (heap_items t.heap) t.waiting.items t.next k.parts r found-here alive.1 i found.there marked.entry number-marked time-marked marked.held rest moves-marked) in
            let f = ap length (scheduled-part same equiv (rows_of t) t.table.numbers.keys (heap_items t.heap) t.waiting.items t.next k.parts r found-here alive.1) in
            let before = (part same equiv (rows_of t) t.table.numbers.keys (heap_items t.heap) t.waiting.items t.next k.parts r found-here alive.1).before in
            let behind = (part same equiv (rows_of t) t.table.numbers.keys (heap_items t.heap) t.waiting.items t.next k.parts r found-here alive.1).behind in
            let j = length-append before behind in
            let l = length-append before (held_in r ∷ behind) in
            omega arith

        module _ (least : AllByRecursion (λ x. is_lt (place_order p x) ≡ false) (heap_items t.heap)) (now : Moment) (due : p.0.time ≤ now.0) where
          due-row : is_due now (held_in r) ≡ true
          due-row = le-leb r.1.time.0 now.0 (subst (λ n. n ≤ now.0) (ap (λ (y : Reverse Place). y.0.time) alive.0) due)

          least-row : AllByRecursion (λ x. is_lt (place_order (place_of r.1) x) ≡ false) (heap_items t.heap)
          least-row = subst (λ (y : Reverse Place). AllByRecursion (λ x. is_lt (place_order y x) ≡ false) (heap_items t.heap)) alive.0 least

          pub settled-first : waiting_in marked' queue' ++ sorted_by comes_before (filter (is_due now) (scheduled_in marked' t.next)) ≡ waiting_of t ++ sorted_by comes_before (filter (is_due now) (scheduled_of t))
          settled-first =
              ap (λ xs. waiting_in xs queue' ++ sorted_by comes_before (filter (is_due now) (scheduled_in xs t.next))) marked.is
              ∙ ap (λ xs. waiting_in (set_value_at (rows_of t) i marked.entry) xs ++ sorted_by comes_before (filter (is_due now) (scheduled_in (set_value_at (rows_of t) i marked.entry) t.next))) queue-is
              ∙ frozen-first same equiv (rows_of t) t.table.numbers.keys (heap_items t.heap) t.waiting.items t.next k.parts r found-here alive.1 i found.there marked.entry number-marked time-marked marked.held rest moves-marked least-row now due-row

          pub settled-late : filter (λ x. not (is_due now x)) (scheduled_in marked' t.next) ≡ filter (λ x. not (is_due now x)) (scheduled_of t)
          settled-late =
              ap (λ xs. filter (λ x. not (is_due now x)) (scheduled_in xs t.next)) marked.is
              ∙ frozen-late same equiv (rows_of t) t.table.numbers.keys (heap_items t.heap) t.waiting.items t.next k.parts r found-here alive.1 i found.there marked.entry number-marked time-marked marked.held rest moves-marked least-row now due-row
