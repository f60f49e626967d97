-- What is offered to the subscribers of a writer. (Crate: `reflector::dispatcher`.)
use Rattle.std.specs.Prelude.{ℕ, is_some, Bool, true, false, nat_le, List, [], ◌∷◌, ◌++◌, map, length, slice_get, slice_set, Option, Some, None}
use Rattle.std.specs.List.{list_any, prefix_len}
use Rattle.std.specs.Option.{option_flatten}
use Rattle.kube_meta.specs.Reference.{Reference}
use Rattle.kube_meta.specs.declared.poll.Next.{Next}
use Rattle.kube_meta.specs.declared.poll.Next.TheVariants.{Item, NotReady, Spent, End}
use Rattle.kube_reflect.specs.Reads.{object_at}

-- how many offered references a subscriber may leave, those that each subscriber hasn't taken yet, in order and by the
-- subscriber's number (none where it has left), and whether no more follow
pub record Ring : Type 0 where
  pub room : ℕ
  pub waiting : List (Option (List Reference))
  pub is_closed : Bool

-- a ring without subscribers
abbrev pub new_ring : ℕ → Ring
new_ring room = record { room = room; waiting = []; is_closed = false }

-- whether a live subscriber has not taken so many
abbrev pub lags_by : ℕ → Option (List Reference) → Bool
lags_by room None = false
lags_by room (Some rs) = nat_le room (length rs)

abbrev pub is_full : Ring → Bool
is_full ring = list_any (lags_by ring.room) ring.waiting

-- with one more reference
abbrev pub also : Reference → Option (List Reference) → Option (List Reference)
also r None = None
also r (Some rs) = Some (rs ++ r ∷ [])

-- with a reference offered to each live subscriber
abbrev pub offered : Ring → Reference → Ring
offered ring r = record ring { waiting = map (also r) ring.waiting }

-- the number of the next subscriber: the first that is nobody's, as where one has left
abbrev pub free_number : {A : Type 0} → List (Option A) → ℕ
free_number xs = prefix_len is_some xs

-- with this at that number
abbrev pub placed : {A : Type 0} → List (Option A) → A → List (Option A)
placed [] new = Some new ∷ []
placed (None ∷ xs) new = Some new ∷ xs
placed (Some x ∷ xs) new = Some x ∷ placed xs new

-- with one more subscriber, for which these wait
abbrev pub subscribed : Ring → List Reference → Ring
subscribed ring rs = record ring { waiting = placed ring.waiting rs }

-- with this for one subscriber
abbrev pub with_waiting : Ring → ℕ → Option (List Reference) → Ring
with_waiting ring number left = record ring { waiting = slice_set ring.waiting number left }

abbrev pub closed : Ring → Ring
closed ring = record ring { is_closed = true }

-- what waits for a subscriber; none where it has left, or never was
abbrev pub waiting_for : Ring → ℕ → Option (List Reference)
waiting_for ring number = option_flatten (slice_get ring.waiting number)

module _ {O : Type 0} where
  -- the first of these references under which an object is stored: that object, and the references after it
  abbrev pub first_stored : List (Reference × O) → List Reference → Option (O × List Reference)
  first_stored store [] = None
  first_stored store (r ∷ rs) = elim (object_at store r) [ Some o ↦ Some (o, rs) | None ↦ first_stored store rs ]

  -- what a subscriber is given
  abbrev pub given : Bool → Option (O × List Reference) → Next O
  given over (Some p) = Item p.0
  given true None = End
  given false None = NotReady

  -- the references that it has not taken or passed over then
  abbrev pub left : Option (O × List Reference) → List Reference
  left None = []
  left (Some p) = p.1

-- an answer with its item read in another way
abbrev pub next_map : {A B : Type 0} → (A → B) → Next A → Next B
next_map f (Item a) = Item (f a)
next_map f NotReady = NotReady
next_map f Spent = Spent
next_map f End = End
