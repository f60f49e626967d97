-- All entries of a queue.
use Rattle.std.specs.Prelude.{ℕ, nat_lt, Bool, List, Option, Some, None, if◌then◌else◌, is_some}
use Rattle.std.specs.List.{filter_map}
use Rattle.kube_model.specs.Queue.{QueueEvent, Entry, entry, distinct, requested_message, sorted_by}

-- an entry, if it isn't frozen
abbrev pub unfrozen : {M : Type 0} → Option (Entry M) → Option (Entry M)
unfrozen None = None
unfrozen (Some e) = if is_some e.settle then None else Some e

-- the request that set one came before that of the other
abbrev pub is_set_before : {M : Type 0} → Entry M → Entry M → Bool
is_set_before a b = nat_lt a.request b.request

module _ {M : Type 0} (same : M → M → Bool) (debounce : ℕ) where
  -- the entries of the messages that were requested
  abbrev pub entries : List (QueueEvent M) → List (Entry M)
  entries events = filter_map (entry same debounce events) (distinct same (filter_map requested_message events))

  -- those that aren't frozen, in the order of the requests that set them
  abbrev pub scheduled : List (QueueEvent M) → List (Entry M)
  scheduled events =
      sorted_by is_set_before (filter_map (λ m. unfrozen (entry same debounce events m)) (distinct same (filter_map requested_message events)))
