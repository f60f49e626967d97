-- Of one source's exchanges: its last complete list, what changed since, the store, and the list under way.
use Rattle.std.specs.Prelude.{Bool, true, false, not, ◌&&◌, List, [], ◌∷◌, map, Option, Some, None, if◌then◌else◌, is_some}
use Rattle.std.specs.List.{filter, flat_map, fold, find, list_any}
use Rattle.std.specs.Option.{option_or}
use Rattle.kube_meta.specs.Reference.{Reference, same_reference, without_namespace}
use Rattle.kube_model.specs.declared.call.Call.{Call}
use Rattle.kube_model.specs.declared.call.Call.TheVariants.{List as ListCall, Watch, Next, Stream}
use Rattle.kube_model.specs.declared.call.Answer.{Answer}
use Rattle.kube_model.specs.declared.call.Answer.TheVariants.{Page, Added, Modified, Deleted, Bookmark}
use Rattle.kube_model.specs.History.{Exchange}
use Rattle.kube_model.specs.Cuts.{last, up_to_last, after_last, from_last}
use Rattle.kube_model.specs.Owed.{Marked, marks, is_initial, is_opened}

-- a completion is a page with a version and no token, or the ending bookmark of an initial watch
abbrev pub completes : {O : Type 0} → Marked O → Bool
completes m =
    elim (m.exchange.answer) [
      | Page token version ↦ not (is_some token) && is_some version
      | Bookmark version ending ↦ m.initial && ending
      | _ ↦ false
    ]

-- whether there was a completion
abbrev pub is_ready : {O : Type 0} → List (Exchange O) → Bool
is_ready xs = list_any completes (marks xs)

abbrev pub is_page : Answer → Bool
is_page (Page token version) = true
is_page _ = false

abbrev pub is_list_start : Call → Bool
is_list_start (ListCall token) = not (is_some token)
is_list_start _ = false

-- the objects of a page
abbrev pub paged : {O : Type 0} → Exchange O → List O
paged x = elim (x.answer) [ Page token version ↦ x.items | _ ↦ [] ]

-- the objects that a watch adds or modifies
abbrev pub arrived : {O : Type 0} → Exchange O → List O
arrived x = elim (x.answer) [ Added version ↦ x.items | Modified version ↦ x.items | _ ↦ [] ]

-- those of all pages since the latest list call without token
abbrev pub paged_since_start : {O : Type 0} → List (Exchange O) → List O
paged_since_start xs = flat_map paged (from_last (λ x. is_list_start x.call) xs)

-- those added and modified since the latest `Opened`
abbrev pub arrived_since_opened : {O : Type 0} → List (Exchange O) → List O
arrived_since_opened xs = flat_map arrived (from_last (λ x. is_opened x.answer) xs)

-- the objects of the list that the last of these exchanges completes
abbrev pub listed_by : {O : Type 0} → Option (Exchange O) → List (Exchange O) → List O
listed_by None xs = []
listed_by (Some x) xs = if is_page x.answer then paged_since_start xs else arrived_since_opened xs

abbrev pub listed_to : {O : Type 0} → List (Exchange O) → List O
listed_to xs = listed_by (last xs) xs

-- the objects of the last complete list
abbrev pub listed : {O : Type 0} → List (Exchange O) → List O
listed xs = listed_to (map (λ m. m.exchange) (up_to_last completes (marks xs)))

-- an object that came, or one that went
pub data Change (O : Type 0) : Type 0 where
  Put : (object : O) → Change O
  Gone : (object : O) → Change O

-- what a versioned item of a later watch changes
abbrev pub changes_of : {O : Type 0} → Marked O → List (Change O)
changes_of m =
    elim (m.exchange.answer) [
      | Added version ↦ if not m.initial && is_some version then map Put m.exchange.items else []
      | Modified version ↦ if not m.initial && is_some version then map Put m.exchange.items else []
      | Deleted version ↦ if not m.initial && is_some version then map Gone m.exchange.items else []
      | _ ↦ []
    ]

-- what changed since the latest completion
abbrev pub since : {O : Type 0} → List (Exchange O) → List (Change O)
since xs = if is_ready xs then flat_map changes_of (after_last completes (marks xs)) else []

-- objects under their references
module _ {O : Type 0} (key : O → Reference) where
  -- a put of a present key keeps its place; a new key goes last
  abbrev pub put : List O → O → List O
  put [] o = o ∷ []
  put (p ∷ ps) o = if same_reference (key p) (key o) then o ∷ ps else p ∷ put ps o

  -- a drop closes up
  abbrev pub drop : List O → O → List O
  drop store o = filter (λ p. not (same_reference (key p) (key o))) store

  abbrev pub changed : List O → Change O → List O
  changed store (Put o) = put store o
  changed store (Gone o) = drop store o

  -- the last complete list, changed by what came since
  abbrev pub store_of : List (Exchange O) → List O
  store_of xs = fold changed (fold put [] (listed xs)) (since xs)

  abbrev pub stored_under : List O → Reference → Option O
  stored_under store r = find (λ o. same_reference (key o) r) store

  -- what is stored under a reference, else under it without its namespace (crate: `Store::get`)
  abbrev pub found : List O → Reference → Option O
  found store r = option_or (stored_under store r) (stored_under store (without_namespace r))

-- the objects of the list under way, at the call that is owed: of the pages so far where a token is owed, or of an open initial watch
abbrev pub under_way : {O : Type 0} → Call → List (Exchange O) → List O
under_way (ListCall token) xs = if is_some token then paged_since_start xs else []
under_way Next xs = if is_initial xs then arrived_since_opened xs else []
under_way (Watch version initial) xs = []
under_way Stream xs = []
