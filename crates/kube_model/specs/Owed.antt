-- Of one source's exchanges: to which watch a `Next` belongs, the version that was seen, and the call that is owed. (Crate: `watcher::step_trampolined`, told without its states.)
use Rattle.std.specs.Prelude.{ℕ, Bool, true, false, not, ◌&&◌, ◌||◌, ◌==◌, List, [], ◌∷◌, ◌++◌, Option, Some, None, if◌then◌else◌, is_some, unwrap_or}
use Rattle.std.specs.List.{filter, filter_map, list_any}
use Rattle.kube_model.specs.declared.call.Call.{Call}
use Rattle.kube_model.specs.declared.call.Call.TheVariants.{List as ListCall, Watch, Next, Stream}
use Rattle.kube_model.specs.declared.call.Answer.{Answer}
use Rattle.kube_model.specs.declared.call.Answer.TheVariants.{Page, Opened, Added, Modified, Deleted, Bookmark, ErrorItem, Fault, End, NotReady, Idle}
use Rattle.kube_model.specs.World.{Settings, Feed, Watched, Streamed, Queued, start_by}
use Rattle.kube_model.specs.History.{Exchange}
use Rattle.kube_model.specs.Cuts.{last, after_last}

abbrev pub is_not_ready : Answer → Bool
is_not_ready NotReady = true
is_not_ready _ = false

abbrev pub is_end : Answer → Bool
is_end End = true
is_end _ = false

abbrev pub is_next : Call → Bool
is_next Next = true
is_next _ = false

abbrev pub is_initial_call : Call → Bool
is_initial_call (Watch version initial) = initial
is_initial_call _ = false

abbrev pub is_opened : Answer → Bool
is_opened Opened = true
is_opened _ = false

abbrev pub is_ending : Answer → Bool
is_ending (Bookmark version ending) = ending
is_ending _ = false

abbrev pub answers_initial : {O : Type 0} → Option (Exchange O) → Bool
answers_initial None = false
answers_initial (Some x) = is_initial_call x.call

-- a `Next` after these belongs to an initial watch where the latest `Opened` answered one, and no ending bookmark came since
abbrev pub is_initial : {O : Type 0} → List (Exchange O) → Bool
is_initial xs =
    answers_initial (last (filter (λ x. is_opened x.answer) xs))
    && not (list_any (λ x. is_ending x.answer) (after_last (λ x. is_opened x.answer) xs))

-- an exchange, with whether a `Next` there belongs to an initial watch
pub record Marked (O : Type 0) : Type 0 where
  pub initial : Bool
  pub exchange : Exchange O

abbrev pub mark : {O : Type 0} → List (Exchange O) → Exchange O → Marked O
mark before x = record { initial = is_initial before; exchange = x }

abbrev pub marks_after : {O : Type 0} → List (Exchange O) → List (Exchange O) → List (Marked O)
marks_after before [] = []
marks_after before (x ∷ xs) = mark before x ∷ marks_after (before ++ x ∷ []) xs

-- each exchange, marked by those before it
abbrev pub marks : {O : Type 0} → List (Exchange O) → List (Marked O)
marks xs = marks_after [] xs

-- the version that an exchange leaves as seen: that of a page with a version and no token, of the ending bookmark of an initial watch, of a bookmark of a later watch, or of a versioned item of a later watch
abbrev pub version_seen : {O : Type 0} → Marked O → Option (List ℕ)
version_seen m =
    elim (m.exchange.answer) [
      | Page token version ↦ if is_some token then None else version
      | Bookmark version ending ↦ if not m.initial || ending then Some version else None
      | Added version ↦ if m.initial then None else version
      | Modified version ↦ if m.initial then None else version
      | Deleted version ↦ if m.initial then None else version
      | _ ↦ None
    ]

-- the version of the latest exchange that leaves one
abbrev pub seen : {O : Type 0} → List (Exchange O) → List ℕ
seen xs = unwrap_or (last (filter_map version_seen (marks xs))) []

-- what a watcher owes after an exchange that was answered; initial says whether a `Next` there belongs to an initial watch. The list that a token goes on, or the watch from a page's version; a start where there is neither; after an unversioned item of a later watch and after an error of code 410 a start; where a later watch ended, or its call failed, the watch from the version that was seen, and a start where an initial one did or a list failed; else the next event
abbrev pub owed_after : {O : Type 0} → Settings → Bool → List ℕ → Exchange O → Call
owed_after settings initial seen x =
    elim (x.answer) [
      | Page token version ↦ if is_some token then ListCall token else elim version [ Some v ↦ Watch v false | None ↦ start_by settings ]
      | Added version ↦ if initial || is_some version then Next else start_by settings
      | Modified version ↦ if initial || is_some version then Next else start_by settings
      | Deleted version ↦ if initial || is_some version then Next else start_by settings
      | ErrorItem status ↦ if status.code == 410 then start_by settings else Next
      | End ↦ if initial then start_by settings else Watch seen false
      | Idle ↦ if initial then start_by settings else Watch seen false
      | Fault error ↦
          elim (x.call) [ Watch version first ↦ if first then start_by settings else Watch seen false | ListCall token ↦ start_by settings | _ ↦ Next ]
      | _ ↦ Next
    ]

abbrev pub answered : {O : Type 0} → List (Exchange O) → List (Exchange O)
answered xs = filter (λ x. not (is_not_ready x.answer)) xs

abbrev pub owed_by : {O : Type 0} → Settings → Bool → List ℕ → Option (Exchange O) → Call
owed_by settings initial seen None = start_by settings
owed_by settings initial seen (Some x) = owed_after settings initial seen x

-- the call that a source owes after its exchanges
abbrev pub owed : {O : Type 0} → Feed → List (Exchange O) → Call
owed (Watched settings) xs = owed_by settings (is_initial xs) (seen xs) (last (answered xs))
owed Streamed xs = Stream
owed Queued xs = Stream
