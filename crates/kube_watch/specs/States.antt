-- How far a watcher has come, between code and definitions: the call that is owed in a state, and the state that an answer leaves.
use Rattle.std.specs.Prelude.{ℕ, Bool, true, false, ◌==◌, List, Option, Some, None, unwrap_or, if◌then◌else◌}
use Rattle.kube_model.specs.declared.call.Call.{Call}
use Rattle.kube_model.specs.declared.call.Call.TheVariants.{List as ListCall, Watch, Next}
use Rattle.kube_model.specs.declared.call.Answer.{Answer}
use Rattle.kube_model.specs.declared.call.Answer.TheVariants.{Page, Opened, Added, Modified, Deleted, Bookmark, ErrorItem, Fault, End, NotReady, Idle, Item, Spent}
use Rattle.kube_model.specs.World.{Settings, start_by}
use Rattle.kube_model.specs.Owed.{is_next}
use Rattle.kube_watch.specs.declared.state.State.{State}
use Rattle.kube_watch.specs.declared.state.State.TheVariants.{Empty, InitPage, InitialWatch, InitListed, Watching}

abbrev pub call_in : Settings → State → Call
call_in settings Empty = start_by settings
call_in settings (InitPage token) = ListCall (Some token)
call_in settings InitialWatch = Next
call_in settings (InitListed version) = Watch version false
call_in settings (Watching version) = Next

-- whether a `next` there belongs to an initial watch
abbrev pub is_initial_in : State → Bool
is_initial_in InitialWatch = true
is_initial_in _ = false

abbrev pub after_page : Option (List ℕ) → Option (List ℕ) → State
after_page (Some token) version = InitPage token
after_page None (Some version) = InitListed version
after_page None None = Empty

abbrev pub after_opened : State → State
after_opened Empty = InitialWatch
after_opened (InitListed version) = Watching version
after_opened state = state

abbrev pub after_item : State → Option (List ℕ) → State
after_item (Watching kept) (Some version) = Watching version
after_item (Watching kept) None = Empty
after_item state version = state

abbrev pub after_bookmark : State → List ℕ → Bool → State
after_bookmark InitialWatch version true = Watching version
after_bookmark (Watching kept) version ending = Watching version
after_bookmark state version ending = state

abbrev pub after_fault : State → State
after_fault (InitPage token) = Empty
after_fault state = state

abbrev pub after_end : State → State
after_end InitialWatch = Empty
after_end (Watching version) = InitListed version
after_end state = state

abbrev pub state_after : State → Answer → State
state_after state (Page token version) = after_page token version
state_after state Opened = after_opened state
state_after state (Added version) = after_item state version
state_after state (Modified version) = after_item state version
state_after state (Deleted version) = after_item state version
state_after state (Bookmark version ending) = after_bookmark state version ending
state_after state (ErrorItem status) = if status.code == 410 then Empty else state
state_after state (Fault error) = after_fault state
state_after state End = after_end state
state_after state NotReady = state
state_after state Idle = after_end state
state_after state Item = state
state_after state Spent = state

-- since when a watch is silent: since the first `next` that was not ready after the last other answer
abbrev pub since_after : Option ℕ → ℕ → Call → Answer → Option ℕ
since_after since now call NotReady = if is_next call then Some (unwrap_or since now) else since
since_after since now call _ = None
