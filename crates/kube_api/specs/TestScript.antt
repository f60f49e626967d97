-- What a scripted API has left to answer, and what each call is answered. V is the type of objects. (kube-runtime's `TestMode` of its watcher tests.)
use Rattle.std.specs.Prelude.{◌≡◌, ℕ, ◌+◌, ◌-◌, ◌^◌, ◌<◌, min, nat_le, if◌then◌else◌, List, [], ◌∷◌, ◌++◌, drop, Option, Some, None, unwrap_or, codes}
use Rattle.kube_model.specs.declared.params.ListParams.{ListParams}
use Rattle.kube_model.specs.declared.params.WatchParams.{WatchParams}
use Rattle.kube_model.specs.declared.error.ApiError.TheVariants.{ReadEvents}
use Rattle.kube_model.specs.Raw.{RawCall, ListAsked, WatchAsked, NextAsked, RawAnswer, Waits, Fails, GivesPage, Opens, Ends, Raw, is_fault}

-- a step of a watch: an answer that it gives, or a silence of so many nanoseconds
pub data Step (V : Type 0) : Type 0 where
  Gives : (answer : RawAnswer V) → Step V
  Pauses : (nanos : ℕ) → Step V

-- an open watch: its steps that are left, and since when the silence at their head runs
pub record OpenedWatch (V : Type 0) : Type 0 where
  pub steps : List (Step V)
  pub since : Option ℕ

-- a scripted API: what is left to answer, the open watch, the calls so far with their answers, and how many failed
pub record Script (V : Type 0) : Type 0 where
  pub lists : List (RawAnswer V)
  pub watches : List (List (Step V))
  pub current : Option (OpenedWatch V)
  pub talk : List (Raw V)
  pub failures : ℕ

-- a fault is counted, up to the greatest u64
abbrev pub failures_after : {V : Type 0} → RawAnswer V → ℕ → ℕ
failures_after answer n = if is_fault answer then min (n + 1) (2 ^ 64 - 1) else n

-- a call with its answer joins the talk
abbrev pub told : {V : Type 0} → RawCall → RawAnswer V → Script V → Script V
told call answer s =
    record s { talk = s.talk ++ record { call = call; answer = answer } ∷ []; failures = failures_after answer s.failures }

-- a list call is answered the next entry, and an empty page where none is left
abbrev pub first_page : {V : Type 0} → List (RawAnswer V) → RawAnswer V
first_page [] = GivesPage [] None None
first_page (answer ∷ rest) = answer

abbrev pub listed : {V : Type 0} → Script V → RawAnswer V
listed s = first_page s.lists

abbrev pub after_list : {V : Type 0} → ListParams → Script V → Script V
after_list params s = told (ListAsked params) (listed s) (record s { lists = drop 1 s.lists })

-- a watch call opens the next sequence. It fails where none is left, and the open watch stays
abbrev pub first_watch : {V : Type 0} → List (List (Step V)) → RawAnswer V
first_watch [] = Fails (ReadEvents (codes "TestMode watch sequence exhausted"))
first_watch (steps ∷ rest) = Opens

abbrev pub watched : {V : Type 0} → Script V → RawAnswer V
watched s = first_watch s.watches

abbrev pub just_opened : {V : Type 0} → List (Step V) → OpenedWatch V
just_opened steps = record { steps = steps; since = None }

abbrev pub watch_after : {V : Type 0} → List (List (Step V)) → Option (OpenedWatch V) → Option (OpenedWatch V)
watch_after [] current = current
watch_after (steps ∷ rest) current = Some (just_opened steps)

abbrev pub after_watch : {V : Type 0} → WatchParams → List ℕ → Script V → Script V
after_watch params version s =
    told (WatchAsked params version) (watched s) (record s { watches = drop 1 s.watches; current = watch_after s.watches s.current })

-- an answer with what is left of the watch
pub record Poll (V : Type 0) : Type 0 where
  pub answer : RawAnswer V
  pub left : OpenedWatch V

-- a watch asked at a moment. A silence begins when it is met, and is over at the first moment that is at least its length later
abbrev pub poll_steps : {V : Type 0} → ℕ → Option ℕ → List (Step V) → Poll V
poll_steps now since [] = record { answer = Ends; left = just_opened [] }
poll_steps now since (Gives answer ∷ rest) = record { answer = answer; left = just_opened rest }
poll_steps now since (Pauses nanos ∷ rest) =
    let start = unwrap_or since now in
    if nat_le nanos (now - start)
    then poll_steps now None rest
    else record { answer = Waits; left = record { steps = Pauses nanos ∷ rest; since = Some start } }

abbrev pub poll_watch : {V : Type 0} → ℕ → OpenedWatch V → Poll V
poll_watch now w = poll_steps now w.since w.steps

-- without a watch the answer is the end
abbrev pub poll_current : {V : Type 0} → ℕ → Option (OpenedWatch V) → RawAnswer V
poll_current now None = Ends
poll_current now (Some w) = (poll_watch now w).answer

abbrev pub left_current : {V : Type 0} → ℕ → Option (OpenedWatch V) → Option (OpenedWatch V)
left_current now None = None
left_current now (Some w) = Some (poll_watch now w).left

-- the open watch is in a silence that is not over at a moment
abbrev pub IsInSilence : {V : Type 0} → ℕ → Option ℕ → List (Step V) → Type 0
IsInSilence now (Some start) (Pauses nanos ∷ rest) = now - start < nanos
IsInSilence _ _ _ = ⊥

abbrev pub IsSilent : {V : Type 0} → ℕ → Option (OpenedWatch V) → Type 0
IsSilent now None = ⊥
IsSilent now (Some w) = IsInSilence now w.since w.steps

abbrev pub polled : {V : Type 0} → ℕ → Script V → RawAnswer V
polled now s = poll_current now s.current

abbrev pub after_next : {V : Type 0} → ℕ → Script V → Script V
after_next now s = told NextAsked (polled now s) (record s { current = left_current now s.current })

-- what a call is answered at a moment
abbrev pub answered : {V : Type 0} → RawCall → ℕ → Script V → RawAnswer V
answered (ListAsked params) now s = listed s
answered (WatchAsked params version) now s = watched s
answered NextAsked now s = polled now s

-- what it leaves
abbrev pub left_by : {V : Type 0} → RawCall → ℕ → Script V → Script V
left_by (ListAsked params) now s = after_list params s
left_by (WatchAsked params version) now s = after_watch params version s
left_by NextAsked now s = after_next now s

-- a call at a moment is answered as the script has it, and leaves what the script then has left
pub record IsMove {V : Type 0} (old : Script V) (now : ℕ) (raw : Raw V) (new : Script V) : Type 0 where
  pub answer : raw.answer ≡ answered raw.call now old
  pub left : new ≡ left_by raw.call now old
