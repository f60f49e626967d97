-- What a poll of a scheduler over a stream of requests does. (Crate: `Scheduler`, `HoldUnless` and `Hold`, as streams.)
use Rattle.std.specs.Prelude.{◌≡◌, ◌↔◌, ℕ, ◌+◌, ◌≤◌, length, map, zero, suc, Bool, true, false, List, [], ◌∷◌, ◌++◌, Option, Some, None}
use Rattle.std.specs.List.{cons_option}
use Rattle.kube_meta.specs.declared.moment.Moment.{Moment}
use Rattle.kube_meta.specs.declared.poll.Next.{Next}
use Rattle.kube_meta.specs.declared.poll.Next.TheVariants.{Item, NotReady, Spent, End}
use Rattle.kube_model.specs.Queue.{QueueEvent}
use Rattle.kube_model.specs.Raw.{grown_by}
use Rattle.kube_sched.specs.declared.request.ScheduleRequest.{ScheduleRequest}
use Rattle.kube_sched.specs.declared.asks.Ending.{Ending}
use Rattle.kube_sched.specs.declared.asks.Ending.TheVariants.{Filled, Waits, Ends}
use Rattle.kube_sched.specs.Schedule.{Schedule, Stands, with_request, with_settle, with_take, IsFirst, waiting_messages}

-- a schedule with its requests, whether they have ended, and whether memory was wanted
pub record Stream (M R : Type 0) : Type 0 where
  pub schedule : Schedule M
  pub requests : R
  pub is_over : Bool
  pub is_spent : Bool

-- what a stream of requests answers
abbrev pub Answer : Type 0 → Type 0
Answer M = Next (ScheduleRequest M)

-- the requests among answers
abbrev pub requests_in : {M : Type 0} → List (Answer M) → List (ScheduleRequest M)
requests_in [] = []
requests_in (Item q ∷ xs) = q ∷ requests_in xs
requests_in (NotReady ∷ xs) = requests_in xs
requests_in (Spent ∷ xs) = requests_in xs
requests_in (End ∷ xs) = requests_in xs

abbrev pub ends_by : {M : Type 0} → Answer M → Option Ending
ends_by (Item q) = None
ends_by NotReady = Some Waits
ends_by Spent = Some Waits
ends_by End = Some Ends

-- how the asks of one call ended that may take so many requests: requests, and then one other answer if fewer came.
-- None where these are no answers of one call
abbrev pub ending_of : {M : Type 0} → ℕ → List (Answer M) → Option Ending
ending_of zero [] = Some Filled
ending_of zero (x ∷ xs) = None
ending_of (suc n) [] = None
ending_of (suc n) (Item q ∷ xs) = ending_of n xs
ending_of (suc n) (NotReady ∷ []) = Some Waits
ending_of (suc n) (Spent ∷ []) = Some Waits
ending_of (suc n) (End ∷ []) = Some Ends
ending_of (suc n) (x ∷ y ∷ xs) = None

-- these events and requests, all at one moment
abbrev pub with_requests : {M : Type 0} → List (QueueEvent M) → List (ScheduleRequest M) → Moment → List (QueueEvent M)
with_requests events [] now = events
with_requests events (q ∷ qs) now = with_requests (with_request events q now) qs now

-- what the asks of one call did
pub record Asked {M R : Type 0} (same : M → M → Bool) (told : R → Option (List (Answer M))) (now : Moment) (fuel : ℕ)
    (s : Schedule M) (r : R) (s' : Schedule M) (r' : R) (ending : Ending) (left : ℕ) : Type 0 where
  pub answers : List (Answer M)
  pub tells : told r' ≡ grown_by (told r) answers
  pub ended : ending_of fuel answers ≡ Some ending
  pub counted : left + length (requests_in answers) ≡ fuel
  pub stands : (events : List (QueueEvent M)) → Stands same s events → Stands same s' (with_requests events (requests_in answers) now)

-- memory was wanting: requests alone came, no more than may be taken, and what is held is what all of them left, or all but the last
pub record AskedInVain {M R : Type 0} (same : M → M → Bool) (told : R → Option (List (Answer M))) (now : Moment) (fuel : ℕ)
    (s : Schedule M) (r : R) (s' : Schedule M) (r' : R) : Type 0 where
  pub came : List (ScheduleRequest M)
  pub held : List (ScheduleRequest M)
  pub dropped : Option (ScheduleRequest M)
  pub all : came ≡ held ++ cons_option dropped []
  pub tells : told r' ≡ grown_by (told r) (map Item came)
  pub few : length came ≤ fuel
  pub stands : (events : List (QueueEvent M)) → Stands same s events → Stands same s' (with_requests events held now)

-- so of a schedule with its requests, which had not ended; ended requests are not asked
abbrev pub Lost : {M R : Type 0} → (M → M → Bool) → (R → Option (List (Answer M))) → Moment → ℕ → Stream M R → Stream M R → Type 0
Lost same told now fuel s s' = (s.is_over ≡ false) × (s'.is_over ≡ false) × AskedInVain same told now fuel s.schedule s.requests s'.schedule s'.requests

-- no requests are asked for once they have ended
abbrev pub ending_at : {M : Type 0} → Bool → ℕ → List (Answer M) → Option Ending
ending_at false fuel xs = ending_of fuel xs
ending_at true fuel [] = Some Ends
ending_at true fuel (x ∷ xs) = None

abbrev pub is_end : Ending → Bool
is_end Filled = false
is_end Waits = false
is_end Ends = true

-- the events after the asks of a call: a settle where none was ready, and nothing at the end, which drops what is held
abbrev pub prepared : {M : Type 0} → Ending → List (QueueEvent M) → List (ScheduleRequest M) → Moment → List (QueueEvent M)
prepared Filled events qs now = with_requests events qs now
prepared Waits events qs now = with_settle (with_requests events qs now) now
prepared Ends events qs now = []

-- what a call did before it takes a message
pub record Prepared {M R : Type 0} (same : M → M → Bool) (told : R → Option (List (Answer M))) (now : Moment) (fuel : ℕ) (s s' : Stream M R) (ending : Ending) (left : ℕ) : Type 0 where
  pub answers : List (Answer M)
  pub tells : told s'.requests ≡ grown_by (told s.requests) answers
  pub ended : ending_at s.is_over fuel answers ≡ Some ending
  pub counted : left + length (requests_in answers) ≡ fuel
  pub over : s'.is_over ≡ is_end ending
  pub fresh : s'.is_spent ≡ false
  pub kept : s'.schedule.debounce ≡ s.schedule.debounce
  pub stands : (events : List (QueueEvent M)) → Stands same s.schedule events → Stands same s'.schedule (prepared ending events (requests_in answers) now)

-- the events after a call with this answer
abbrev pub answered : {M : Type 0} → Next M → List (QueueEvent M) → List (QueueEvent M)
answered (Item m) events = with_take events m
answered NotReady events = events
answered Spent events = events
answered End events = events

-- the answer with what was taken, where no more requests were ready
abbrev pub given : {M : Type 0} → Option M → Next M
given None = NotReady
given (Some m) = Item m

-- what a call did and answered: End exactly where the requests ended, Spent exactly where as many requests were taken
-- as may be, NotReady where the requests told so and no waiting message passes, and else the first that passes
pub record Polled {M R : Type 0} (same : M → M → Bool) (passes : M → Bool → Type 0) (told : R → Option (List (Answer M))) (now : Moment) (fuel : ℕ)
    (s s' : Stream M R) (answer : Next M) : Type 0 where
  pub answers : List (Answer M)
  pub ending : Ending
  pub tells : told s'.requests ≡ grown_by (told s.requests) answers
  pub ended : ending_at s.is_over fuel answers ≡ Some ending
  pub end : (answer ≡ End) ↔ (ending ≡ Ends)
  pub spent : (answer ≡ Spent) ↔ (ending ≡ Filled)
  pub not_ready : answer ≡ NotReady → (ending ≡ Waits)
      × ((events : List (QueueEvent M)) → Stands same s.schedule events → IsFirst passes (waiting_messages same s.schedule.debounce (prepared ending events (requests_in answers) now)) None)
  pub item : (m : M) → answer ≡ Item m → (ending ≡ Waits)
      × ((events : List (QueueEvent M)) → Stands same s.schedule events → IsFirst passes (waiting_messages same s.schedule.debounce (prepared ending events (requests_in answers) now)) (Some m))
  pub over : s'.is_over ≡ is_end ending
  pub fresh : s'.is_spent ≡ false
  pub kept : s'.schedule.debounce ≡ s.schedule.debounce
  pub stands : (events : List (QueueEvent M)) → Stands same s.schedule events → Stands same s'.schedule (answered answer (prepared ending events (requests_in answers) now))

-- the same, and how many more requests might have been taken
pub record CountedPoll {M R : Type 0} (same : M → M → Bool) (passes : M → Bool → Type 0) (told : R → Option (List (Answer M))) (now : Moment) (fuel : ℕ)
    (s s' : Stream M R) (answer : Next M) (left : ℕ) : Type 0 where
  pub polled : Polled same passes told now fuel s s' answer
  pub counted : left + length (requests_in polled.answers) ≡ fuel

-- a stream that holds nothing
pub record IsOpened {M R : Type 0} (same : M → M → Bool) (s : Stream M R) (asks : R) (delay : ℕ) : Type 0 where
  pub schedule : Stands same s.schedule []
  pub debounce : s.schedule.debounce ≡ delay
  pub requests : s.requests ≡ asks
  pub runs : s.is_over ≡ false
  pub fresh : s.is_spent ≡ false
