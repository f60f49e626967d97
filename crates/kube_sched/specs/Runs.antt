-- What a poll of a runner does. (Crate: `Runner`.)
use Rattle.std.specs.Prelude.{◌≡◌, ℕ, ◌-◌, ◌==◌, ◌≤◌, nat_lt, Bool, true, false, not, ◌&&◌, ◌||◌, List, [], ◌∷◌, ◌++◌, length, Option, Some, None, is_some, Ok, Err, Result, ◌⊎◌}
use Rattle.std.specs.Map.{lookup}
use Rattle.std.specs.Fn.{CalledAt, Mut}
use Rattle.std.specs.Borrow.{Bor}
use Rattle.futures.specs.declared.task.Poll.{Poll}
use Rattle.kube_meta.specs.declared.moment.Moment.{Moment}
use Rattle.kube_meta.specs.declared.poll.Next.{Next}
use Rattle.kube_meta.specs.declared.poll.Next.TheVariants.{Item, NotReady, Spent, End}
use Rattle.kube_sched.specs.declared.asks.Ending.{Ending}
use Rattle.kube_sched.specs.declared.asks.Ending.TheVariants.{Filled, Waits, Ends}
use Rattle.kube_sched.specs.declared.runner.Error.{Error}
use Rattle.kube_sched.specs.declared.runner.Error.TheVariants.{Readiness}
use Rattle.kube_sched.specs.Polls.{Stream, Answer, requests_in, Polled, Lost}
use Rattle.kube_sched.specs.Futures.{TellsPending, TellsReady, AllPending, FirstReady}

-- a runner: its messages, what makes a future of one, the futures that run, in the order in which they were started,
-- the future whose readiness is waited for, if it hasn't come, how many may run (0: any number), whether readiness
-- failed, and whether memory was wanted. M are messages, R requests, F futures, C what makes them, G readiness
pub record Runs (M R F C G : Type 0) : Type 0 where
  pub scheduler : Stream M R
  pub makes : C
  pub running : List (M × F)
  pub readiness : Option G
  pub limit : ℕ
  pub is_stopped : Bool
  pub is_spent : Bool

-- whether one more may run
abbrev pub has_room : {M F : Type 0} → ℕ → List (M × F) → Bool
has_room limit running = (limit == 0) || nat_lt (length running) limit

-- not more run than may
abbrev pub IsWithin : {M F : Type 0} → ℕ → List (M × F) → Type 0
IsWithin limit running = (limit ≡ 0) ⊎ (length running ≤ limit)

-- whether an equal message runs
abbrev pub runs : {M F : Type 0} → (M → M → Bool) → M → List (M × F) → Bool
runs same m running = is_some (lookup (same m) running)

-- a message may be started where some may, and no equal one runs
abbrev pub MayStart : {M F : Type 0} → (M → M → Bool) → Bool → List (M × F) → M → Bool → Type 0
MayStart same may running m passes = passes ≡ (may && not (runs same m running))

-- how the asks ended, where a poll gave no message
abbrev pub ending_by : {M : Type 0} → Next M → Option Ending
ending_by (Item m) = None
ending_by NotReady = Some Waits
ending_by Spent = Some Filled
ending_by End = Some Ends

-- what a poll of the readiness does, which isn't polled once it has come, and the error where it failed
abbrev pub ReadinessPolled : {G E : Type 0} → (G → Option (List (Poll (Result Unit E)))) → (G → Result Unit E → Type 0) → Option G → Option G → Option E → Type 0
ReadinessPolled told gives None None None = Unit {0}
ReadinessPolled told gives (Some g) (Some g') None = TellsPending told gives g g'
ReadinessPolled told gives (Some g) None None = TellsReady told gives g (Ok tt)
ReadinessPolled told gives (Some g) None (Some e) = TellsReady told gives g (Err e)
ReadinessPolled told gives None (Some g') failed = ⊥
ReadinessPolled told gives None None (Some e) = ⊥
ReadinessPolled told gives (Some g) (Some g') (Some e) = ⊥

-- memory was wanting in the scheduler: in this poll, and it is spent from then on; or in an earlier one, and it is as before
abbrev pub SchedulerLost : {M R : Type 0} → (M → M → Bool) → (R → Option (List (Answer M))) → Moment → ℕ → Stream M R → Stream M R → Type 0
SchedulerLost same told now fuel s s' =
    ((s.is_spent ≡ false) × Lost same told now fuel s s' × (s'.is_spent ≡ true))
    ⊎ ((s.is_spent ≡ true) × (s' ≡ s))

module _ {M R F C : Type 0} (same : M → M → Bool) (told : R → Option (List (Answer M))) (made : C → M → F → C → Type 0) (now : Moment) (is_ready : Bool) (limit : ℕ) where
  -- the messages that a call starts, with their futures: each is the first of a poll of the scheduler, which takes
  -- requests until none is ready and lets wait what is due, that may be started. So on until none is left, no more may
  -- run, the requests have ended or so many requests as may be were taken by all these polls
  abbrev pub Starts : ℕ → Stream M R → C → List (M × F) → List (M × F) → Stream M R → C → Ending → Type 0
  Starts fuel s c running [] s' c' ending =
      (c' ≡ c) × (answer : Next M) × Polled same (MayStart same (is_ready && has_room limit running) running) told now fuel s s' answer × (ending_by answer ≡ Some ending)
  Starts fuel s c running (e ∷ es) s' c' ending =
      (is_ready && has_room limit running ≡ true)
      × (between : Stream M R) × (left : C)
      × (p : Polled same (MayStart same true running) told now fuel s between (Item e.0))
      × made c e.0 e.1 left
      × (((has_room limit (running ++ e ∷ []) ≡ true) × Starts (fuel - length (requests_in p.answers)) between left (running ++ e ∷ []) es s' c' ending)
      ⊎ ((has_room limit (running ++ e ∷ []) ≡ false) × (es ≡ []) × (s' ≡ between) × (c' ≡ left) × (ending ≡ Waits)))

  -- the messages that a call starts until memory is wanting, with their futures, each as above, and more may run after
  -- it. Then the scheduler had no memory; or it gave a message, whose future was made and had no place: both are gone
  abbrev pub StartsUntilLost : ℕ → Stream M R → C → List (M × F) → List (M × F) → Stream M R → C → Type 0
  StartsUntilLost fuel s c running [] s' c' =
      ((c' ≡ c) × SchedulerLost same told now fuel s s')
      ⊎ ((is_ready && has_room limit running ≡ true)
      × (gone : M × F) × Polled same (MayStart same true running) told now fuel s s' (Item gone.0) × made c gone.0 gone.1 c')
  StartsUntilLost fuel s c running (e ∷ es) s' c' =
      (is_ready && has_room limit running ≡ true)
      × (between : Stream M R) × (left : C)
      × (p : Polled same (MayStart same true running) told now fuel s between (Item e.0))
      × made c e.0 e.1 left
      × (has_room limit (running ++ e ∷ []) ≡ true)
      × StartsUntilLost (fuel - length (requests_in p.answers)) between left (running ++ e ∷ []) es s' c'

-- a message was started: its future is what was made of it, and runs behind the others
pub record Started {M R F C G : Type 0} (made_by : C → M → F → C → Type 0) (m : M) (r r' : Runs M R F C G) : Type 0 where
  pub future : F
  pub made : made_by r.makes m future r'.makes
  pub rest : r' ≡ record r { makes = r'.makes; running = r.running ++ (m, future) ∷ [] }

-- or there was no place for it: its future was made, both are gone, and what runs is as before
pub record StartLost {M R F C G : Type 0} (made_by : C → M → F → C → Type 0) (m : M) (r r' : Runs M R F C G) : Type 0 where
  pub future : F
  pub made : made_by r.makes m future r'.makes
  pub rest : r' ≡ record r { makes = r'.makes }

-- what is started in a call
pub record StartsAll {M R F C G : Type 0} (same : M → M → Bool) (told : R → Option (List (Answer M))) (made : C → M → F → C → Type 0) (now : Moment) (fuel : ℕ)
    (r r' : Runs M R F C G) (ending : Ending) : Type 0 where
  pub started : List (M × F)
  pub starts : Starts same told made now (not (is_some r.readiness)) r.limit fuel r.scheduler r.makes r.running started r'.scheduler r'.makes ending
  pub rest : r' ≡ record r { scheduler = r'.scheduler; makes = r'.makes; running = r.running ++ started }

-- what is started in a call until memory is wanting
pub record StartsAllUntilLost {M R F C G : Type 0} (same : M → M → Bool) (told : R → Option (List (Answer M))) (made : C → M → F → C → Type 0) (now : Moment) (fuel : ℕ)
    (r r' : Runs M R F C G) : Type 0 where
  pub started : List (M × F)
  pub starts : StartsUntilLost same told made now (not (is_some r.readiness)) r.limit fuel r.scheduler r.makes r.running started r'.scheduler r'.makes
  pub rest : r' ≡ record r { scheduler = r'.scheduler; makes = r'.makes; running = r.running ++ started }

-- each future that is made may be polled
abbrev pub MakesFutures : {M F C : Type 0} → Mut C (Bor M × Unit {0}) F → (F → Type 0) → Type 0
MakesFutures {M} {F} {C} makes can = (c c' : C) (m : M) (f : F) → CalledAt makes c m f c' → can f

-- the course of a poll: there is nothing more after a failed readiness; a future that runs gave a result; the
-- readiness failed; or these were started, and the asks ended so
pub data Course (M F X E : Type 0) : Type 0 where
  Over : Course M F X E
  Gave : (result : X) → Course M F X E
  Failed : (error : E) → Course M F X E
  Went : (started : List (M × F)) (ending : Ending) → Course M F X E

-- the answer that is no result, after asks that ended so, where these run
abbrev pub answer_after : {M F A : Type 0} → Ending → List (M × F) → Next A
answer_after Filled running = Spent
answer_after Waits running = NotReady
answer_after Ends [] = End
answer_after Ends (e ∷ es) = NotReady

-- its answer, where these run after it
abbrev pub answer_of : {M F X E : Type 0} → Course M F X E → List (M × F) → Next (Result X (Error E))
answer_of Over running = End
answer_of (Gave x) running = Item (Ok x)
answer_of (Failed e) running = Item (Err (Readiness e))
answer_of (Went started ending) running = answer_after ending running

module _ {M R F C G X E : Type 0} (same : M → M → Bool) (told : R → Option (List (Answer M))) (told_future : F → Option (List (Poll X))) (gives : F → X → Type 0)
    (told_ready : G → Option (List (Poll (Result Unit E)))) (gives_ready : G → Result Unit E → Type 0) (made : C → M → F → C → Type 0) (now : Moment) (fuel : ℕ) where
  -- what a poll of this course does: a result comes first, then a failed readiness, then what is started
  abbrev pub Follows : Course M F X E → Runs M R F C G → Runs M R F C G → Type 0
  Follows Over r r' = (r.is_stopped ≡ true) × (r' ≡ r)
  Follows (Gave x) r r' =
      (r.is_stopped ≡ false) × FirstReady told_future gives r.running r'.running x × (r' ≡ record r { running = r'.running })
  Follows (Failed e) r r' =
      (r.is_stopped ≡ false) × AllPending told_future gives r.running r'.running × ReadinessPolled told_ready gives_ready r.readiness r'.readiness (Some e)
      × (r' ≡ record r { running = r'.running; readiness = r'.readiness; is_stopped = true })
  Follows (Went started ending) r r' =
      (r.is_stopped ≡ false)
      × (polled : List (M × F)) × AllPending told_future gives r.running polled × ReadinessPolled told_ready gives_ready r.readiness r'.readiness None
      × Starts same told made now (not (is_some r'.readiness)) r.limit fuel r.scheduler r.makes polled started r'.scheduler r'.makes ending
      × (r' ≡ record r { scheduler = r'.scheduler; makes = r'.makes; running = polled ++ started; readiness = r'.readiness })

  -- what a poll does and answers
  pub record RunnerPolled (r r' : Runs M R F C G) (answer : Next (Result X (Error E))) : Type 0 where
    pub course : Course M F X E
    pub follows : Follows course r r'
    pub answers : answer ≡ answer_of course r'.running

  -- memory was wanting in a poll: readiness hadn't failed, no future that ran was ready, readiness didn't fail now, and
  -- these were started until then. They run behind those that ran, the limit is as before, and the runner is spent
  pub record PollLost (r r' : Runs M R F C G) : Type 0 where
    pub goes : r.is_stopped ≡ false
    pub polled : List (M × F)
    pub pending : AllPending told_future gives r.running polled
    pub readiness : ReadinessPolled told_ready gives_ready r.readiness r'.readiness None
    pub started : List (M × F)
    pub starts : StartsUntilLost same told made now (not (is_some r'.readiness)) r.limit fuel r.scheduler r.makes polled started r'.scheduler r'.makes
    pub rest : r' ≡ record r { scheduler = r'.scheduler; makes = r'.makes; running = polled ++ started; readiness = r'.readiness; is_spent = true }

-- a runner is at its end: its readiness failed before; or its requests have ended, and nothing ran before this poll or
-- runs after it
abbrev pub IsAtEnd : {M R F C G : Type 0} → Runs M R F C G → Runs M R F C G → Type 0
IsAtEnd r r' =
    (r.is_stopped ≡ true)
    ⊎ ((r'.is_stopped ≡ false) × (r'.scheduler.is_over ≡ true) × (r.running ≡ []) × (r'.running ≡ []))
