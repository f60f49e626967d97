-- A stream that pauses after an error. (Crate: `StreamBackoff`.)
use Rattle.std.specs.Prelude.{◌≡◌, ℕ, ◌+◌, Bool, true, false, nat_lt, Option, Some, None, Ok, Err}
use Rattle.kube_meta.specs.declared.poll.Next.TheVariants.{Item, NotReady, Spent, End}
use Rattle.kube_watch.specs.declared.stream.StreamFault.{StreamFault}
use Rattle.kube_watch.specs.Streams.{Answer}
use Rattle.kube_watch.specs.Asking.{Asked, fault_in}
use Rattle.kube_backoff.specs.Backoffs.{saturated}
use Rattle.kube_streams.specs.declared.stream_backoff.State.{State}
use Rattle.kube_streams.specs.declared.stream_backoff.State.TheVariants as states

-- a stream S, its backoff B, whether it is awake, paused until a moment, or given up, and the fault that is answered from then on
pub record Pausing (S B : Type 0) : Type 0 where
  pub stream : S
  pub backoff : B
  pub state : State
  pub fault : Option StreamFault

-- the pause after an error: until the moment and the delay; without a delay the stream is given up
abbrev pub pause_of : ℕ → Option ℕ → State
pause_of now None = states.GivenUp
pause_of now (Some delay) = states.BackingOff (record { 0 = saturated (now + delay) })

-- the backoff after an answer: an error asks it, an item and the end begin it anew
abbrev pub backoff_after : {B I : Type 0} → (B → ℕ → B) → (B → B) → ℕ → B → Answer I → B
backoff_after delayed restarted now b (Ok (Item (Ok i))) = restarted b
backoff_after delayed restarted now b (Ok (Item (Err e))) = delayed b now
backoff_after delayed restarted now b (Ok NotReady) = b
backoff_after delayed restarted now b (Ok Spent) = b
backoff_after delayed restarted now b (Ok End) = restarted b
backoff_after delayed restarted now b (Err fault) = b

-- only an error pauses
abbrev pub state_after : {B I : Type 0} → (B → ℕ → Option ℕ) → ℕ → B → Answer I → State
state_after delay now b (Ok (Item (Ok i))) = states.Awake
state_after delay now b (Ok (Item (Err e))) = pause_of now (delay b now)
state_after delay now b (Ok NotReady) = states.Awake
state_after delay now b (Ok Spent) = states.Awake
state_after delay now b (Ok End) = states.Awake
state_after delay now b (Err fault) = states.Awake

module _ {S B I : Type 0} (delay : B → ℕ → Option ℕ) (delayed : B → ℕ → B) (restarted : B → B) (polls : S → ℕ → ℕ → Answer I → S → Type 0) where
  -- the stream is asked, and its answer is given
  pub record Passed (now fuel : ℕ) (p : Pausing S B) (answer : Answer I) (q : Pausing S B) : Type 0 where
    pub asked : Asked polls now fuel p.stream answer q.stream
    pub backoff : q.backoff ≡ backoff_after delayed restarted now p.backoff answer
    pub state : q.state ≡ state_after delay now p.backoff answer
    pub fault : q.fault ≡ fault_in answer

  -- within a pause nothing is asked
  abbrev pub Held : Bool → ℕ → ℕ → Pausing S B → Answer I → Pausing S B → Type 0
  Held true now fuel p answer q = (answer ≡ Ok NotReady) × (q ≡ p)
  Held false now fuel p answer q = Passed now fuel p answer q

  -- a stream that is given up has ended
  abbrev pub Advanced : State → ℕ → ℕ → Pausing S B → Answer I → Pausing S B → Type 0
  Advanced states.Awake now fuel p answer q = Passed now fuel p answer q
  Advanced (states.BackingOff until) now fuel p answer q = Held (nat_lt now until.0) now fuel p answer q
  Advanced states.GivenUp now fuel p answer q = (answer ≡ Ok End) × (q ≡ p)

  -- a poll: after a fault it answers only that
  abbrev pub Paused : Option StreamFault → ℕ → ℕ → Pausing S B → Answer I → Pausing S B → Type 0
  Paused (Some fault) now fuel p answer q = (answer ≡ Err fault) × (q ≡ p)
  Paused None now fuel p answer q = Advanced p.state now fuel p answer q
