-- Many polls of a stream that pauses after an error.
use Rattle.std.proofs.Common.{◌≡◌, ℕ, Bool, true, false, nat_lt, List, [], Option, Some, None, sym, ap, subst}
use Rattle.kube_watch.specs.declared.stream.StreamFault.{StreamFault}
use Rattle.kube_watch.specs.Streams.{Answer}
use Rattle.kube_streams.specs.Adapts.{told_in}
use Rattle.kube_streams.specs.InOrder.{PassedOn, PolledInTurn}
use Rattle.kube_streams.specs.Pauses.{Pausing, Passed, Held, Advanced, Paused}
use Rattle.kube_streams.specs.declared.stream_backoff.State.{State}
use Rattle.kube_streams.specs.declared.stream_backoff.State.TheVariants as states
use Rattle.kube_streams.proofs.PassedOn.{Heard, nothing-heard, asked-heard, heard-passed, heard-in-turn}

module _ {S B I : Type 0} (delay : B → ℕ → Option ℕ) (delayed : B → ℕ → B) (restarted : B → B) (polls : S → ℕ → ℕ → Answer I → S → Type 0) where
  -- nothing was asked
  unasked-heard : (p : Pausing S B) (answer : Answer I) (q : Pausing S B) → told_in answer ≡ [] → q ≡ p → Heard polls p.stream (told_in answer) q.stream
  unasked-heard p answer q none same =
      subst (λ told. Heard polls p.stream told q.stream) (sym none) (nothing-heard polls p.stream q.stream (ap (λ (x : Pausing S B). x.stream) same))

  passed-heard : (now fuel : ℕ) (p : Pausing S B) (answer : Answer I) (q : Pausing S B) → Passed delay delayed restarted polls now fuel p answer q → Heard polls p.stream (told_in answer) q.stream
  passed-heard now fuel p answer q e = asked-heard polls now fuel p.stream answer q.stream e.asked

  held-heard : (b : Bool) (now fuel : ℕ) (p : Pausing S B) (answer : Answer I) (q : Pausing S B) → Held delay delayed restarted polls b now fuel p answer q → Heard polls p.stream (told_in answer) q.stream
  held-heard true now fuel p answer q e = unasked-heard p answer q (ap (λ a. told_in a) e.0) e.1
  held-heard false now fuel p answer q e = passed-heard now fuel p answer q e

  advanced-heard : (state : State) (now fuel : ℕ) (p : Pausing S B) (answer : Answer I) (q : Pausing S B) → Advanced delay delayed restarted polls state now fuel p answer q → Heard polls p.stream (told_in answer) q.stream
  advanced-heard states.Awake now fuel p answer q e = passed-heard now fuel p answer q e
  advanced-heard (states.BackingOff until) now fuel p answer q e = held-heard (nat_lt now until.0) now fuel p answer q e
  advanced-heard states.GivenUp now fuel p answer q e = unasked-heard p answer q (ap (λ a. told_in a) e.0) e.1

  paused-heard : (fault : Option StreamFault) (now fuel : ℕ) (p : Pausing S B) (answer : Answer I) (q : Pausing S B) → Paused delay delayed restarted polls fault now fuel p answer q
      → Heard polls p.stream (told_in answer) q.stream
  paused-heard (Some fault) now fuel p answer q e = unasked-heard p answer q (ap (λ a. told_in a) e.0) e.1
  paused-heard None now fuel p answer q e = advanced-heard p.state now fuel p answer q e

  pub paused-in-order : (p : Pausing S B) (ps : List (ℕ × ℕ × Answer I)) (q : Pausing S B)
      → PolledInTurn (λ (p : Pausing S B) now fuel answer q. Paused delay delayed restarted polls p.fault now fuel p answer q) p ps q → PassedOn polls p.stream ps q.stream
  paused-in-order p ps q e =
      heard-passed polls p.stream q.stream ps
      (heard-in-turn polls (λ (x : Pausing S B). x.stream) (λ p now fuel answer q. Paused delay delayed restarted polls p.fault now fuel p answer q)
      (λ p now fuel answer q s. paused-heard p.fault now fuel p answer q s) p ps q e)
