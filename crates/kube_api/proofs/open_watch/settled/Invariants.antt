use Rattle.std.proofs.Common.{◌≡◌, ◌-◌, length}
use Rattle.kube_api.specs.TestScript.{poll_watch}
use Rattle.kube_api.specs.Places.{left_at}
use Rattle.kube_api.proofs.open_watch.settled.Given as goal

-- the poll is the same from here as from the start
abbrev pub invariant-loop-place : goal.invariant-loop-place
invariant-loop-place g l = poll_watch l.now.0 (left_at l.steps l.place) ≡ poll_watch l.now.0 (left_at l.steps l.fn.from)

abbrev pub decreases-loop-place : goal.decreases-loop-place
decreases-loop-place g l = length l.steps - l.place.step
