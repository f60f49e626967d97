use Rattle.std.proofs.Common.{◌≡◌, ℕ, ◌<◌, length, get_or}
use Rattle.kube_reflect.proofs.places.in_order.Given as goal

-- so far each place stands at itself
abbrev pub invariant-loop-place : goal.invariant-loop-place
invariant-loop-place g l = (length l.places.items ≡ l.place) × ((k : ℕ) → k < l.place → get_or l.places.items k 0 ≡ k)
