use Rattle.std.proofs.Common.{◌≡◌, ◌≤◌, ◌+◌, ◌++◌, Ok, map, length}
use Rattle.std.specs.VecDeque.{deque_capacity, deque_len}
use Rattle.kube_streams.proofs.settled.Settle.give.Given as goal

-- what was moved and what is left are the objects of the list, and there is room for these
abbrev pub invariant-loop-object : goal.invariant-loop-object
invariant-loop-object g l = (l.waiting.items ++ map Ok l.self-inside.listed.items ≡ map Ok l.initial.self-inside.listed.items) × (deque_len l.waiting + deque_len l.self-inside.listed ≤ deque_capacity l.waiting)

abbrev pub decreases-loop-object : goal.decreases-loop-object
decreases-loop-object g l = length l.self-inside.listed.items
