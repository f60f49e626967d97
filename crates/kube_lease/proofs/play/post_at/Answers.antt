use Rattle.std.proofs.Common.{◌≡◌, ◌<◌, ◌++◌, Some, length, slice_get, append-nil, sym, ap, ◌∙◌, arith}
use Rattle.kube_lease.specs.Staging.{patches_for, patches_in}
use Rattle.kube_lease.proofs.Standings.{past_end, posts, set_same, there}
use Rattle.kube_lease.proofs.play.post_at.Goals as goal

pub returns-then-len-place-clause-posted : goal.returns-then-len-place-clause-posted
returns-then-len-place-clause-posted c =
    let ss = c.args.candidates.now.items in
    sym (append-nil (patches_in c.args.outbox.now)) ∙ ap (λ o. patches_in c.args.outbox.now ++ patches_for c.args.now.0 o) (sym (past_end c.args.number ss (omega (arith, c.if-len-place.true, c.len.ensures))))

pub returns-clause-same : goal.returns-clause-same
returns-clause-same c =
    let old = c.index_mut-candidate.result.now in
    let came = posts c.args.now.0 c.args.outbox.now c.poll.new.api old c.poll.new.self _ c.in_ok-poll.ensures.polled in
    set_same c.args.number c.args.candidates.now.items old c.poll.new.self c.index_mut-candidate.ensures.value came.1

pub returns-clause-posted : goal.returns-clause-posted
returns-clause-posted c =
    let ss = c.args.candidates.now.items in
    let old = c.index_mut-candidate.result.now in
    let here : c.args.number < length ss = omega (arith, c.if-len-place.false, c.len.ensures) in
    let came = posts c.args.now.0 c.args.outbox.now c.poll.new.api old c.poll.new.self _ c.in_ok-poll.ensures.polled in
    let found : slice_get ss c.args.number ≡ Some old = there c.args.number ss old here c.index_mut-candidate.ensures.value in
    came.0 ∙ ap (λ o. patches_in c.args.outbox.now ++ patches_for c.args.now.0 o) (sym found)
