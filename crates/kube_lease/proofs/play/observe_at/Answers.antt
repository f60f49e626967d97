use Rattle.std.proofs.Common.{◌<◌, length, sym, ap, ◌∙◌, arith}
use Rattle.kube_lease.specs.Reading.{lease_at}
use Rattle.kube_lease.proofs.LeaseDocuments.{lease_back}
use Rattle.kube_lease.proofs.Standings.{none_observes, observed_lease, place_observes}
use Rattle.kube_lease.proofs.play.observe_at.Goals as goal

pub returns-then-len-place : goal.returns-then-len-place
returns-then-len-place c l seen = sym (none_observes c.args.number l c.args.candidates.now.items (omega (arith, c.if-len-place.true, c.len.ensures)))

pub returns-in-Ok : goal.returns-in-Ok
returns-in-Ok c l seen =
    let ss = c.args.candidates.now.items in
    let old = c.index_mut-candidate.result.now in
    let here : c.args.number < length ss = omega (arith, c.if-len-place.false, c.len.ensures) in
    let lease = ap (λ o. lease_at o.content) seen.is ∙ lease_back l in
    place_observes c.args.number l ss old c.observe.new.self here c.index_mut-candidate.ensures.value (observed_lease _ l old c.observe.new.self lease c.in-Ok.ensures.observed)
