use Rattle.std.proofs.Common.{◌≡◌, ◌<◌, ◌^◌, Some, None, length, map, slice_get, ap, sym, subst, ◌∙◌}
use Rattle.kube_api.specs.Patches.{operation_of}
use Rattle.kube_lease.specs.Staging.{IsAnswered}
use Rattle.kube_lease.proofs.Staging.{delivered, no_arrival, short_there}
use Rattle.kube_lease.proofs.play.Stage.deliver.Goals as goal

pub returns-clause-made : goal.returns-clause-made
returns-clause-made c es p h m =
    let s = c.args.self.now in
    let there : slice_get s.outbox.sent.items c.args.send ≡ Some c.in-Some.patch.now = ap (λ vs. slice_get vs c.args.send) (sym c.as_slice.ensures.value) ∙ sym c.in-Some.ensures in
    let answered : IsAnswered s.server c.arrive.new.server s.now.0 (map operation_of c.in-Some.patch.now.items) c.in_ok-made-in-Some.made =
    subst (λ os. IsAnswered s.server c.arrive.new.server s.now.0 (map operation_of os) c.in_ok-made-in-Some.made) c.as_slice-in-Some.ensures.value c.in_ok-made-in-Some.ensures in
    delivered es s p c.args.send c.in-Some.patch.now c.arrive.new.server c.in_ok-made-in-Some.made h there answered

pub returns-in-None-clause-made : goal.returns-in-None-clause-made
returns-in-None-clause-made c es p h m =
    let s = c.args.self.now in
    let nothing : slice_get s.outbox.sent.items c.args.send ≡ None = ap (λ vs. slice_get vs c.args.send) (sym c.as_slice.ensures.value) ∙ sym c.in-None.ensures in
    absurd (no_arrival es s p c.args.send h nothing m)

pub arrive-requires : goal.arrive-requires
arrive-requires c =
    let there : slice_get c.args.self.now.outbox.sent.items c.args.send ≡ Some c.in-Some.patch.now = ap (λ vs. slice_get vs c.args.send) (sym c.as_slice.ensures.value) ∙ sym c.in-Some.ensures in
    subst (λ os. length os < 2 ^ 32) (sym c.as_slice-in-Some.ensures.value) (short_there c.args.self.now.outbox.sent.items c.args.send c.in-Some.patch.now c.requires there)
