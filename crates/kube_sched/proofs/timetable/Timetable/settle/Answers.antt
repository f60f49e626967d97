use Rattle.std.proofs.Common.{◌≡◌, ◌+◌, ◌∙◌, length, subst, arith, if◌then◌else◌}
use Rattle.std.specs.BinaryHeap.{heap_items}
use Rattle.kube_sched.specs.Timetables.{waiting_of, scheduled_of}
use Rattle.kube_sched.proofs.Numbers.{settled-waiting, settled-scheduled}
use Rattle.kube_sched.proofs.Kept.{kept-few}
use Rattle.kube_sched.proofs.timetable.Timetable.settle.Goals as goal

pub returns-clause-waiting : goal.returns-clause-waiting
returns-clause-waiting g c =
    settled-waiting c.args.now (waiting_of c.args.self.now) (waiting_of c.settle_next.new.self) (scheduled_of c.args.self.now) (scheduled_of c.settle_next.new.self)
    (c.settle_next.ensures.last c.loop-now-test.false) (c.settle_next.ensures.first ∙ c.loop-now.invariant.first)

pub returns-clause-scheduled : goal.returns-clause-scheduled
returns-clause-scheduled g c =
    settled-scheduled c.args.now (scheduled_of c.args.self.now) (scheduled_of c.settle_next.new.self) (c.settle_next.ensures.last c.loop-now-test.false) (c.settle_next.ensures.late ∙ c.loop-now.invariant.late)

pub returns-clause-cost : goal.returns-clause-cost
returns-clause-cost g c =
    let old = kept-few g.T.PartialEq.eq g.met.T.Eq.laws c.args.self.now c.requires.kept in
    let new = kept-few g.T.PartialEq.eq g.met.T.Eq.laws c.settle_next.new.self c.settle_next.ensures.kept in
    let held = c.settle_next.ensures.held in
    let held-before = c.loop-now.invariant.held in
    let step = c.settle_next.ensures.cost in
    let steps = c.loop-now.invariant.cost in
    let places : length (heap_items c.settle_next.new.self.heap) + 0 ≡ length (heap_items c.loop-now.self.heap) =
    subst (λ b. length (heap_items c.settle_next.new.self.heap) + (if b then 1 else 0) ≡ length (heap_items c.loop-now.self.heap)) c.loop-now-test.false c.settle_next.ensures.places in
    omega arith
