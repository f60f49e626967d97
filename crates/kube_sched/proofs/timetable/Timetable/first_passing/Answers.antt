use Rattle.std.proofs.Common.{◌<◌, ◌≤◌, false, true, length, subst, arith}
use Rattle.std.specs.Fn.{FnReturnsAt}
use Rattle.std.specs.List.{AllByRecursion}
use Rattle.std.proofs.lemmas.List.{take_all}
use Rattle.kube_sched.specs.Timetables.{waiting_of}
use Rattle.kube_sched.proofs.Kept.{kept-waiting_len}
use Rattle.kube_sched.proofs.Lists.{first-here, first-nowhere}
use Rattle.kube_sched.proofs.timetable.Timetable.first_passing.Goals as goal

pub message_at-requires-clause-place : goal.message_at-requires-clause-place
message_at-requires-clause-place g c =
    let a = kept-waiting_len g.T.PartialEq.eq g.met.T.Eq.laws c.args.self.now c.requires.kept in
    let b = c.args.self.now.waiting.ok.0 in
    let d = c.len-place-end.ensures in
    let e = c.loop-place-test.true in
    omega arith

pub returns-then-lets_pass-clause-first : goal.returns-then-lets_pass-clause-first
returns-then-lets_pass-clause-first g c =
    let passes = FnReturnsAt g.C.Fn c.args.passes.now in
    let a = kept-waiting_len g.T.PartialEq.eq g.met.T.Eq.laws c.args.self.now c.requires.kept in
    let b = c.args.self.now.waiting.ok.0 in
    let d = c.len-place-end.ensures in
    let e = c.loop-place-test.true in
    let within : c.loop-place.place < length (waiting_of c.args.self.now) = omega arith in
    let at = c.message_at.ensures in
    let fact = subst (passes c.message_at.result.now) c.if-lets_pass.true c.lets_pass.ensures in
    first-here passes (waiting_of c.args.self.now) c.loop-place.place at.held within c.loop-place.invariant
    (subst (λ h. passes h.message true) at.is (subst (λ m. passes m true) at.of fact))

pub returns-then-lets_pass-clause-within : goal.returns-then-lets_pass-clause-within
returns-then-lets_pass-clause-within g c =
    let a = kept-waiting_len g.T.PartialEq.eq g.met.T.Eq.laws c.args.self.now c.requires.kept in
    let b = c.args.self.now.waiting.ok.0 in
    let d = c.len-place-end.ensures in
    let e = c.loop-place-test.true in
    omega arith

pub returns-clause-first : goal.returns-clause-first
returns-clause-first g c =
    let passes = FnReturnsAt g.C.Fn c.args.passes.now in
    let a = kept-waiting_len g.T.PartialEq.eq g.met.T.Eq.laws c.args.self.now c.requires.kept in
    let b = c.args.self.now.waiting.ok.0 in
    let d = c.len-place-end.ensures in
    let e = c.loop-place-test.false in
    let all : length (waiting_of c.args.self.now) ≤ c.loop-place.place = omega arith in
    first-nowhere passes (waiting_of c.args.self.now)
    (subst (AllByRecursion (λ h. passes h.message false)) (take_all c.loop-place.place (waiting_of c.args.self.now) all) c.loop-place.invariant)
