use Rattle.std.proofs.Common.{◌≡◌, ◌==◌, Some, None, find, ap, sym, ◌∙◌}
use Rattle.kube_lease.proofs.Staging.{no_reply, reply_stage}
use Rattle.kube_lease.proofs.play.Stage.reply.Goals as goal

pub returns-in-None-clause-stage : goal.returns-in-None-clause-stage
returns-in-None-clause-stage c es p h m =
    let s = c.args.self.now in
    let nothing : find (λ k. k.send == c.args.send) s.made.items ≡ None = ap (find (λ k. k.send == c.args.send)) (sym c.as_slice.ensures.value) ∙ sym c.in-None.ensures in
    absurd (no_reply es s p c.args.candidate c.args.send h nothing m)

pub returns-clause-stage : goal.returns-clause-stage
returns-clause-stage c es p h m =
    let s = c.args.self.now in
    let there : find (λ k. k.send == c.args.send) s.made.items ≡ Some c.in-Some.made.now = ap (find (λ k. k.send == c.args.send)) (sym c.as_slice.ensures.value) ∙ sym c.in-Some.ensures in
    reply_stage es s c.observe.new.self p c.args.candidate c.args.send c.in-Some.made.now c.in_ok-object-in-Some.object h there c.in_ok-object-in-Some.ensures.cases (c.in_ok-observe.ensures.stage es p)
