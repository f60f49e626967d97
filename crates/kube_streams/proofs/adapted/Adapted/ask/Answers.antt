use Rattle.std.proofs.Common.{◌≡◌, sym, ap, ◌∙◌, subst, suc, ◌+◌, arith}
use Rattle.kube_watch.specs.Asking.{Said}
use Rattle.kube_streams.specs.Adapts.{AreQuiet, IsQuiet}
use Rattle.kube_streams.proofs.Quiet.{quiet_more}
use Rattle.kube_streams.proofs.adapted.Adapted.ask.Goals as goal

pub loop-asked-preserved : goal.loop-asked-preserved
loop-asked-preserved g c =
    let l = c.loop-asked in
    let polls = Said g.S.EventStream.polls g.S.EventStream.told in
    let more = quiet_more polls g.T.Adapt.takes g.T.Adapt.unnamed c.args.now.0 l._asked c.args.self.now.stream c.args.self.now.adapt l.self.stream l.self.adapt c.poll_next-answer.result c.poll_next-answer.new.self c.pass.new.self.adapt
    l.invariant.quiet
    (subst (λ a. polls a.stream c.args.now.0 1 c.poll_next-answer.result c.poll_next-answer.new.self) c.self.view_is (c.poll_next-answer.ensures.polls, c.poll_next-answer.ensures.told))
    (subst (λ a. IsQuiet polls g.T.Adapt.takes g.T.Adapt.unnamed c.args.now.0 a.adapt c.poll_next-answer.result c.pass.new.self.adapt) c.self.view_is c.in_default.ensures.passed.0) in
    let next : suc l._asked ≡ l._asked + 1 = omega arith in
    record {
      can = subst (λ s. g.S.EventStream.can_poll s) (sym c.pass.ensures.stream) c.poll_next-answer.ensures.may;
      may = c.pass.ensures.may;
      none = c.in_default.ensures.passed.1;
      fault = c.pass.ensures.fault ∙ ap (λ a. a.fault) c.self.view_is ∙ l.invariant.fault;
      quiet = subst (λ n. AreQuiet polls g.T.Adapt.takes g.T.Adapt.unnamed n c.args.now.0 c.args.self.now.stream c.args.self.now.adapt c.pass.new.self.stream c.pass.new.self.adapt) next
          (subst (λ s. AreQuiet polls g.T.Adapt.takes g.T.Adapt.unnamed (suc l._asked) c.args.now.0 c.args.self.now.stream c.args.self.now.adapt s c.pass.new.self.adapt) (sym c.pass.ensures.stream) more);
    }
