use Rattle.std.proofs.Common.{◌++◌, [], ap, sym, subst}
use Rattle.kube_final.specs.Lives.{decisions_after, sent_by, state_at, with_decision}
use Rattle.kube_final.specs.Playing.{AreSent}
use Rattle.kube_final.proofs.Sights.{on-ok, sent-decided}
use Rattle.kube_final.proofs.play.Stage.note.Goals as goal

pub returns-in-Decide-clause-sent : goal.returns-in-Decide-clause-sent
returns-in-Decide-clause-sent c =
    let name = c.args.self.now.name in
    on-ok c.decide.result _ _ (λ rest p k m.
    subst (λ step. AreSent name (decisions_after name p step) c.decide.new.self.sent.items (p.sent ++ sent_by step)) (sym c.in-Decide.is)
    (subst (λ vs. AreSent name (with_decision name (state_at p c.in-Decide.sight) p.decisions) vs (p.sent ++ [])) (sym (ap (λ s. s.sent.items) rest))
    (sent-decided name (state_at p c.in-Decide.sight) p.decisions c.args.self.now.sent.items p.sent k.sent)))
    c.decide.ensures.rest
