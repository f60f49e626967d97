use Rattle.std.proofs.Common.{[], map, sym, ap, ◌∙◌}
use Rattle.std.proofs.lemmas.Result.{IfOk-weaker}
use Rattle.kube_model.specs.Takes.{running}
use Rattle.kube_model.specs.Traces.{refused_finish}
use Rattle.kube_turn.specs.Records.{finish_of, turn_of}
use Rattle.kube_step.proofs.Refusing.{good-moment}
use Rattle.kube_step.proofs.refusal.refused.Goals as goal

pub returns-clause-why : goal.returns-clause-why
returns-clause-why g c =
    let f = finish_of g.K.Resource.type_of in
    let t = turn_of g.K.Resource.type_of c.args.turn.now in
    IfOk-weaker c.refused_finish.result _ _
    (λ o found core qs rs h s same last.
    found core qs rs s
    ∙ (ap (λ us. refused_finish us [] 0 (map f c.as_slice.result.now)) same
    ∙ (ap (λ fs. refused_finish (running h) [] 0 (map f fs)) c.as_slice.ensures
    ∙ sym (good-moment h t c.args.last.0 (sym c.is_bad.ensures.bad ∙ c.if-is_bad.false) last))))
    c.refused_finish.ensures
