use Rattle.std.proofs.Common.{◌∙◌, codes}
use Rattle.serde_json.specs.Data.{member, number, unsigned}
use Rattle.kube_text.proofs.Fronts.{later_shown}
use Rattle.kube_model.proofs.Results.{on_err}
use Rattle.kube_text.proofs.refusal.show_unnamed.Goals as goal

pub returns-clause-members : goal.returns-clause-members
returns-clause-members c rest =
    let r2 = member (codes "turn") (number (unsigned c.args.turn.now)) rest in
    let r1 = member (codes "source") (number (unsigned c.args.source.now)) r2 in
    c.in_ok-text_member.ensures.members r1
    ∙ c.in_ok-member.ensures.members r2
    ∙ c.in_ok-member-2.ensures.members rest

pub returns-in_err-member-clause-front : goal.returns-in_err-member-clause-front
returns-in_err-member-clause-front c rest =
    on_err _ _
    (later_shown _ _ _ _ _ c.in_ok-text_member.ensures.members
    (c.in_err-member.ensures.front _))

pub returns-in_err-member-2-clause-front : goal.returns-in_err-member-2-clause-front
returns-in_err-member-2-clause-front c rest =
    on_err _ _
    (later_shown _ _ _ _ _ c.in_ok-text_member.ensures.members
    (later_shown _ _ _ _ _ c.in_ok-member.ensures.members
    (c.in_err-member-2.ensures.front _)))
