use Rattle.std.proofs.Common.{◌∙◌, codes}
use Rattle.serde_json.specs.Data.{member, string}
use Rattle.kube_text.proofs.Fronts.{later_shown}
use Rattle.kube_model.proofs.Results.{on_err}
use Rattle.kube_text.proofs.refusal.show_script.Goals as goal

pub returns-clause-members : goal.returns-clause-members
returns-clause-members c rest =
    let r1 = member (codes "fault") (string c.args.fault.now) rest in
    c.in_ok-text_member.ensures.members r1
    ∙ c.in_ok-text_member-2.ensures.members rest

pub returns-in_err-text_member-2-clause-front : goal.returns-in_err-text_member-2-clause-front
returns-in_err-text_member-2-clause-front c rest =
    on_err _ _
    (later_shown _ _ _ _ _ c.in_ok-text_member.ensures.members
    (c.in_err-text_member-2.ensures.front _))
