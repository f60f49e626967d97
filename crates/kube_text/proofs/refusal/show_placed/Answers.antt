use Rattle.std.proofs.Common.{◌∙◌, codes}
use Rattle.serde_json.specs.Data.{member, string}
use Rattle.kube_text.proofs.Fronts.{later_shown}
use Rattle.kube_model.proofs.Results.{on_err}
use Rattle.kube_text.proofs.refusal.show_placed.Goals as goal

pub returns-clause-members : goal.returns-clause-members
returns-clause-members c rest =
    let r1 = member (codes "place") (string c.args.place.now) rest in
    c.in_ok-show_script.ensures.members r1
    ∙ c.in_ok-member.ensures.members rest

pub returns-in_err-member-clause-front : goal.returns-in_err-member-clause-front
returns-in_err-member-clause-front c rest =
    on_err _ _
    (later_shown _ _ _ _ _ c.in_ok-show_script.ensures.members
    (c.in_err-member.ensures.front _))
