use Rattle.std.proofs.Common.{◌∙◌, codes}
use Rattle.serde_json.specs.Data.{member, string}
use Rattle.kube_text.proofs.Fronts.{later_shown}
use Rattle.kube_model.proofs.Results.{on_err}
use Rattle.kube_text.proofs.metadata.show_owner.Goals as goal

pub returns-clause-members : goal.returns-clause-members
returns-clause-members c rest =
    let o = c.args.owner.now in
    let r3 = member (codes "uid") (string o.uid) rest in
    let r2 = member (codes "name") (string o.name) r3 in
    let r1 = member (codes "kind") (string o.kind) r2 in
    c.in_ok-member.ensures.members r1
    ∙ c.in_ok-member-2.ensures.members r2
    ∙ c.in_ok-member-3.ensures.members r3
    ∙ c.in_ok-member-4.ensures.members rest

pub returns-in_err-member-clause-front : goal.returns-in_err-member-clause-front
returns-in_err-member-clause-front c rest =
    on_err _ _ (c.in_err-member.ensures.front _)

pub returns-in_err-member-2-clause-front : goal.returns-in_err-member-2-clause-front
returns-in_err-member-2-clause-front c rest =
    on_err _ _
    (later_shown _ _ _ _ _ c.in_ok-member.ensures.members
    (c.in_err-member-2.ensures.front _))

pub returns-in_err-member-3-clause-front : goal.returns-in_err-member-3-clause-front
returns-in_err-member-3-clause-front c rest =
    on_err _ _
    (later_shown _ _ _ _ _ c.in_ok-member.ensures.members
    (later_shown _ _ _ _ _ c.in_ok-member-2.ensures.members
    (c.in_err-member-3.ensures.front _)))

pub returns-in_err-member-4-clause-front : goal.returns-in_err-member-4-clause-front
returns-in_err-member-4-clause-front c rest =
    on_err _ _
    (later_shown _ _ _ _ _ c.in_ok-member.ensures.members
    (later_shown _ _ _ _ _ c.in_ok-member-2.ensures.members
    (later_shown _ _ _ _ _ c.in_ok-member-3.ensures.members
    (c.in_err-member-4.ensures.front _))))
