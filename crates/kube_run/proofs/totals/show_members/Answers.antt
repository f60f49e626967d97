use Rattle.std.proofs.Common.{codes, ◌∙◌}
use Rattle.serde_json.specs.Data.{Members}
use Rattle.kube_run.specs.Summary.{count_member}
use Rattle.kube_text.proofs.Fronts.{later_shown}
use Rattle.kube_model.proofs.Results.{on_err}
use Rattle.kube_run.proofs.totals.show_members.Goals as goal

pub returns-clause-members : goal.returns-clause-members
returns-clause-members c rest =
    let t = c.args.totals.now in
    let started : Members = count_member (codes "started") t.started rest in
    let requests : Members = count_member (codes "requests") t.requests started in
    let objects : Members = count_member (codes "objects") t.objects requests in
    let missing : Members = count_member (codes "missing") t.missing objects in
    let finished : Members = count_member (codes "finished") t.finished missing in
    c.in_ok-member.ensures.members finished
    ∙ (c.in_ok-member-2.ensures.members missing
    ∙ (c.in_ok-member-3.ensures.members objects
    ∙ (c.in_ok-member-4.ensures.members requests
    ∙ (c.in_ok-member-5.ensures.members started
    ∙ c.in_ok-member-6.ensures.members rest))))

pub returns-in_err-member-clause-front : goal.returns-in_err-member-clause-front
returns-in_err-member-clause-front c rest =
    on_err _ _ (c.in_err-member.ensures.front _)

pub returns-in_err-member-2-clause-front : goal.returns-in_err-member-2-clause-front
returns-in_err-member-2-clause-front c rest =
    on_err _ _
    (later_shown _ _ _ _ _ c.in_ok-member.ensures.members
    (c.in_err-member-2.ensures.front _))

pub returns-in_err-member-3-clause-front : goal.returns-in_err-member-3-clause-front
returns-in_err-member-3-clause-front c rest =
    on_err _ _
    (later_shown _ _ _ _ _ c.in_ok-member.ensures.members
    (later_shown _ _ _ _ _ c.in_ok-member-2.ensures.members
    (c.in_err-member-3.ensures.front _)))

pub returns-in_err-member-4-clause-front : goal.returns-in_err-member-4-clause-front
returns-in_err-member-4-clause-front c rest =
    on_err _ _
    (later_shown _ _ _ _ _ c.in_ok-member.ensures.members
    (later_shown _ _ _ _ _ c.in_ok-member-2.ensures.members
    (later_shown _ _ _ _ _ c.in_ok-member-3.ensures.members
    (c.in_err-member-4.ensures.front _))))

pub returns-in_err-member-5-clause-front : goal.returns-in_err-member-5-clause-front
returns-in_err-member-5-clause-front c rest =
    on_err _ _
    (later_shown _ _ _ _ _ c.in_ok-member.ensures.members
    (later_shown _ _ _ _ _ c.in_ok-member-2.ensures.members
    (later_shown _ _ _ _ _ c.in_ok-member-3.ensures.members
    (later_shown _ _ _ _ _ c.in_ok-member-4.ensures.members
    (c.in_err-member-5.ensures.front _)))))

pub returns-in_err-member-6-clause-front : goal.returns-in_err-member-6-clause-front
returns-in_err-member-6-clause-front c rest =
    on_err _ _
    (later_shown _ _ _ _ _ c.in_ok-member.ensures.members
    (later_shown _ _ _ _ _ c.in_ok-member-2.ensures.members
    (later_shown _ _ _ _ _ c.in_ok-member-3.ensures.members
    (later_shown _ _ _ _ _ c.in_ok-member-4.ensures.members
    (later_shown _ _ _ _ _ c.in_ok-member-5.ensures.members
    (c.in_err-member-6.ensures.front _))))))
