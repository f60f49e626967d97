use Rattle.std.proofs.Common.{◌∙◌, ◌++◌, ap, refl}
use Rattle.serde_json.specs.Data.{member}
use Rattle.serde_json.specs.View.{view}
use Rattle.kube_meta.specs.Writing.{with_fields}
use Rattle.kube_text.specs.Fields.{left}
use Rattle.kube_text.specs.Shown.{member_tokens}
use Rattle.kube_text.proofs.Fields.{past}
use Rattle.kube_text.proofs.Shown.{member_shown}
use Rattle.kube_text.proofs.Fronts.{due_shown, none_shown, value_front}
use Rattle.kube_model.proofs.Results.{on_err}
use Rattle.kube_text.proofs.object.show_member.Goals as goal

pub returns-clause-members : goal.returns-clause-members
returns-clause-members c rest =
    let o = c.args.object.now in
    let name = c.args.name.now in
    let d = view c.args.value.now in
    let fs = left c.in_ok-next.next o in
    c.in_ok-next.ensures.members (member name d rest) refl
    ∙ ap (λ ms. c.show_due.new.out.tokens ++ member_tokens ms) (past name d fs rest c.in_ok-next.ensures.past)
    ∙ member_shown c.show_due.new.out.tokens c.key.new.self.tokens c.show_value.new.out.tokens name d (with_fields fs rest) c.in_ok-key.ensures.ok c.in_ok-show_value.ensures.tokens

pub returns-in_err-key-clause-front : goal.returns-in_err-key-clause-front
returns-in_err-key-clause-front c rest =
    on_err _ _
    (due_shown _ _ _ _ _ c.in_ok-next.ensures.more (c.in_ok-next.ensures.members (member c.args.name.now (view c.args.value.now) rest) refl) (none_shown _ _ _ c.in_err-key.ensures.err))

pub returns-in_err-show_value-clause-front : goal.returns-in_err-show_value-clause-front
returns-in_err-show_value-clause-front c rest =
    let o = c.args.object.now in
    let name = c.args.name.now in
    let d = view c.args.value.now in
    let fs = left c.in_ok-next.next o in
    on_err _ _
    (due_shown _ _ _ _ _ c.in_ok-next.ensures.more
    (c.in_ok-next.ensures.members (member name d rest) refl ∙ ap (λ ms. c.show_due.new.out.tokens ++ member_tokens ms) (past name d fs rest c.in_ok-next.ensures.past))
    (value_front _ _ _ name d (with_fields fs rest) c.in_ok-key.ensures.ok c.in_err-show_value.ensures.front))
