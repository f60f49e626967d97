use Rattle.std.proofs.Common.{◌∙◌, ◌++◌, codes, option_copied, Some, ap, refl, sym}
use Rattle.kube_meta.specs.Writing.{with_fields, meta_data}
use Rattle.kube_text.specs.Fields.{left}
use Rattle.kube_text.specs.Shown.{member_tokens, member_if}
use Rattle.kube_text.specs.declared.object.Next.TheVariants as nexts
use Rattle.kube_text.proofs.Fields.{front}
use Rattle.kube_text.proofs.Fronts.{members_more}
use Rattle.kube_model.proofs.Results.{on_err}
use Rattle.kube_text.proofs.object.due_metadata.Goals as goal

pub returns-clause-members : goal.returns-clause-members
returns-clause-members c rest b =
    let o = c.args.object.now in
    let name = option_copied c.args.name in
    let after = with_fields (left nexts.Nothing o) rest in
    ap (λ ms. c.args.out.now.tokens ++ member_tokens ms)
    (front (codes "metadata") (Some (meta_data o.metadata)) (left nexts.Nothing o) name rest b (sym c.if-not-is_due.ensures) refl)
    ∙ ap (λ x. c.args.out.now.tokens ++ member_tokens (member_if (codes "metadata") (Some (meta_data x)) after)) (sym c.meta.ensures)
    ∙ c.in_ok-member.ensures.members after

pub returns-in_err-member-clause-front : goal.returns-in_err-member-clause-front
returns-in_err-member-clause-front c rest b =
    let o = c.args.object.now in
    let name = option_copied c.args.name in
    let after = with_fields (left nexts.Nothing o) rest in
    let shown = front (codes "metadata") (Some (meta_data o.metadata)) (left nexts.Nothing o) name rest b (sym c.if-not-is_due.ensures) refl
    ∙ ap (λ x. member_if (codes "metadata") (Some (meta_data x)) after) (sym c.meta.ensures) in
    rw shown (on_err _ _ (c.in_err-member.ensures.front after))

pub returns-clause-more : goal.returns-clause-more
returns-clause-more c =
    members_more _ _ _ c.in_ok-member.ensures.members
