use Rattle.std.proofs.Common.{◌∙◌, ◌++◌, codes, option_map, option_copied, ap, refl, sym}
use Rattle.serde_json.specs.Data.{string as string_data}
use Rattle.kube_meta.specs.Writing.{with_fields}
use Rattle.kube_text.specs.Fields.{left}
use Rattle.kube_text.specs.Shown.{member_tokens, member_if}
use Rattle.kube_text.specs.declared.object.Next.TheVariants as nexts
use Rattle.kube_text.proofs.Fields.{front}
use Rattle.kube_text.proofs.Fronts.{later_shown, members_more, more_yet}
use Rattle.kube_model.proofs.Results.{on_err}
use Rattle.kube_text.proofs.object.due_api_version.Goals as goal

pub returns-clause-members : goal.returns-clause-members
returns-clause-members c rest b =
    let o = c.args.object.now in
    let name = option_copied c.args.name in
    let after = with_fields (left nexts.Kind o) rest in
    ap (λ ms. c.args.out.now.tokens ++ member_tokens ms)
    (front (codes "apiVersion") (option_map (λ t. string_data t.api_version) o.types) (left nexts.Kind o) name rest b (sym c.if-not-is_due.ensures) refl)
    ∙ ap (λ x. c.args.out.now.tokens ++ member_tokens (member_if (codes "apiVersion") (option_map (λ t. string_data t.api_version) x) after)) (sym c.types.ensures)
    ∙ c.in_ok-show_api_version.ensures.members after ∙ c.in_ok-next.ensures.members rest b

pub returns-in_err-show_api_version-clause-front : goal.returns-in_err-show_api_version-clause-front
returns-in_err-show_api_version-clause-front c rest b =
    let o = c.args.object.now in
    let name = option_copied c.args.name in
    let after = with_fields (left nexts.Kind o) rest in
    let shown = front (codes "apiVersion") (option_map (λ t. string_data t.api_version) o.types) (left nexts.Kind o) name rest b (sym c.if-not-is_due.ensures) refl
    ∙ ap (λ x. member_if (codes "apiVersion") (option_map (λ t. string_data t.api_version) x) after) (sym c.types.ensures) in
    rw shown (on_err _ _ (c.in_err-show_api_version.ensures.front after))

pub returns-in_err-next-clause-front : goal.returns-in_err-next-clause-front
returns-in_err-next-clause-front c rest b =
    let o = c.args.object.now in
    let name = option_copied c.args.name in
    let after = with_fields (left nexts.Kind o) rest in
    let shown = front (codes "apiVersion") (option_map (λ t. string_data t.api_version) o.types) (left nexts.Kind o) name rest b (sym c.if-not-is_due.ensures) refl
    ∙ ap (λ x. member_if (codes "apiVersion") (option_map (λ t. string_data t.api_version) x) after) (sym c.types.ensures) in
    rw shown (on_err _ _ (later_shown _ _ _ _ _ c.in_ok-show_api_version.ensures.members (c.in_err-next.ensures.front rest b)))

pub returns-clause-more : goal.returns-clause-more
returns-clause-more c =
    more_yet _ _ _ (members_more _ _ _ c.in_ok-show_api_version.ensures.members) c.in_ok-next.ensures.more
