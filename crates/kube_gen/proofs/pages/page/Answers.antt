use Rattle.std.proofs.Common.{◌∙◌, ◌-◌, ◌*◌, ap, map, Some, None, arith}
use Rattle.std.specs.List.{range_with_len}
use Rattle.std.specs.Arc.{arc_value}
use Rattle.std.proofs.lemmas.Bool.{cond_below}
use Rattle.kube_model.specs.Raw.{GivesPage}
use Rattle.kube_gen.specs.Generated.{object_at, token_at, last_page, next_page}
use Rattle.kube_gen.proofs.pages.page.Goals as goal

pub returns-then-left-gt500 : goal.returns-then-left-gt500
returns-then-left-gt500 c =
    let whose = c.args.whose in
    let n = c.args.count in
    let k = c.args.number in
    ap (λ items. GivesPage (map arc_value items) (Some c.in_ok-token.field-0) None) c.from.ensures
    ∙ (ap (λ items. GivesPage items (Some c.in_ok-token.field-0) None) c.in_ok-objects.ensures
    ∙ (ap (λ t. GivesPage (map (object_at whose) (range_with_len (k * 500) 500)) (Some t) None) c.in_ok-token.ensures
    ∙ cond_below 500 (n - k * 500) (next_page whose k) (last_page whose n k) (omega arith)))
