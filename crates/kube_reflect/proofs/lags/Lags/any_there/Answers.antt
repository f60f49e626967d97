use Rattle.std.proofs.Common.{◌≡◌, ◌==◌, ◌∙◌, ap, not, length, vec_len, arith}
use Rattle.std.specs.Prelude.{is_some}
use Rattle.std.specs.List.{list_any}
use Rattle.kube_reflect.proofs.Living.{some-number}
use Rattle.kube_reflect.proofs.lags.Lags.any_there.Goals as goal

pub returns : goal.returns
returns c =
    let size : vec_len c.self.inside.live ≡ length c.self.inside.live.items = omega arith in
    ap not c.is_empty.ensures
    ∙ (ap (λ n. not (n == 0)) (size ∙ ap length c.self.invariant)
    ∙ (some-number 0 c.self.inside.places.items ∙ ap (list_any is_some) c.self.view_is))
