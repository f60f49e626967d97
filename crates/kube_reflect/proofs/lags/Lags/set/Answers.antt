use Rattle.std.proofs.Common.{◌∙◌, ap, sym}
use Rattle.std.specs.Prelude.{slice_get, is_some}
use Rattle.std.specs.Option.{option_flatten}
use Rattle.kube_reflect.proofs.Living.{numbers-set}
use Rattle.kube_reflect.proofs.lags.Lags.set.Goals as goal

pub invariant_of-self : goal.invariant_of-self
invariant_of-self c =
    let there = ap (λ ls. is_some (option_flatten (slice_get ls c.args.number))) c.self.view_is ∙ c.requires in
    c.self.invariant ∙ sym (numbers-set 0 c.self.inside.places.items c.args.number c.args.lag there)
