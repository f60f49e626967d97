use Rattle.std.proofs.Common.{◌∙◌, ap, ap₂, sym, arith, length}
use Rattle.std.specs.List.{insert}
use Rattle.kube_reflect.specs.Subscribers.{free_number, placed}
use Rattle.kube_reflect.specs.Lags.{numbers_from}
use Rattle.kube_reflect.proofs.Living.{free-within, numbers-placed}
use Rattle.kube_reflect.proofs.lags.Lags.add.Goals as goal

pub insert-requires : goal.insert-requires
insert-requires c =
    let number = c.free_number-number.ensures ∙ ap free_number c.deref.ensures.value in
    let within = free-within 0 c.self.inside.places.items in
    let size = ap length c.self.invariant in
    omega (arith, number, within, size)

pub invariant_of-self-2 : goal.invariant_of-self-2
invariant_of-self-2 c =
    let number = c.free_number-number.ensures ∙ ap free_number c.deref.ensures.value in
    let written = c.write.ensures ∙ ap (λ ls. placed ls c.args.lag) c.reserve.ensures.items in
    c.in_ok-insert.ensures.items
    ∙ (ap₂ (λ ns i. insert ns i i) c.self.invariant number ∙ (numbers-placed c.self.inside.places.items c.args.lag ∙ ap (numbers_from 0) (sym written)))
