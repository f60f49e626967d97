use Rattle.std.proofs.Common.{◌≡◌, ◌++◌, ◌∷◌, ◌+◌, [], arith, refl, rules}
use Rattle.std.specs.Arc.{arc_value}
use Rattle.kube_gen.specs.Generated.{object_at}
use Rattle.kube_gen.proofs.Steps.{mapped-more}
use Rattle.kube_gen.proofs.pages.objects.Goals as goal

pub loop-place-preserved : goal.loop-place-preserved
loop-place-preserved c =
    let xs = c.loop-place.objects.items in
    let x = c.in_ok-listed.field-0 in
    let place = c.loop-place.place in
    let pushed : c.push.new.self.items ≡ xs ++ x ∷ [] = search rules in
    mapped-more (object_at c.args.whose) arc_value xs c.push.new.self.items x c.args.start place (place + 1) (c.args.start + place) pushed c.loop-place.invariant (omega arith) refl c.in_ok-listed.ensures
