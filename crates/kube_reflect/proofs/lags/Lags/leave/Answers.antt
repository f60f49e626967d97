use Rattle.std.proofs.Common.{◌∙◌, ap, ap₂, arith, length}
use Rattle.std.specs.Prelude.{slice_get, is_some}
use Rattle.std.specs.List.{remove}
use Rattle.std.specs.Option.{option_flatten}
use Rattle.kube_reflect.proofs.Living.{leaves, has-place, rank_of}
use Rattle.kube_reflect.proofs.lags.Lags.leave.Goals as goal

pub remove-requires : goal.remove-requires
remove-requires c =
    let there = ap (λ ls. is_some (option_flatten (slice_get ls c.args.number))) c.self.view_is ∙ c.requires in
    let numbers = c.deref.ensures.value ∙ c.self.invariant in
    let rank = c.rank-place.ensures ∙ ap (rank_of c.args.number) numbers in
    let here = (leaves c.self.inside.places.items c.args.number there).0 in
    let size = ap length c.self.invariant in
    omega (arith, rank, here, size)

pub index_mut-requires : goal.index_mut-requires
index_mut-requires c =
    let there = ap (λ ls. is_some (option_flatten (slice_get ls c.args.number))) c.self.view_is ∙ c.requires in
    let here = has-place c.self.inside.places.items c.args.number there in
    omega (arith, here)

pub invariant_of-self : goal.invariant_of-self
invariant_of-self c =
    let there = ap (λ ls. is_some (option_flatten (slice_get ls c.args.number))) c.self.view_is ∙ c.requires in
    let numbers = c.deref.ensures.value ∙ c.self.invariant in
    let rank = c.rank-place.ensures ∙ ap (rank_of c.args.number) numbers in
    c.remove.ensures.items ∙ (ap₂ (λ ns i. remove ns i) c.self.invariant rank ∙ (leaves c.self.inside.places.items c.args.number there).1)
