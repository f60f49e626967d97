use Rattle.std.proofs.Common.{◌≡◌, map, subst}
use Rattle.std.specs.Prelude.{IfOk}
use Rattle.std.specs.List.{filter}
use Rattle.std.specs.Arc.{arc_value}
use Rattle.kube_reflect.specs.Reads.{objects, is_selected}
use Rattle.kube_reflect.proofs.Looking.{read_stored}
use Rattle.kube_reflect.proofs.reader.Store.state_filter_selector.Goals as goal

pub returns-clause-read : goal.returns-clause-read
returns-clause-read g c =
    let stored = read_stored g.K.Resource.type_of g.K.Resource.meta_of c.enter-reading.new.self c.leave.new.self _ _ _ c.enter-reading.ensures.made c.made.ensures c.cache.ensures c.leave.ensures in
    subst (λ s. IfOk c.state_filter_selector-objects.result (λ v. map arc_value v.items ≡ filter (λ o. is_selected c.args.selector.now (g.K.Resource.meta_of o)) (objects s))) stored c.state_filter_selector-objects.ensures
