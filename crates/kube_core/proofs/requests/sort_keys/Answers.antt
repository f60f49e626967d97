use Rattle.std.proofs.Common.{rules}
use Rattle.kube_meta.specs.Keys.{reference_of}
use Rattle.kube_meta.specs.Reference.{reference_before}
use Rattle.kube_core.proofs.Requesting.{references-order}
use Rattle.kube_core.proofs.StableSorts.{sorted_by-from_sort_by}
use Rattle.kube_core.proofs.requests.sort_keys.Goals as goal

pub returns : goal.returns
returns g c =
    let ref = reference_of g.K.Resource.type_of in
    let sort = c.in_ok-sort_by.ensures in
    sorted_by-from_sort_by ref reference_before (references-order ref) c.args.keys.items c.sort_by.new.self.items sort.sorted sort.stable (λ f a r h k. search rules)
