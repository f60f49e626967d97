use Rattle.std.proofs.Common.{ap, ◌∙◌}
use Rattle.std.specs.Ordering.{is_lt, is_gt, nat_cmp, ordering_then}
use Rattle.std.specs.Cmp.Lexicographic.{slice_cmp}
use Rattle.kube_meta.specs.Keys.{reference_of}
use Rattle.kube_meta.proofs.ReferenceOrder.{before-by_name, after-by_name}
use Rattle.kube_meta.proofs.object_ref.ObjectRef.cmp_by_name.Goals as goal

pub returns-clause-before : goal.returns-clause-before
returns-clause-before g c =
    let names = c.cmp.ensures ∙ (λ i. slice_cmp nat_cmp (c.as_str.ensures i) (c.as_str-2.ensures i)) in
    let joined = c.then.ensures ∙ (λ i. ordering_then (c.compare_namespaces-by_namespace.ensures i) (names i)) in
    ap is_lt joined ∙ before-by_name (reference_of g.K.Resource.type_of c.args.self.now) (reference_of g.K.Resource.type_of c.args.other.now)

pub returns-clause-after : goal.returns-clause-after
returns-clause-after g c =
    let names = c.cmp.ensures ∙ (λ i. slice_cmp nat_cmp (c.as_str.ensures i) (c.as_str-2.ensures i)) in
    let joined = c.then.ensures ∙ (λ i. ordering_then (c.compare_namespaces-by_namespace.ensures i) (names i)) in
    ap is_gt joined ∙ after-by_name (reference_of g.K.Resource.type_of c.args.self.now) (reference_of g.K.Resource.type_of c.args.other.now)
