use Rattle.std.proofs.Common.{arith, ap, ◌∙◌, map, subst, ◌<◌, length, Some, None}
use Rattle.std.specs.Arc.{arc_value}
use Rattle.std.specs.Fn.{FnReturnsAt}
use Rattle.kube_reflect.specs.Reads.{objects, IsFirst}
use Rattle.kube_reflect.specs.Views.{stored_of}
use Rattle.kube_reflect.proofs.Reading.{objects-seen, first_here, first_later, first_none}
use Rattle.kube_reflect.proofs.cache.Cache.find.Goals as goal

pub returns-then-lets_pass : goal.returns-then-lets_pass
returns-then-lets_pass g c =
    let x = c.stored-item.result in
    let passes = FnReturnsAt g.P.Fn c.args.p in
    let items = c.deref-stored-items.result.now in
    let seen = stored_of g.K.Resource.type_of in
    let h : c.loop-stored.stored-index < length items = omega arith in
    let fact = subst (passes (arc_value x.object)) c.if-lets_pass.true (subst (λ o. passes o c.lets_pass.result) c.deref.ensures c.lets_pass.ensures) in
    subst (λ os. IsFirst passes os (Some (arc_value x.object))) (objects-seen seen items ∙ ap objects (ap (map seen) c.deref-stored-items.ensures.value ∙ c.self.view_is))
    (c.loop-stored.invariant (Some (arc_value x.object)) (first_here passes (λ s. arc_value s.object) items c.loop-stored.stored-index x h c.stored-item.is fact))

pub loop-stored-preserved : goal.loop-stored-preserved
loop-stored-preserved g c = λ first r.
    let x = c.stored-item.result in
    let passes = FnReturnsAt g.P.Fn c.args.p in
    let items = c.deref-stored-items.result.now in
    let h : c.loop-stored.stored-index < length items = omega arith in
    let fact = subst (passes (arc_value x.object)) c.if-lets_pass.false (subst (λ o. passes o c.lets_pass.result) c.deref.ensures c.lets_pass.ensures) in
    c.loop-stored.invariant first (first_later passes (λ s. arc_value s.object) items c.loop-stored.stored-index x first h c.stored-item.is fact r)

pub returns : goal.returns
returns g c =
    let seen = stored_of g.K.Resource.type_of in
    let items = c.deref-stored-items.result.now in
    subst (λ os. IsFirst (FnReturnsAt g.P.Fn c.args.p) os None) (objects-seen seen items ∙ ap objects (ap (map seen) c.deref-stored-items.ensures.value ∙ c.self.view_is))
    (first_none (FnReturnsAt g.P.Fn c.args.p) (λ s. arc_value s.object) items c.loop-stored.stored-index (omega arith) c.loop-stored.invariant)
