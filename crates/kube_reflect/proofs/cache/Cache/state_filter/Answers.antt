use Rattle.std.proofs.Common.{arith, ap, ◌∙◌, map, subst, ◌<◌, length}
use Rattle.std.proofs.lemmas.Grind.{common_steps}
use Rattle.std.specs.Arc.{arc_value}
use Rattle.std.specs.Fn.{FnReturnsAt}
use Rattle.kube_reflect.specs.Reads.{objects, IsFiltered}
use Rattle.kube_reflect.specs.Views.{stored_of}
use Rattle.kube_reflect.proofs.Reading.{objects-seen, filtered_more, filtered_same, filtered_all}
use Rattle.kube_reflect.proofs.cache.Cache.state_filter.Goals as goal
use Rattle.kube_reflect.proofs.cache.Cache.state_filter.Goals.{then-lets_pass+in_ok-try_clone+in_ok-push, else-lets_pass}

pub loop-stored-preserved : goal.loop-stored-preserved
loop-stored-preserved g c =
    let x = c.stored-item.result in
    let passes = FnReturnsAt g.P.Fn c.args.p in
    let items = c.deref-stored-items.result.now in
    let h : c.loop-stored.stored-index < length items = omega arith in
    let fact = subst (λ o. passes o c.lets_pass.result) c.deref.ensures c.lets_pass.ensures in
    elim c.if-lets_pass.branch [
      | then-lets_pass+in_ok-try_clone+in_ok-push w ↦
          filtered_more passes (λ s. arc_value s.object) items c.loop-stored.stored-index x (map arc_value c.loop-stored.objects.items) (map arc_value c.if-lets_pass.objects.items)
          h c.stored-item.is (subst (passes (arc_value x.object)) w.if-lets_pass.true fact) (grind (arith, common_steps)) c.loop-stored.invariant
      | else-lets_pass w ↦
          filtered_same passes (λ s. arc_value s.object) items c.loop-stored.stored-index x (map arc_value c.loop-stored.objects.items) (map arc_value c.if-lets_pass.objects.items)
          h c.stored-item.is (subst (passes (arc_value x.object)) w.if-lets_pass.false fact) (ap (λ v. map arc_value v.items) w.objects-is) c.loop-stored.invariant
    ]

pub returns : goal.returns
returns g c =
    let seen = stored_of g.K.Resource.type_of in
    let items = c.deref-stored-items.result.now in
    subst (λ os. IsFiltered (FnReturnsAt g.P.Fn c.args.p) os (map arc_value c.loop-stored.objects.items)) (objects-seen seen items ∙ ap objects (ap (map seen) c.deref-stored-items.ensures.value ∙ c.self.view_is))
    (filtered_all (FnReturnsAt g.P.Fn c.args.p) (λ s. arc_value s.object) items c.loop-stored.stored-index (map arc_value c.loop-stored.objects.items) (omega arith) c.loop-stored.invariant)
