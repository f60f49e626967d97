use Rattle.std.proofs.Common.{◌≡◌, map, ◌++◌, [], ◌∷◌, sym, ap, ◌∙◌, append-nil}
use Rattle.std.specs.Arc.{arc_value}
use Rattle.kube_server.specs.History.{objects_of}
use Rattle.kube_server.proofs.ObjectLemmas.{values-held, one_more_value}
use Rattle.kube_server.proofs.objects.Objects.all.Goals as goal

pub loop-object-preserved : goal.loop-object-preserved
loop-object-preserved c =
    let h = c.loop-object.invariant in
    let shared : arc_value c.in_ok-clone.field-0 ≡ arc_value c.in-Some.object.now = c.in_ok-clone.ensures.cases in
    ap (λ r. map arc_value r ++ map arc_value c.next.new.self) c.in_ok-push.ensures.items
    ∙ (one_more_value c.loop-object.all.items c.next.new.self c.in_ok-clone.field-0 c.in-Some.object.now shared
    ∙ (ap (λ r. map arc_value c.loop-object.all.items ++ map arc_value r) (sym c.in-Some.ensures.steps) ∙ h))

pub returns : goal.returns
returns c =
    let h = c.loop-object.invariant in
    let s = c.in-None.ensures.steps.0 in
    let k = c.values-object-items.ensures.rest in
    let i = c.into_iter-object-iterator.ensures.into_iter_gives in
    sym (append-nil _) ∙ (ap (λ r. map arc_value c.loop-object.all.items ++ map arc_value r) (sym s) ∙ (h ∙ (ap (map arc_value) (i ∙ k) ∙ (values-held c.self.inside.by_place.entries ∙ ap objects_of c.self.view_is))))
