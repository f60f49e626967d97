use Rattle.std.proofs.Common.{◌++◌, ◌+◌, map, length, ap, sym, ◌∙◌, arith}
use Rattle.std.specs.Arc.{arc_value}
use Rattle.std.proofs.lemmas.List.{length-map}
use Rattle.kube_watch.specs.Events.{event_map}
use Rattle.kube_reflect.proofs.Telling.{tells_more}
use Rattle.kube_reflect.proofs.store.Writer.apply_watcher_event.Goals as goal

pub invariant_of-self-2 : goal.invariant_of-self-2
invariant_of-self-2 g c =
    let one = c.from_ref.result.now in
    let before = c.self.inside.keeper in
    let is = c.in_ok-apply.ensures.applied in
    let n = ap length c.from_ref.ensures.value in
    let m = length-map one (event_map arc_value) in
    let f = c.if-self.false in
    tells_more g.K.Resource.type_of g.K.Resource.meta_of before c.apply.new.self c.self.inside.count (c.self.inside.count + 1) c.self.inside.shared c.prepare.new.self c.add.new.self c.in_ok-ops.ops.items (map (event_map arc_value) one) _ c.self.invariant
    c.in_ok-ops.ensures.same c.add.ensures c.in_ok-ops.ensures.ops (ap (λ k. k.kind) is)
    (ap (λ k. k.events) is ∙ ap (λ es. before.events ++ map (event_map arc_value) es) (sym c.from_ref.ensures.value)) (omega arith) (omega arith)
