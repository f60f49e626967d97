use Rattle.std.proofs.Common.{◌+◌, map, length, fold, ap, ◌∙◌, arith}
use Rattle.std.specs.Arc.{arc_value}
use Rattle.std.specs.declared.alloc.Global.{Global}
use Rattle.std.proofs.lemmas.List.{length-map}
use Rattle.kube_watch.specs.Events.{event_map}
use Rattle.kube_reflect.specs.Published.{Keeping}
use Rattle.kube_reflect.specs.Writers.{with_event}
use Rattle.kube_reflect.proofs.Making.{writing, all-applied}
use Rattle.kube_reflect.proofs.Telling.{tells_more, events_all, kind_all}
use Rattle.kube_reflect.proofs.store.Writer.apply_watcher_events.Goals as goal

pub invariant_of-self-2 : goal.invariant_of-self-2
invariant_of-self-2 g c =
    let meta = g.K.Resource.meta_of in
    let value = arc_value {X = g.row.K.Denot} {Z = Global} in
    let all = c.args.events.now in
    let before = c.self.inside.keeper in
    let is = c.in_ok-apply_all.ensures.applied in
    let m = length-map all (event_map value) in
    let f = c.if-count-self.false in
    tells_more g.K.Resource.type_of g.K.Resource.meta_of before c.apply_all.new.self c.self.inside.count (c.self.inside.count + length all) c.self.inside.shared c.prepare.new.self c.add.new.self c.in_ok-ops.ops.items (map (event_map value) all) _ c.self.invariant
    c.in_ok-ops.ensures.same c.add.ensures c.in_ok-ops.ensures.ops (ap (λ k. k.kind) is ∙ kind_all value meta before all)
    (ap (λ k. k.events) is ∙ events_all value meta before all) (omega arith) (omega arith)

pub returns-clause-applied : goal.returns-clause-applied
returns-clause-applied g c =
    let meta = g.K.Resource.meta_of in
    let value = arc_value {X = g.row.K.Denot} {Z = Global} in
    let shown = c.self.inside.shared.named in
    let readers = c.self.inside.shared.readers in
    let ring = c.self.inside.ring in
    let book = c.self.inside.shared.home.book in
    ap (λ z. writing c.apply_all.new.self z.named z.readers ring z.home.book) c.add.ensures
    ∙ (ap (λ z. writing c.apply_all.new.self z.named z.readers ring z.home.book) c.in_ok-ops.ensures.same
    ∙ (ap (λ (k : Keeping g.row.K.Denot). writing k shown readers ring book) c.in_ok-apply_all.ensures.applied
    ∙ (all-applied meta value c.self.inside.keeper shown readers ring book c.args.events.now
    ∙ ap (λ w. fold (with_event value meta) w c.args.events.now) c.self.view_is)))
