use Rattle.std.proofs.Common.{[], map, sym, ap, subst, ◌∙◌}
use Rattle.std.specs.List.{fold, list_all}
use Rattle.std.proofs.lemmas.List.Folds.{list_all-map}
use Rattle.std.specs.Arc.{arc_value}
use Rattle.std.specs.declared.alloc.Global.{Global}
use Rattle.kube_meta.specs.Keys.{key_of}
use Rattle.kube_model.specs.World.{default_settings}
use Rattle.kube_watch.specs.Events.{event_map}
use Rattle.kube_watch.specs.Table.{table}
use Rattle.kube_reflect.specs.Cached.{applied, has_name}
use Rattle.kube_core.specs.Cores.{HasSameHandles}
use Rattle.kube_core.proofs.StoredSteps.{kept-all, kind-all, handles-all, brings-told}
use Rattle.kube_core.proofs.storing.store_told.Goals as goal

pub returns-clause-kept : goal.returns-clause-kept
returns-clause-kept g c settings version =
    let meta = g.K.Resource.meta_of in
    let value = arc_value {X = g.row.K.Denot} {Z = Global} in
    let w = c.args.writer.now in
    let x = c.args.exchange.now in
    ap (λ k. k.kept) c.in-Ok.ensures.applied
    ∙ (kept-all value meta w c.as_slice-2.result.now
    ∙ ap (fold (applied (λ o. key_of w.kind (meta o))) w.kept)
    (ap (map (event_map value)) c.as_slice-2.ensures
    ∙ (c.in_ok-events.ensures.told settings version ∙ ap (λ xs. (table settings version c.args.initial x.call x.answer (map value xs)).events) c.as_slice.ensures)))

pub returns-clause-named : goal.returns-clause-named
returns-clause-named g c settings version =
    let meta = g.K.Resource.meta_of in
    let value = arc_value {X = g.row.K.Denot} {Z = Global} in
    let x = c.args.exchange.now in
    let told = ap (map (event_map value)) c.as_slice-2.ensures
    ∙ (c.in_ok-events.ensures.told settings version ∙ ap (λ xs. (table settings version c.args.initial x.call x.answer (map value xs)).events) c.as_slice.ensures) in
    sym (ap (list_all (has_name meta)) told) ∙ (list_all-map (has_name meta) (event_map value) c.as_slice-2.result.now ∙ c.in-Ok.ensures.named)

pub returns-clause-kind : goal.returns-clause-kind
returns-clause-kind g c =
    let value = arc_value {X = g.row.K.Denot} {Z = Global} in
    ap (λ k. k.kind) c.in-Ok.ensures.applied ∙ kind-all value g.K.Resource.meta_of c.args.writer.now c.as_slice-2.result.now

pub returns-clause-handles : goal.returns-clause-handles
returns-clause-handles g c =
    let value = arc_value {X = g.row.K.Denot} {Z = Global} in
    subst (HasSameHandles c.args.writer.now) (sym c.in-Ok.ensures.applied) (handles-all value g.K.Resource.meta_of c.args.writer.now c.as_slice-2.result.now)

pub returns-in_default-clause-brings : goal.returns-in_default-clause-brings
returns-in_default-clause-brings g c =
    let value = arc_value {X = g.row.K.Denot} {Z = Global} in
    let x = c.args.exchange.now in
    brings-told value c.as_slice-2.result.now default_settings [] c.args.initial x.call x.answer (map value x.items)
    (ap (map (event_map value)) c.as_slice-2.ensures
    ∙ (c.in_ok-events.ensures.told default_settings [] ∙ ap (λ xs. (table default_settings [] c.args.initial x.call x.answer (map value xs)).events) c.as_slice.ensures))
    c.in_default.ensures.some
