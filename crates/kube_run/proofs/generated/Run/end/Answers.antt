use Rattle.std.proofs.Common.{◌≡◌, length, map, refl, sym, ap, subst, ◌∙◌}
use Rattle.kube_meta.specs.Keys.{reference_of}
use Rattle.kube_model.specs.Stored.{store_after}
use Rattle.kube_object.specs.Named.{named_type}
use Rattle.kube_run.specs.GeneratedRun.{AreTotals, input_of, stored_after}
use Rattle.kube_run.specs.Played.{made_by, script_world}
use Rattle.kube_run.specs.Reached.{Progress}
use Rattle.kube_run.proofs.Reaching.{as-many, reached-end}
use Rattle.kube_run.proofs.generated.Run.end.Goals as goal

pub returns : goal.returns
returns c =
    let r = c.self.inside in
    let k = c.self.invariant in
    let s = input_of r.seed r.objects r.turns in
    let over : r.taken ≡ r.turns = ap (λ (p : Progress). p.taken) c.self.view_is ∙ (c.requires ∙ sym (ap (λ (p : Progress). p.turns) c.self.view_is)) in
    let stores : c.len.result ≡ stored_after s k.turns k.records = c.len.ensures ∙ (ap length (c.cache.ensures.store (script_world s) (made_by k.turns k.records) k.stands) ∙ as-many (script_world s).key (store_after (script_world s) (made_by k.turns k.records))) in
    subst (λ (p : Progress). AreTotals p.seed p.objects p.turns (record r.totals { objects = c.len.result })) c.self.view_is
    (reached-end _ _ _ _ r.seed r.objects r.turns r.taken c.len.result r.controller r.after_fault (map (reference_of named_type) r.running.items) r.totals (record r.totals { objects = c.len.result }) k over stores refl)
