use Rattle.std.proofs.Common.{refl, sym, ap, ◌∙◌}
use Rattle.kube_meta.specs.Keys.{key_of}
use Rattle.kube_history.specs.CoreWorld.{core_world}
use Rattle.kube_turn.specs.declared.config.Config.{Config}
use Rattle.kube_asks.specs.Roots.{RootWatching}
use Rattle.kube_control.proofs.Firsts.{started}
use Rattle.kube_control.proofs.Histories.{none-yet}
use Rattle.kube_control.proofs.controller.build.Controller+WatchRoot+A+NoRelated+DefaultBackoff.new_with.Goals as goal

pub returns-clause-stands : goal.returns-clause-stands
returns-clause-stands g c w is backoff limit debounce =
    let kind = ap (λ (r : RootWatching g.row.A.Denot g.row.A-Value.Denot). r.kind) c.new-2.ensures.root ∙ (c.new-root.ensures.kind ∙ g.met.A.Value.Resource.one_type c.args.t c.in_ok-own.own c.in_ok-own.ensures) in
    let core = c.in_ok-core.ensures.stands (core_world w)
    (record { key = is.key ∙ ap (λ t o. key_of t (g.A.Value.Resource.meta_of o)) kind; named = is.named; version = is.version })
    (limit ∙ sym (ap (λ (k : Config). k.concurrency) c.default.ensures)) (debounce ∙ sym (ap (λ (k : Config). k.debounce) c.default.ensures)) in
    record {
      parts = started _ _ _ _ w c.new-2.result c.in_ok-core.core c.new-root.result _ c.default-2.result c.new-2.ensures.root c.new-2.ensures.related c.new-2.ensures.unspent is (backoff ∙ sym c.default-2.ensures) core
          (record { root = c.new-root.ensures.stands; related = λ place h. tt }) c.new-2.ensures.stands;
      last = refl;
      ended = refl;
      of_trace = none-yet w;
      unspent = refl;
    }
