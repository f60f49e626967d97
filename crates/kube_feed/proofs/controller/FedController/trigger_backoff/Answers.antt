use Rattle.std.proofs.Common.{[], sym, ap, subst}
use Rattle.kube_control.proofs.Histories.{none-yet}
use Rattle.kube_feed.specs.Fed.{Feeding, StandsFor}
use Rattle.kube_feed.proofs.Firsts.{triggered}
use Rattle.kube_feed.proofs.controller.FedController.trigger_backoff.Goals as goal

pub returns-clause-stands : goal.returns-clause-stands
returns-clause-stands g c v w s is backoff limit debounce =
    let z = subst (λ (x : Feeding g.row.R.Denot g.row.S.Denot g.row.B.Denot g.row.R-Object.Denot g.row.R-Object-DynamicType.Denot).
    StandsFor g.R.RootSource g.S.RelatedSet g.B.Backoff g.R.Object.Resource v [] x) (sym c.self.view_is) s in
    record {
      parts = triggered g.R.RootSource g.S.RelatedSet g.B.Backoff g.B2.Backoff g.R.Object.Resource v w c.self.inside.asks c.self.inside.parts c.into_sources-root.result.0 c.into_sources-root.result.1 c.new.result c.args.b z.parts
          (ap (λ p. p.0) c.into_sources-root.ensures) (ap (λ p. p.1) c.into_sources-root.ensures) c.new.ensures.root c.new.ensures.related c.new.ensures.unspent is backoff limit debounce
          (c.new.ensures.stands w);
      last = z.last;
      ended = z.ended;
      of_trace = none-yet w;
      unspent = z.unspent;
    }
