use Rattle.std.proofs.Common.{[], sym, ap, subst}
use Rattle.kube_history.specs.CoreWorld.{core_world}
use Rattle.kube_step.specs.Controllers.{IsWorldOfAsks}
use Rattle.kube_control.proofs.Histories.{none-yet}
use Rattle.kube_feed.specs.Fed.{Feeding, StandsFor}
use Rattle.kube_feed.proofs.Firsts.{configured}
use Rattle.kube_feed.proofs.controller.FedController.with_config.Goals as goal

pub returns-clause-stands : goal.returns-clause-stands
returns-clause-stands g c v w s is backoff limit debounce =
    let z = subst (λ (x : Feeding g.row.R.Denot g.row.S.Denot g.row.B.Denot g.row.R-Object.Denot g.row.R-Object-DynamicType.Denot).
    StandsFor g.R.RootSource g.S.RelatedSet g.B.Backoff g.R.Object.Resource v [] x) (sym c.self.view_is) s in
    let own = subst (λ (x : Feeding g.row.R.Denot g.row.S.Denot g.row.B.Denot g.row.R-Object.Denot g.row.R-Object-DynamicType.Denot).
    IsWorldOfAsks g.R.RootSource g.S.RelatedSet g.B.Backoff g.R.Object.Resource w x.asks) (sym c.self.view_is) is in
    record {
      parts = configured g.R.RootSource g.S.RelatedSet g.B.Backoff g.R.Object.Resource v w c.self.inside.asks c.self.inside.parts c.emptied.result z.parts own backoff
          (ap (λ p. p.reader) c.emptied.ensures.rest) (ap (λ p. p.ready) c.emptied.ensures.rest) (ap (λ p. p.shut) c.emptied.ensures.rest)
          (c.emptied.ensures.stands (core_world w) limit debounce);
      last = z.last;
      ended = z.ended;
      of_trace = none-yet w;
      unspent = z.unspent;
    }
