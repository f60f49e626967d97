use Rattle.std.proofs.Common.{◌≡◌, Ok, map, refl, sym, subst, Global}
use Rattle.std.specs.Prelude.{Vec}
use Rattle.std.specs.Fn.{FnReturns}
use Rattle.kube_turn.specs.declared.request.ReconcileRequest.{ReconcileRequest}
use Rattle.kube_trigger.specs.Triggers.{IsPassedOn}
use Rattle.kube_trigger.proofs.trigger.WithAdaptReconcileRequest.take.Goals as goal

pub returns-in_ok-wait_each-in-Ok-call-clause-taken :
    goal.returns-in_ok-wait_each-in-Ok-call-clause-taken
returns-in_ok-wait_each-in-Ok-call-clause-taken g c =
    let mapper = c.args.self.now.mapper in
    let requests = c.in-Ok-call.requests in (
      refl,
      subst (λ z. IsPassedOn (λ item gives. (qs : Vec (ReconcileRequest g.row.K.Denot g.row.K-DynamicType.Denot) Global) × FnReturns g.F.Fn mapper (item, tt) (Ok qs) × (gives ≡ map Ok qs.items)) z c.wait_each.new.waiting.items) (sym c.in-Ok.is)
          (requests, subst (λ r. FnReturns g.F.Fn mapper (c.in-Ok.item, tt) r) c.in-Ok-call.is c.call.ensures, c.in_ok-wait_each-in-Ok-call.ensures.given),
    )
