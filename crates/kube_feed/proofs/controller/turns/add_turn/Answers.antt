use Rattle.std.proofs.Common.{◌++◌, ◌∷◌, [], ap, ◌∙◌}
use Rattle.std.specs.Arc.{arc_value}
use Rattle.std.proofs.lemmas.Result.{err_from_is_err_and}
use Rattle.kube_step.specs.Policies.{Answers}
use Rattle.kube_feed.proofs.Runs.{nothing-lost}
use Rattle.kube_feed.proofs.controller.turns.add_turn.Goals as goal

pub returns-in_err-reserve_one-clause-broken : goal.returns-in_err-reserve_one-clause-broken
returns-in_err-reserve_one-clause-broken g c =
    let p = err_from_is_err_and c.from_residual.result c.from_residual.ensures.1 in
    rw (p.1, p.2) (λ w h k. nothing-lost g.R.RootSource g.S.RelatedSet g.B.Backoff g.R.Object.Resource w (Answers g.P.Fn c.args.error_policy.now (arc_value c.args.context.now)) h c.args.turn c.args.controller.now (g.Rc.Reconciler.handed c.args.reconciler.now))

pub returns-clause-next : goal.returns-clause-next
returns-clause-next g c going =
    let e = c.in_ok-record.ensures in (
      c.in_ok-record.record,
      c.push_reserved.ensures.items ∙ ap (λ rs. rs ++ c.in_ok-record.record ∷ []) c.in_ok-reserve_one.ensures.items,
      λ w h k. let n = e.next w h k going in (n.0, n.1, n.2, e.finished w h k),
      e.handed,
      e.something,
    )
