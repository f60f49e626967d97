use Rattle.std.proofs.Common.{◌≡◌, true, false, None, refl, sym, ap, subst, ◌∙◌}
use Rattle.std.specs.List.{AllByRecursion, filter_map}
use Rattle.std.proofs.lemmas.Result.{err_from_is_err_and}
use Rattle.kube_model.specs.Raw.{grown_by}
use Rattle.kube_turn.specs.Views.{taken_of}
use Rattle.kube_core.specs.Pendings.{Stands}
use Rattle.kube_step.specs.HandOvers.{handed_by}
use Rattle.kube_step.specs.Takes.{IsSomething}
use Rattle.kube_step.proofs.Taking.{grown-nil}
use Rattle.kube_feed.specs.Turns.{HaveReadAndTaken}
use Rattle.kube_feed.proofs.Going.{read-first, read-none, read-some}
use Rattle.kube_feed.proofs.Reading.{later-more, later-none}
use Rattle.kube_feed.proofs.turn.read_and_take.Goals as goal

pub returns-then-parts-clause-same : goal.returns-then-parts-clause-same
returns-then-parts-clause-same g c = later-none c.args.parts.now.reader

pub returns-then-parts-clause-taken : goal.returns-then-parts-clause-taken
returns-then-parts-clause-taken g c core qs rs s = (
  None,
  refl,
  subst (λ ts. HaveReadAndTaken g.K.Resource core c.args.parts.now.shut qs rs c.args.parts.now None (filter_map (taken_of g.K.Resource.type_of) ts) c.args.parts.now) (sym c.new.ensures)
      (read-none g.K.Resource core qs rs c.args.parts.now.shut c.if-parts.true c.args.parts.now s),
)

pub returns-then-parts-clause-handed : goal.returns-then-parts-clause-handed
returns-then-parts-clause-handed g c =
    sym (ap (λ ts. grown_by (g.Rc.Reconciler.handed c.args.reconciler.now) (handed_by (filter_map (taken_of g.K.Resource.type_of) ts))) c.new.ensures ∙ grown-nil (g.Rc.Reconciler.handed c.args.reconciler.now))

pub returns-then-parts-clause-something : goal.returns-then-parts-clause-something
returns-then-parts-clause-something g c = subst (AllByRecursion (IsSomething g.K.Resource.type_of)) (sym c.new.ensures) tt

pub returns-in_err-taken-clause-same : goal.returns-in_err-taken-clause-same
returns-in_err-taken-clause-same g c = later-more c.args.parts.now.reader c.poll_ready-runner.new.parts.reader c.take_where.new.parts.reader c.poll_ready-runner.ensures.same c.in_err-taken.ensures.same

pub returns-in_err-taken-clause-shut : goal.returns-in_err-taken-clause-shut
returns-in_err-taken-clause-shut g c = c.in_err-taken.ensures.shut ∙ c.poll_ready-runner.ensures.shut

pub returns-clause-same : goal.returns-clause-same
returns-clause-same g c = later-more c.args.parts.now.reader c.poll_ready-runner.new.parts.reader c.take_where.new.parts.reader c.poll_ready-runner.ensures.same c.in_ok-taken.ensures.same

pub returns-clause-shut : goal.returns-clause-shut
returns-clause-shut g c = c.in_ok-taken.ensures.shut ∙ c.poll_ready-runner.ensures.shut

pub returns-clause-taken : goal.returns-clause-taken
returns-clause-taken g c core qs rs s =
    let type_of = g.K.Resource.type_of in
    let ts = filter_map (taken_of type_of) c.in_ok-taken.taken in
    let mid = c.poll_ready-runner.new.parts in
    let k = c.poll_ready-runner.ensures.polled in
    let e = c.in_ok-taken.ensures in
    let now = subst (λ p. Stands type_of core p qs rs) (sym c.poll_ready-runner.ensures.pending) s in (
      k.0,
      k.4,
      read-some g.K.Resource core qs rs c.args.parts.now.shut c.if-parts.false c.args.parts.now k.0 mid.reader mid.ready ts c.take_where.new.parts k.1 k.2 k.3 (e.looked_up core qs rs now) (e.taken core qs rs now) e.ready,
    )

pub returns-in_err-taken-clause-lost : goal.returns-in_err-taken-clause-lost
returns-in_err-taken-clause-lost g c =
    let p = err_from_is_err_and c.from_residual.result c.from_residual.ensures.1 in
    let lost = c.in_err-taken.ensures.lost in
    rw p.1 (
      lost.0,
      lost.1,
      c.if-parts.false,
      λ core qs rs s.
          let mid = c.poll_ready-runner.new.parts in
          let k = c.poll_ready-runner.ensures.polled in
          let now = subst (λ p. Stands g.K.Resource.type_of core p qs rs) (sym c.poll_ready-runner.ensures.pending) s in
          (k.0, read-first g.K.Resource core qs rs c.args.parts.now.shut c.if-parts.false c.args.parts.now k.0 mid.reader mid.ready lost.0 c.take_where.new.parts k.1 k.2 k.3 (lost.2 core qs rs now)),
    )

pub returns-then-parts-clause-closed : goal.returns-then-parts-clause-closed
returns-then-parts-clause-closed g c e = (c.new.ensures, refl, refl)

pub returns-clause-closed : goal.returns-clause-closed
returns-clause-closed g c e = absurd (let z : false ≡ true = sym c.if-parts.false ∙ e in cc)
