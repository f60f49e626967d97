use Rattle.std.proofs.Common.{◌≡◌, ◌∙◌, refl, sym, subst, true, false}
use Rattle.kube_sched.specs.Runs.{Runs, IsWithin, has_room, runs}
use Rattle.std.proofs.lemmas.Result.{err_from_is_err_and}
use Rattle.kube_sched.proofs.Runs.{put-absent, within-room, started-by, start-lost-by}
use Rattle.kube_sched.proofs.runner.Runner.start.Goals as goal

pub insert-requires : goal.insert-requires
insert-requires g c = c.requires.futures _ _ c.args.message c.call_mut-future.result (record { shown = _; shows = refl; called = c.call_mut-future.ensures })

pub invariant_of-self-2 : goal.invariant_of-self-2
invariant_of-self-2 g c =
    let absent = subst (λ (r : Runs g.row.T.Denot g.row.R.Denot g.row.F.Denot g.row.MkF.Denot g.row.Ready.Denot). runs g.T.PartialEq.eq c.args.message r.running ≡ false) (sym c.self.view_is) c.requires.absent in
    let room = subst (λ (r : Runs g.row.T.Denot g.row.R.Denot g.row.F.Denot g.row.MkF.Denot g.row.Ready.Denot). has_room r.limit r.running ≡ true) (sym c.self.view_is) c.requires.room in (
      c.self.invariant.0,
      subst (IsWithin c.self.inside.max) (sym (c.in_ok-insert.ensures.put ∙ put-absent g.T.PartialEq.eq c.self.inside.slots c.args.message c.call_mut-future.result absent))
          (within-room c.self.inside.max c.self.inside.slots (c.args.message, c.call_mut-future.result) room),
      c.insert.ensures.unique,
    )

pub returns-clause-started : goal.returns-clause-started
returns-clause-started g c =
    let absent = subst (λ (r : Runs g.row.T.Denot g.row.R.Denot g.row.F.Denot g.row.MkF.Denot g.row.Ready.Denot). runs g.T.PartialEq.eq c.args.message r.running ≡ false) (sym c.self.view_is) c.requires.absent in
    started-by _ c.args.message c.call_mut-future.result _ c.args.self.now _ c.self.view_is (record { shown = _; shows = refl; called = c.call_mut-future.ensures })
    (c.in_ok-insert.ensures.put ∙ put-absent g.T.PartialEq.eq c.self.inside.slots c.args.message c.call_mut-future.result absent) refl

pub returns-in_err-insert-clause-lost : goal.returns-in_err-insert-clause-lost
returns-in_err-insert-clause-lost g c =
    let p = err_from_is_err_and c.from_residual.result c.from_residual.ensures.1 in
    rw p.1 (start-lost-by _ c.args.message c.call_mut-future.result _ c.args.self.now _ c.self.view_is (record { shown = _; shows = refl; called = c.call_mut-future.ensures })
    c.in_err-insert.ensures.err refl)
