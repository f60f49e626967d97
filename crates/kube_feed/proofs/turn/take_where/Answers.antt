use Rattle.std.proofs.Common.{refl, sym, ap, subst, ◌∙◌}
use Rattle.std.specs.List.{AllByRecursion, filter_map}
use Rattle.std.proofs.lemmas.Result.{on_err_weaker}
use Rattle.kube_model.specs.Raw.{grown_by}
use Rattle.kube_turn.specs.Views.{taken_of}
use Rattle.kube_step.specs.HandOvers.{handed_by}
use Rattle.kube_step.specs.Takes.{IsSomething}
use Rattle.kube_step.proofs.Taking.{grown-nil}
use Rattle.kube_feed.specs.Reads.{AreFound}
use Rattle.kube_feed.specs.Turns.{HaveTaken, HaveTakenFirst}
use Rattle.kube_feed.proofs.Going.{both, taken-all, taken-none}
use Rattle.kube_feed.proofs.Reading.{later-none}
use Rattle.kube_feed.proofs.turn.take_where.Goals as goal

pub returns-then-not-takes-clause-same : goal.returns-then-not-takes-clause-same
returns-then-not-takes-clause-same g c = later-none c.args.parts.now.reader

pub returns-then-not-takes-clause-taken : goal.returns-then-not-takes-clause-taken
returns-then-not-takes-clause-taken g c core qs rs s =
    subst (λ ts. HaveTaken g.K.Resource core c.args.takes qs rs (filter_map (taken_of g.K.Resource.type_of) ts) c.args.parts.now.pending) (sym c.new.ensures)
    (taken-none g.K.Resource core qs rs c.args.takes c.if-not-takes.true c.args.parts.now.pending s)

pub returns-then-not-takes-clause-looked_up : goal.returns-then-not-takes-clause-looked_up
returns-then-not-takes-clause-looked_up g c core qs rs s =
    subst (λ ts. AreFound g.K.Resource.meta_of (filter_map (taken_of g.K.Resource.type_of) ts) c.args.parts.now.reader c.args.parts.now.reader) (sym c.new.ensures) refl

pub returns-then-not-takes-clause-handed : goal.returns-then-not-takes-clause-handed
returns-then-not-takes-clause-handed g c =
    sym (ap (λ ts. grown_by (g.Rc.Reconciler.handed c.args.reconciler.now) (handed_by (filter_map (taken_of g.K.Resource.type_of) ts))) c.new.ensures ∙ grown-nil (g.Rc.Reconciler.handed c.args.reconciler.now))

pub returns-then-not-takes-clause-something : goal.returns-then-not-takes-clause-something
returns-then-not-takes-clause-something g c = subst (AllByRecursion (IsSomething g.K.Resource.type_of)) (sym c.new.ensures) tt

pub returns-clause-taken : goal.returns-clause-taken
returns-clause-taken g c =
    let type_of = g.K.Resource.type_of in
    both c.take_all.result _ _ _
    (λ ts taken stands core qs rs s. taken-all g.K.Resource core qs rs c.args.takes c.if-not-takes.false (filter_map (taken_of type_of) ts) c.take_all.new.pending (taken core qs rs s) (stands core qs rs s))
    c.take_all.ensures.taken c.take_all.ensures.stands

pub returns-clause-lost : goal.returns-clause-lost
returns-clause-lost g c =
    on_err_weaker c.take_all.result
    (λ k. (k.0, k.1, λ core qs rs s. subst (λ b. HaveTakenFirst g.K.Resource.meta_of core b qs rs k.0 c.args.parts.now.reader c.take_all.new.reader) (sym c.if-not-takes.false) (k.2 core qs rs s)))
    c.take_all.ensures.lost
