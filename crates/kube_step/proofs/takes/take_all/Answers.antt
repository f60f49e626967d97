use Rattle.std.proofs.Common.{◌≡◌, ◌++◌, ◌∷◌, ◌+◌, ◌≤◌, [], length, is_some, true, false, not, inl, inr, refl, sym, ap, subst, ◌∙◌, arith}
use Rattle.std.specs.List.{AllByRecursion, filter_map}
use Rattle.std.proofs.lemmas.List.{length-append}
use Rattle.std.proofs.lemmas.Result.{err_from_is_err_and}
use Rattle.kube_model.specs.Raw.{grown_by}
use Rattle.kube_history.specs.CoreEvents.{next_taken}
use Rattle.kube_core.specs.Cores.{Parts, StandsFor}
use Rattle.kube_turn.specs.Views.{taken_of}
use Rattle.kube_step.specs.HandOvers.{handed_by}
use Rattle.kube_step.specs.Takes.{IsSomething, taken_so_far}
use Rattle.kube_step.proofs.Waits.{none-taken, waits_after}
use Rattle.kube_step.proofs.Taking.{none-of, some-of, all-push, kept-push, handed-more, took-none, took-more, fewer-more, legal-takes, legal-next}
use Rattle.kube_step.proofs.takes.take_all.Goals as goal

pub loop-take-preserved : goal.loop-take-preserved
loop-take-preserved g c =
    let type_of = g.K.Resource.type_of in
    let meta = g.K.Resource.meta_of in
    let i = c.loop-take.invariant in
    let e = c.in_ok-one.ensures in
    let at = c.args.now.0 in
    let ts = filter_map (taken_of type_of) c.loop-take.taken.items in
    let some = some-of (taken_of type_of c.in_ok-one.one) (sym c.is_nothing.ensures ∙ c.if-is_nothing.false) in
    let added = c.in_ok-add_one.ensures.added in
    let more : filter_map (taken_of type_of) c.add_one.new.taken.items ≡ ts ++ some.0 ∷ [] = ap (filter_map (taken_of type_of)) added ∙ kept-push (taken_of type_of) c.loop-take.taken.items c.in_ok-one.one some.0 some.1 in
    record {
      clock = subst (λ (m : _). m.0 ≤ c.args.now.0) (sym e.clock) (omega arith);
      writer = e.writer ∙ i.writer;
      count = ap length more ∙ (length-append ts (some.0 ∷ []) ∙ ap (λ n. n + 1) i.count);
      handed = handed-more (g.Rc.Reconciler.handed c.args.reconciler.now) (g.Rc.Reconciler.handed c.loop-take.reconciler) (g.Rc.Reconciler.handed c.add_one.new.reconciler) ts (taken_of type_of c.in_ok-one.one) some.0 some.1 i.handed c.in_ok-add_one.ensures.handed
          ∙ ap (λ us. grown_by (g.Rc.Reconciler.handed c.args.reconciler.now) (handed_by us)) (sym more);
      something = subst (AllByRecursion (IsSomething type_of)) (sym added) (all-push (IsSomething type_of) c.loop-take.taken.items c.in_ok-one.one i.something (ap is_some some.1));
      stands = λ world es s.
          let k = i.stands world es s in
          subst (λ us. StandsFor type_of meta world (es ++ taken_so_far at us) c.take.new.self × (length (waits_after world (es ++ taken_so_far at us)) + length us ≤ length (waits_after world es))) (sym more) (
            took-more type_of meta world es at ts c.take.new.self (taken_of type_of c.in_ok-one.one) some.0 some.1 (e.stands world (es ++ taken_so_far at ts) k.0),
            fewer-more type_of meta world es at ts c.take.new.self (taken_of type_of c.in_ok-one.one) some.0 some.1 (e.stands world (es ++ taken_so_far at ts) k.0) (e.next world (es ++ taken_so_far at ts) k.0) k.1,
          );
    }

pub returns-then-is_nothing-clause-took : goal.returns-then-is_nothing-clause-took
returns-then-is_nothing-clause-took g c =
    rw c.from.ensures (λ world es s.
    let type_of = g.K.Resource.type_of in
    let ts = filter_map (taken_of type_of) c.loop-take.taken.items in
    let k = c.loop-take.invariant.stands world es s in
    took-none type_of g.K.Resource.meta_of world es c.args.now.0 ts c.take.new.self (taken_of type_of c.in_ok-one.one) (none-of (taken_of type_of c.in_ok-one.one) (sym c.is_nothing.ensures ∙ c.if-is_nothing.true))
    (c.in_ok-one.ensures.stands world (es ++ taken_so_far c.args.now.0 ts) k.0))

pub returns-then-is_nothing-clause-handed : goal.returns-then-is_nothing-clause-handed
returns-then-is_nothing-clause-handed g c = rw c.from.ensures c.loop-take.invariant.handed

pub returns-clause-handed : goal.returns-clause-handed
returns-clause-handed g c = rw c.from-2.ensures c.loop-take.invariant.handed

pub returns-in_err-one-clause-lost : goal.returns-in_err-one-clause-lost
returns-in_err-one-clause-lost g c =
    let type_of = g.K.Resource.type_of in
    let ts = filter_map (taken_of type_of) c.loop-take.taken.items in
    let i = c.loop-take.invariant in
    let p = err_from_is_err_and c.from_residual.result c.from_residual.ensures.1 in
    rw p.1 (
      ts,
      i.handed,
      λ world es s.
          let k = i.stands world es s in
          let some = some-of (next_taken world (es ++ taken_so_far c.args.now.0 ts)) (ap not (c.in_err-one.ensures.wanted world (es ++ taken_so_far c.args.now.0 ts) k.0)) in
          (some.0, legal-next type_of g.K.Resource.meta_of world es c.args.now.0 ts c.loop-take.core k.0 i.clock some.0 (sym some.1)),
    )

pub returns-in_err-add_one-clause-lost : goal.returns-in_err-add_one-clause-lost
returns-in_err-add_one-clause-lost g c =
    let type_of = g.K.Resource.type_of in
    let meta = g.K.Resource.meta_of in
    let at = c.args.now.0 in
    let i = c.loop-take.invariant in
    let ts = filter_map (taken_of type_of) c.loop-take.taken.items in
    let some = some-of (taken_of type_of c.in_ok-one.one) (sym c.is_nothing.ensures ∙ c.if-is_nothing.false) in
    let p = err_from_is_err_and c.from_residual-in_err-add_one.result c.from_residual-in_err-add_one.ensures.1 in
    rw p.1 (
      ts,
      c.in_err-add_one.ensures.err ∙ i.handed,
      λ world es s.
          let k = i.stands world es s in (
            some.0,
            legal-takes type_of meta world es at (ts ++ some.0 ∷ []) c.take.new.self
                (took-more type_of meta world es at ts c.take.new.self (taken_of type_of c.in_ok-one.one) some.0 some.1 (c.in_ok-one.ensures.stands world (es ++ taken_so_far at ts) k.0)),
          ),
    )

pub returns-clause-took : goal.returns-clause-took
returns-clause-took g c =
    rw c.from-2.ensures (λ world es s.
    let type_of = g.K.Resource.type_of in
    let meta = g.K.Resource.meta_of in
    let at = c.args.now.0 in
    let ts = filter_map (taken_of type_of) c.loop-take.taken.items in
    let i = c.loop-take.invariant in
    let k = i.stands world es s in
    let count = i.count in
    let len = c.waiting_len-take-end.ensures world es s in
    let over = c.loop-take-test.false in
    let l = k.1 in
    let none : length (waits_after world (es ++ taken_so_far at ts)) ≤ 0 = omega (arith, count, len, over, l) in
    let e = c.in_ok-take.ensures in
    took-none type_of meta world es at ts c.take-2.new.self (taken_of type_of c.in_ok-take.field-0) (e.next world (es ++ taken_so_far at ts) k.0 ∙ none-taken world (es ++ taken_so_far at ts) none)
    (e.stands world (es ++ taken_so_far at ts) k.0))

pub returns-in_err-take-clause-lost : goal.returns-in_err-take-clause-lost
returns-in_err-take-clause-lost g c =
    let type_of = g.K.Resource.type_of in
    let at = c.args.now.0 in
    let ts = filter_map (taken_of type_of) c.loop-take.taken.items in
    let i = c.loop-take.invariant in
    let p = err_from_is_err_and c.from_residual-in_err-take.result c.from_residual-in_err-take.ensures.1 in
    rw p.1 (
      ts,
      i.handed,
      λ world es s.
          let k = i.stands world es s in
          let count = i.count in
          let len = c.waiting_len-take-end.ensures world es s in
          let over = c.loop-take-test.false in
          let l = k.1 in
          let none : length (waits_after world (es ++ taken_so_far at ts)) ≤ 0 = omega (arith, count, len, over, l) in
          absurd (let e : false ≡ true = sym (ap is_some (none-taken world (es ++ taken_so_far at ts) none)) ∙ c.in_err-take.ensures.wanted world (es ++ taken_so_far at ts) k.0 in cc),
    )

pub returns-in_err-one-clause-left : goal.returns-in_err-one-clause-left
returns-in_err-one-clause-left g c =
    let type_of = g.K.Resource.type_of in
    let at = c.args.now.0 in
    let ts = filter_map (taken_of type_of) c.loop-take.taken.items in
    let i = c.loop-take.invariant in
    let p = err_from_is_err_and c.from_residual.result c.from_residual.ensures.1 in
    rw p.1 (ts, ts, i.handed, inl refl, λ world es s. subst (λ (q : Parts _ _). StandsFor type_of g.K.Resource.meta_of world (es ++ taken_so_far at ts) q) (sym c.in_err-one.ensures.err) (i.stands world es s).0)

pub returns-in_err-add_one-clause-left : goal.returns-in_err-add_one-clause-left
returns-in_err-add_one-clause-left g c =
    let type_of = g.K.Resource.type_of in
    let at = c.args.now.0 in
    let ts = filter_map (taken_of type_of) c.loop-take.taken.items in
    let i = c.loop-take.invariant in
    let some = some-of (taken_of type_of c.in_ok-one.one) (sym c.is_nothing.ensures ∙ c.if-is_nothing.false) in
    let p = err_from_is_err_and c.from_residual-in_err-add_one.result c.from_residual-in_err-add_one.ensures.1 in
    rw p.1 (
      ts,
      ts ++ some.0 ∷ [],
      c.in_err-add_one.ensures.err ∙ i.handed,
      inr (some.0, refl),
      λ world es s.
          took-more type_of g.K.Resource.meta_of world es at ts c.take.new.self (taken_of type_of c.in_ok-one.one) some.0 some.1
          (c.in_ok-one.ensures.stands world (es ++ taken_so_far at ts) (i.stands world es s).0),
    )

pub returns-in_err-take-clause-left : goal.returns-in_err-take-clause-left
returns-in_err-take-clause-left g c =
    let type_of = g.K.Resource.type_of in
    let at = c.args.now.0 in
    let ts = filter_map (taken_of type_of) c.loop-take.taken.items in
    let i = c.loop-take.invariant in
    let p = err_from_is_err_and c.from_residual-in_err-take.result c.from_residual-in_err-take.ensures.1 in
    rw p.1 (ts, ts, i.handed, inl refl, λ world es s. subst (λ (q : Parts _ _). StandsFor type_of g.K.Resource.meta_of world (es ++ taken_so_far at ts) q) (sym c.in_err-take.ensures.err) (i.stands world es s).0)
