use Rattle.std.proofs.Common.{◌≡◌, ◌≤◌, ◌+◌, ◌++◌, ◌∷◌, [], map, length, drop, sym, ap, subst, ◌∙◌, append_assoc, append-nil, arith}
use Rattle.std.specs.Arc.{arc_value}
use Rattle.std.proofs.lemmas.List.{map-id}
use Rattle.std.proofs.lemmas.Result.{err_from_is_err_and}
use Rattle.std.proofs.lemmas.Iterator.Adapters.{YieldsList-from_vec}
use Rattle.std.proofs.lemmas.Iterator.Consumers.{YieldsList-end, YieldsList-so_far, YieldsList-turn}
use Rattle.kube_model.specs.Takes.{running}
use Rattle.kube_history.specs.TurnEvents.{finish_event}
use Rattle.kube_core.specs.Cores.{Parts, StandsFor}
use Rattle.kube_turn.specs.Records.{finish_of, finished_of}
use Rattle.kube_step.specs.Finishes.{AreFinished}
use Rattle.kube_step.specs.Policies.{Answers}
use Rattle.kube_step.proofs.Finishing.{all-left, all-next, finished-first, it-runs, one-finished, one-event}
use Rattle.kube_step.proofs.finishes.finish_all.Goals as goal

pub loop-finish-preserved : goal.loop-finish-preserved
loop-finish-preserved g c =
    let type_of = g.K.Resource.type_of in
    let policy = Answers g.P.Fn c.args.error_policy.now (arc_value c.args.context.now) in
    let e = c.in_ok-one.ensures in
    let fs = c.loop-finish.yielded in
    let gs = c.loop-finish.finished in
    let x = c.in-Some.finish in
    let o = c.in_ok-one.one in
    let clock = e.clock in
    record {
      clock = subst (λ (m : _). m.0 ≤ c.args.at.0) (sym clock) (omega arith);
      writer = e.writer ∙ c.loop-finish.invariant.writer;
      done = λ world es h t rest s r v all.
          let k = c.loop-finish.invariant.done world es h t (x ∷ rest) s r v (all ∙ ap (map (finish_of type_of)) (append_assoc fs (x ∷ []) rest)) in (
            subst (AreFinished type_of policy (running h) (fs ++ x ∷ [])) (sym c.in_ok-push.ensures.ok)
                (one-finished type_of policy h t v c.args.at.0 es r fs gs k.0 x rest all o e.finish (e.action world (es ++ map (finish_event c.args.at.0) (map (finished_of type_of) gs)) k.1)),
            subst (λ us. StandsFor type_of g.K.Resource.meta_of world us c.finish_one.new.core)
                (one-event type_of policy h t v c.args.at.0 es r fs gs k.0 x rest all o ∙ ap (λ us. es ++ map (finish_event c.args.at.0) (map (finished_of type_of) us)) (sym c.in_ok-push.ensures.ok))
                (e.stands world (es ++ map (finish_event c.args.at.0) (map (finished_of type_of) gs)) k.1 (it-runs type_of policy h t v c.args.at.0 es r fs gs k.0 x rest all)),
          );
    }

pub returns-clause-finished : goal.returns-clause-finished
returns-clause-finished g c world es h t s r v all =
    let type_of = g.K.Resource.type_of in
    let gives = c.into_iter-finish-iterator.ensures.into_iter_gives in
    let items = c.from-finish-items.ensures in
    let whole = YieldsList-end (YieldsList-from_vec {s = c.into_iter-finish-iterator.result} c.from-finish-items.result.items gives.0 (gives.1 ∙ c.from-finish-items.result.ok.0)) c.loop-finish.yielded c.loop-finish.finish-iterator c.loop-finish.yielded_by _ c.next.new.self c.in-None.is c.next.ensures.steps in
    let is : c.loop-finish.yielded ≡ c.args.finishes = sym (map-id c.loop-finish.yielded) ∙ whole.0 ∙ items in
    let k = c.loop-finish.invariant.done world es h t [] s r v (all ∙ ap (map (finish_of type_of)) (sym is ∙ sym (append-nil c.loop-finish.yielded))) in
    subst (λ fs. AreFinished type_of (Answers g.P.Fn c.args.error_policy.now (arc_value c.args.context.now)) (running h) fs c.loop-finish.finished) is k.0

pub returns-clause-stands : goal.returns-clause-stands
returns-clause-stands g c world es h t s r v all =
    let type_of = g.K.Resource.type_of in
    let gives = c.into_iter-finish-iterator.ensures.into_iter_gives in
    let items = c.from-finish-items.ensures in
    let whole = YieldsList-end (YieldsList-from_vec {s = c.into_iter-finish-iterator.result} c.from-finish-items.result.items gives.0 (gives.1 ∙ c.from-finish-items.result.ok.0)) c.loop-finish.yielded c.loop-finish.finish-iterator c.loop-finish.yielded_by _ c.next.new.self c.in-None.is c.next.ensures.steps in
    let is : c.loop-finish.yielded ≡ c.args.finishes = sym (map-id c.loop-finish.yielded) ∙ whole.0 ∙ items in
    (c.loop-finish.invariant.done world es h t [] s r v (all ∙ ap (map (finish_of type_of)) (sym is ∙ sym (append-nil c.loop-finish.yielded)))).1

pub returns-in_err-one-clause-left : goal.returns-in_err-one-clause-left
returns-in_err-one-clause-left g c =
    let type_of = g.K.Resource.type_of in
    let policy = Answers g.P.Fn c.args.error_policy.now (arc_value c.args.context.now) in
    let gives = c.into_iter-finish-iterator.ensures.into_iter_gives in
    let road = YieldsList-from_vec {s = c.into_iter-finish-iterator.result} c.from-finish-items.result.items gives.0 (gives.1 ∙ c.from-finish-items.result.ok.0) in
    let fs = c.loop-finish.yielded in
    let gs = c.loop-finish.finished in
    let all = c.args.finishes in
    let split = all-left all c.from-finish-items.result.items fs c.from-finish-items.ensures (YieldsList-so_far road fs c.loop-finish.finish-iterator c.loop-finish.yielded_by) in
    let p = err_from_is_err_and c.from_residual.result c.from_residual.ensures.1 in
    rw p.1 (
      map (finished_of type_of) gs,
      λ world es h t s r v is.
          let k = c.loop-finish.invariant.done world es h t (drop (length fs) all) s r v (is ∙ ap (map (finish_of type_of)) split) in (
            finished-first type_of policy (running h) all fs (drop (length fs) all) gs split k.0,
            subst (λ (q : Parts _ _). StandsFor type_of g.K.Resource.meta_of world (es ++ map (finish_event c.args.at.0) (map (finished_of type_of) gs)) q) (sym c.in_err-one.ensures.left) k.1,
          ),
    )

pub returns-in_err-push-clause-left : goal.returns-in_err-push-clause-left
returns-in_err-push-clause-left g c =
    let type_of = g.K.Resource.type_of in
    let policy = Answers g.P.Fn c.args.error_policy.now (arc_value c.args.context.now) in
    let gives = c.into_iter-finish-iterator.ensures.into_iter_gives in
    let road = YieldsList-from_vec {s = c.into_iter-finish-iterator.result} c.from-finish-items.result.items gives.0 (gives.1 ∙ c.from-finish-items.result.ok.0) in
    let e = c.in_ok-one.ensures in
    let fs = c.loop-finish.yielded in
    let gs = c.loop-finish.finished in
    let x = c.in-Some.finish in
    let o = c.in_ok-one.one in
    let all = c.args.finishes in
    let rest = drop (length fs + 1) all in
    let split =
    all-next all c.from-finish-items.result.items fs c.from-finish-items.ensures (YieldsList-so_far road fs c.loop-finish.finish-iterator c.loop-finish.yielded_by) x
    (YieldsList-turn road fs c.loop-finish.finish-iterator c.loop-finish.yielded_by _ c.next.new.self x c.in-Some.is c.next.ensures.steps) in
    let p = err_from_is_err_and c.from_residual-in_err-push.result c.from_residual-in_err-push.ensures.1 in
    rw p.1 (
      map (finished_of type_of) (gs ++ o ∷ []),
      λ world es h t s r v is.
          let now = is ∙ ap (map (finish_of type_of)) split in
          let k = c.loop-finish.invariant.done world es h t (x ∷ rest) s r v (now ∙ ap (map (finish_of type_of)) (append_assoc fs (x ∷ []) rest)) in
          let so-far = es ++ map (finish_event c.args.at.0) (map (finished_of type_of) gs) in (
            finished-first type_of policy (running h) all (fs ++ x ∷ []) rest (gs ++ o ∷ []) split (one-finished type_of policy h t v c.args.at.0 es r fs gs k.0 x rest now o e.finish (e.action world so-far k.1)),
            subst (λ us. StandsFor type_of g.K.Resource.meta_of world us c.finish_one.new.core) (one-event type_of policy h t v c.args.at.0 es r fs gs k.0 x rest now o)
                (e.stands world so-far k.1 (it-runs type_of policy h t v c.args.at.0 es r fs gs k.0 x rest now)),
          ),
    )
