use Rattle.std.proofs.Common.{◌≡◌, ◌++◌, ◌∷◌, [], map, sym, ap, subst, ◌∙◌, append_assoc, append-nil}
use Rattle.std.specs.Arc.{arc_value}
use Rattle.std.proofs.lemmas.List.{map-append, map-id}
use Rattle.std.proofs.lemmas.Iterator.Adapters.{YieldsList-from_vec}
use Rattle.std.proofs.lemmas.Iterator.Consumers.{YieldsList-end}
use Rattle.kube_model.specs.Takes.{running, unfinished}
use Rattle.kube_history.specs.TurnCalls.{with_requests}
use Rattle.kube_core.specs.Pendings.{Stands}
use Rattle.kube_turn.specs.Records.{finish_of, finished_of}
use Rattle.kube_step.specs.Finishes.{AreFinished}
use Rattle.kube_step.specs.Policies.{Answers}
use Rattle.kube_feed.specs.Requests.{finish_requests}
use Rattle.kube_feed.proofs.Finishing.{ended-more, finish-more, finish-none, it-runs, one-finished, unfinished-none}
use Rattle.kube_feed.proofs.finishes.finish_all.Goals as goal

pub loop-finish-init : goal.loop-finish-init
loop-finish-init g c = record {
  done = λ core qs h t rest s v all.
      let type_of = g.K.Resource.type_of in
      let none = c.new-finished.ensures in (
        subst (AreFinished type_of (Answers g.P.Fn c.args.error_policy.now (arc_value c.args.context.now)) (running h) []) (sym none) tt,
        subst (λ gs. Stands type_of core c.args.pending.now (with_requests qs c.args.at.0 (finish_requests c.args.closed c.args.at.0 (map (finished_of type_of) gs))) (unfinished (running h) [])) (sym none)
            (subst (λ es. Stands type_of core c.args.pending.now es (unfinished (running h) [])) (sym (finish-none qs c.args.closed c.args.at.0))
            (subst (λ rs. Stands type_of core c.args.pending.now qs rs) (sym (unfinished-none (running h))) s)),
      );
}

pub loop-finish-preserved : goal.loop-finish-preserved
loop-finish-preserved g c =
    let type_of = g.K.Resource.type_of in
    let policy = Answers g.P.Fn c.args.error_policy.now (arc_value c.args.context.now) in
    let e = c.in_ok-one.ensures in
    let fs = c.loop-finish.yielded in
    let gs = c.loop-finish.finished in
    let x = c.in-Some.finish in
    let o = c.in_ok-one.one in
    let at = c.args.at.0 in
    record {
      done = λ core qs h t rest s v all.
          let k = c.loop-finish.invariant.done core qs h t (x ∷ rest) s v (all ∙ ap (map (finish_of type_of)) (append_assoc fs (x ∷ []) rest)) in
          let now = with_requests qs at (finish_requests c.args.closed at (map (finished_of type_of) gs)) in
          let left = unfinished (running h) (map (finish_of type_of) fs) in
          let more = sym (ap (map (finished_of type_of)) c.in_ok-push.ensures.ok ∙ map-append (finished_of type_of) gs (o ∷ [])) in (
            subst (AreFinished type_of policy (running h) (fs ++ x ∷ [])) (sym c.in_ok-push.ensures.ok)
                (one-finished type_of policy h t v fs gs k.0 x rest all o e.finish (e.action core now left k.1)),
            subst (λ us. Stands type_of core c.finish_one.new.pending (with_requests qs at (finish_requests c.args.closed at us)) (unfinished (running h) (map (finish_of type_of) (fs ++ x ∷ [])))) more
                (subst (λ es. Stands type_of core c.finish_one.new.pending es (unfinished (running h) (map (finish_of type_of) (fs ++ x ∷ [])))) (finish-more qs c.args.closed at (map (finished_of type_of) gs) (finished_of type_of o))
                (subst (λ rs. Stands type_of core c.finish_one.new.pending (with_requests now at (finish_requests c.args.closed at (finished_of type_of o ∷ []))) rs)
                (ended-more (running h) (map (finish_of type_of) fs) (finish_of type_of x) ∙ ap (unfinished (running h)) (sym (map-append (finish_of type_of) fs (x ∷ []))))
                (e.stands core now left k.1 (it-runs type_of policy h t v fs gs k.0 x rest all)))),
          );
    }

pub returns-clause-finished : goal.returns-clause-finished
returns-clause-finished g c core qs h t s v all =
    let type_of = g.K.Resource.type_of in
    let gives = c.into_iter-finish-iterator.ensures.into_iter_gives in
    let items = c.from-finish-items.ensures in
    let whole = YieldsList-end (YieldsList-from_vec {s = c.into_iter-finish-iterator.result} c.from-finish-items.result.items gives.0 (gives.1 ∙ c.from-finish-items.result.ok.0)) c.loop-finish.yielded c.loop-finish.finish-iterator c.loop-finish.yielded_by _ c.next.new.self c.in-None.is c.next.ensures.steps in
    let is : c.loop-finish.yielded ≡ c.args.finishes = sym (map-id c.loop-finish.yielded) ∙ whole.0 ∙ items in
    let k = c.loop-finish.invariant.done core qs h t [] s v (all ∙ ap (map (finish_of type_of)) (sym is ∙ sym (append-nil c.loop-finish.yielded))) in
    subst (λ fs. AreFinished type_of (Answers g.P.Fn c.args.error_policy.now (arc_value c.args.context.now)) (running h) fs c.loop-finish.finished) is k.0

pub returns-clause-stands : goal.returns-clause-stands
returns-clause-stands g c core qs h t s v all =
    let type_of = g.K.Resource.type_of in
    let gives = c.into_iter-finish-iterator.ensures.into_iter_gives in
    let items = c.from-finish-items.ensures in
    let whole = YieldsList-end (YieldsList-from_vec {s = c.into_iter-finish-iterator.result} c.from-finish-items.result.items gives.0 (gives.1 ∙ c.from-finish-items.result.ok.0)) c.loop-finish.yielded c.loop-finish.finish-iterator c.loop-finish.yielded_by _ c.next.new.self c.in-None.is c.next.ensures.steps in
    let is : c.loop-finish.yielded ≡ c.args.finishes = sym (map-id c.loop-finish.yielded) ∙ whole.0 ∙ items in
    let k = c.loop-finish.invariant.done core qs h t [] s v (all ∙ ap (map (finish_of type_of)) (sym is ∙ sym (append-nil c.loop-finish.yielded))) in
    subst (λ fs. Stands type_of core c.loop-finish.pending (with_requests qs c.args.at.0 (finish_requests c.args.closed c.args.at.0 (map (finished_of type_of) c.loop-finish.finished))) (unfinished (running h) fs)) (ap (map (finish_of type_of)) is ∙ sym all) k.1
