use Rattle.std.proofs.Common.{◌≡◌, ◌≤◌, ◌++◌, List, [], length, map, refl, sym, ap, subst, ◌∙◌, arith}
use Rattle.std.specs.Arc.{arc_value}
use Rattle.std.specs.List.{AllByRecursion}
use Rattle.std.proofs.lemmas.List.{map-id}
use Rattle.std.proofs.lemmas.Result.{err_from_is_err_and}
use Rattle.std.proofs.lemmas.Iterator.Adapters.{YieldsList-from_vec}
use Rattle.std.proofs.lemmas.Iterator.Consumers.{YieldsList-end, YieldsList-so_far, YieldsList-turn}
use Rattle.kube_model.specs.Raw.{grown_by}
use Rattle.kube_model.specs.Traces.{steps}
use Rattle.kube_turn.specs.Records.{record_of, turn_of}
use Rattle.kube_turn.specs.declared.record.TurnRecord.{TurnRecord}
use Rattle.kube_step.specs.HandOvers.{handed_by, taken_by}
use Rattle.kube_step.specs.Policies.{Answers}
use Rattle.kube_step.specs.Takes.{IsSomething}
use Rattle.kube_step.proofs.Taking.{grown-nil}
use Rattle.kube_control.proofs.Stops.{unnamed-map}
use Rattle.kube_control.proofs.Turns.{split-turns}
use Rattle.kube_feed.specs.Runs.{AreFinishedIn, HaveRun}
use Rattle.kube_feed.proofs.Reading.{later-more, later-none}
use Rattle.kube_feed.proofs.Runs.{run-none}
use Rattle.kube_feed.proofs.Stops.{faulted-map, refused-map}
use Rattle.kube_feed.proofs.Turns.{broken-end, done-at, done-more, handed-more, refused-end, short-more, something-more, whole-run}
use Rattle.kube_feed.proofs.controller.turns.take_turns.Goals as goal

pub loop-turn-init : goal.loop-turn-init
loop-turn-init g c =
    let type_of = g.R.Object.Resource.type_of in
    let none = c.requires.none in
    record {
      feeds = refl;
      root = c.requires.root;
      related = c.requires.related;
      same = later-none c.args.controller.now.reader;
      spent = refl;
      short = subst (λ rs. length rs ≤ 0) (sym none) (omega arith);
      done = λ w h k. (
        [],
        ap (map (record_of type_of)) (sym none),
        refl,
        run-none g.R.RootSource g.S.RelatedSet g.B.Backoff g.R.Object.Resource w h c.args.controller.now k,
        subst (λ rs. AreFinishedIn type_of (Answers g.P.Fn c.args.error_policy.now (arc_value c.args.context.now)) h [] rs []) (sym none) tt,
      );
      handed = sym (ap (λ (rs : List (TurnRecord _ _ _)). grown_by (g.Rc.Reconciler.handed c.args.reconciler.now) (handed_by (taken_by (map (record_of type_of) rs)))) none ∙ grown-nil (g.Rc.Reconciler.handed c.args.reconciler.now));
      something = subst (AllByRecursion (λ (r : TurnRecord _ _ _). AllByRecursion (IsSomething type_of) r.taken)) (sym none) tt;
    }

pub loop-turn-preserved : goal.loop-turn-preserved
loop-turn-preserved g c =
    let e = c.in_ok-add_turn.ensures in
    let now = c.loop-turn.invariant in
    record {
      feeds = e.feeds ∙ now.feeds;
      root = e.root;
      related = e.related;
      same = later-more c.args.controller.now.reader c.loop-turn.controller.reader c.add_turn.new.controller.reader now.same e.same;
      spent = e.spent ∙ now.spent;
      short = short-more g.R.RootSource g.S.RelatedSet g.B.Backoff g.R.Object.Resource (Answers g.P.Fn c.args.error_policy.now (arc_value c.args.context.now)) c.in-Some.turn c.loop-turn.yielded c.loop-turn.records.items c.args.controller.now c.loop-turn.controller c.add_turn.new.controller (g.Rc.Reconciler.handed c.args.reconciler.now) (g.Rc.Reconciler.handed c.loop-turn.reconciler) (g.Rc.Reconciler.handed c.add_turn.new.reconciler) c.add_turn.new.records.items e.ended e.next now.short;
      done = λ w h k. done-more g.R.RootSource g.S.RelatedSet g.B.Backoff g.R.Object.Resource (Answers g.P.Fn c.args.error_policy.now (arc_value c.args.context.now)) c.in-Some.turn c.loop-turn.yielded c.loop-turn.records.items c.args.controller.now c.loop-turn.controller c.add_turn.new.controller (g.Rc.Reconciler.handed c.args.reconciler.now) (g.Rc.Reconciler.handed c.loop-turn.reconciler) (g.Rc.Reconciler.handed c.add_turn.new.reconciler) c.add_turn.new.records.items e.ended e.next w h now.short (now.done w h k);
      handed = handed-more g.R.RootSource g.S.RelatedSet g.B.Backoff g.R.Object.Resource (Answers g.P.Fn c.args.error_policy.now (arc_value c.args.context.now)) c.in-Some.turn c.loop-turn.yielded c.loop-turn.records.items c.args.controller.now c.loop-turn.controller c.add_turn.new.controller (g.Rc.Reconciler.handed c.args.reconciler.now) (g.Rc.Reconciler.handed c.loop-turn.reconciler) (g.Rc.Reconciler.handed c.add_turn.new.reconciler) c.add_turn.new.records.items e.ended e.next now.handed;
      something = something-more g.R.RootSource g.S.RelatedSet g.B.Backoff g.R.Object.Resource (Answers g.P.Fn c.args.error_policy.now (arc_value c.args.context.now)) c.in-Some.turn c.loop-turn.yielded c.loop-turn.records.items c.args.controller.now c.loop-turn.controller c.add_turn.new.controller (g.Rc.Reconciler.handed c.args.reconciler.now) (g.Rc.Reconciler.handed c.loop-turn.reconciler) (g.Rc.Reconciler.handed c.add_turn.new.reconciler) c.add_turn.new.records.items e.ended e.next now.something;
    }

pub returns-in_err-add_turn-clause-same : goal.returns-in_err-add_turn-clause-same
returns-in_err-add_turn-clause-same g c = later-more c.args.controller.now.reader c.loop-turn.controller.reader c.add_turn.new.controller.reader c.loop-turn.invariant.same c.in_err-add_turn.ensures.same

pub returns-in_err-add_turn-clause-something : goal.returns-in_err-add_turn-clause-something
returns-in_err-add_turn-clause-something g c =
    subst (AllByRecursion (λ (r : TurnRecord _ _ _). AllByRecursion (IsSomething g.R.Object.Resource.type_of) r.taken)) (sym c.in_err-add_turn.ensures.err.0) c.loop-turn.invariant.something

pub returns-in_err-add_turn-clause-refused : goal.returns-in_err-add_turn-clause-refused
returns-in_err-add_turn-clause-refused g c =
    let gives = c.into_iter-turn-iterator.ensures.into_iter_gives in
    let road = YieldsList-from_vec {s = c.into_iter-turn-iterator.result} c.args.turns.items gives.0 (gives.1 ∙ c.args.turns.ok.0) in
    let split =
    split-turns c.args.turns.items c.loop-turn.yielded c.in-Some.turn (YieldsList-so_far road c.loop-turn.yielded c.loop-turn.turn-iterator c.loop-turn.yielded_by)
    (YieldsList-turn road c.loop-turn.yielded c.loop-turn.turn-iterator c.loop-turn.yielded_by _ c.next.new.self c.in-Some.turn c.in-Some.is c.next.ensures.steps) in
    let err = c.in_err-add_turn.ensures.err in
    let type_of = g.R.Object.Resource.type_of in
    let handed = c.loop-turn.invariant.handed ∙ ap (λ (rs : List (TurnRecord _ _ _)). grown_by (g.Rc.Reconciler.handed c.args.reconciler.now) (handed_by (taken_by (map (record_of type_of) rs)))) (sym err.0) in
    let p = err_from_is_err_and c.from_residual.result c.from_residual.ensures.1 in
    rw (p.1, p.2) (refused-map c.in_err-add_turn.field-0.0 _ _
    (λ why r. (
      r.1 ∙ handed,
      λ w h k.
          let now = done-at g.R.RootSource g.S.RelatedSet g.B.Backoff g.R.Object.Resource (Answers g.P.Fn c.args.error_policy.now (arc_value c.args.context.now)) c.in-Some.turn c.loop-turn.yielded c.loop-turn.records.items c.args.controller.now c.loop-turn.controller c.add_turn.new.controller (g.Rc.Reconciler.handed c.args.reconciler.now) (g.Rc.Reconciler.handed c.loop-turn.reconciler) (g.Rc.Reconciler.handed c.add_turn.new.reconciler) w h c.add_turn.new.records.items err.0 (c.loop-turn.invariant.done w h k) in
          refused-end g.R.RootSource g.S.RelatedSet g.B.Backoff g.R.Object.Resource (Answers g.P.Fn c.args.error_policy.now (arc_value c.args.context.now)) c.in-Some.turn c.loop-turn.yielded c.add_turn.new.records.items c.args.controller.now c.loop-turn.controller c.add_turn.new.controller (g.Rc.Reconciler.handed c.args.reconciler.now) (g.Rc.Reconciler.handed c.loop-turn.reconciler) (g.Rc.Reconciler.handed c.add_turn.new.reconciler) c.args.turns.items split.0 split.1 w h now err.1 why r.0 (r.2 w (h ++ steps (map (turn_of type_of) c.loop-turn.yielded) now.0) now.3.stands),
    )) c.in_err-add_turn.ensures.refused)

pub returns-in_err-add_turn-clause-broken : goal.returns-in_err-add_turn-clause-broken
returns-in_err-add_turn-clause-broken g c =
    let gives = c.into_iter-turn-iterator.ensures.into_iter_gives in
    let road = YieldsList-from_vec {s = c.into_iter-turn-iterator.result} c.args.turns.items gives.0 (gives.1 ∙ c.args.turns.ok.0) in
    let split =
    split-turns c.args.turns.items c.loop-turn.yielded c.in-Some.turn (YieldsList-so_far road c.loop-turn.yielded c.loop-turn.turn-iterator c.loop-turn.yielded_by)
    (YieldsList-turn road c.loop-turn.yielded c.loop-turn.turn-iterator c.loop-turn.yielded_by _ c.next.new.self c.in-Some.turn c.in-Some.is c.next.ensures.steps) in
    let err = c.in_err-add_turn.ensures.err in
    let type_of = g.R.Object.Resource.type_of in
    let handed = c.loop-turn.invariant.handed ∙ ap (λ (rs : List (TurnRecord _ _ _)). grown_by (g.Rc.Reconciler.handed c.args.reconciler.now) (handed_by (taken_by (map (record_of type_of) rs)))) (sym err.0) in
    let p = err_from_is_err_and c.from_residual.result c.from_residual.ensures.1 in
    rw (p.1, p.2) (faulted-map c.in_err-add_turn.field-0.0 _ _
    (λ f b w h k.
    let now = done-at g.R.RootSource g.S.RelatedSet g.B.Backoff g.R.Object.Resource (Answers g.P.Fn c.args.error_policy.now (arc_value c.args.context.now)) c.in-Some.turn c.loop-turn.yielded c.loop-turn.records.items c.args.controller.now c.loop-turn.controller c.add_turn.new.controller (g.Rc.Reconciler.handed c.args.reconciler.now) (g.Rc.Reconciler.handed c.loop-turn.reconciler) (g.Rc.Reconciler.handed c.add_turn.new.reconciler) w h c.add_turn.new.records.items err.0 (c.loop-turn.invariant.done w h k) in
    broken-end g.R.RootSource g.S.RelatedSet g.B.Backoff g.R.Object.Resource (Answers g.P.Fn c.args.error_policy.now (arc_value c.args.context.now)) c.in-Some.turn c.loop-turn.yielded c.add_turn.new.records.items c.args.controller.now c.loop-turn.controller c.add_turn.new.controller (g.Rc.Reconciler.handed c.args.reconciler.now) (g.Rc.Reconciler.handed c.loop-turn.reconciler) (g.Rc.Reconciler.handed c.add_turn.new.reconciler) c.args.turns.items split.0 split.1 w h now err.1 f handed (b w (h ++ steps (map (turn_of type_of) c.loop-turn.yielded) now.0) now.3.stands)
    ) c.in_err-add_turn.ensures.broken)

pub returns-in_err-add_turn-clause-starts_nothing : goal.returns-in_err-add_turn-clause-starts_nothing
returns-in_err-add_turn-clause-starts_nothing g c =
    let err = c.in_err-add_turn.ensures.err in
    let type_of = g.R.Object.Resource.type_of in
    let handed = c.loop-turn.invariant.handed ∙ ap (λ (rs : List (TurnRecord _ _ _)). grown_by (g.Rc.Reconciler.handed c.args.reconciler.now) (handed_by (taken_by (map (record_of type_of) rs)))) (sym err.0) in
    let p = err_from_is_err_and c.from_residual.result c.from_residual.ensures.1 in
    rw (p.1, p.2) (faulted-map c.in_err-add_turn.field-0.0 _ _ (λ f b. unnamed-map f _ _ (λ source e. e ∙ handed) b) c.in_err-add_turn.ensures.starts_nothing)

pub returns-clause-ran : goal.returns-clause-ran
returns-clause-ran g c w h k =
    let gives = c.into_iter-turn-iterator.ensures.into_iter_gives in
    let road = YieldsList-from_vec {s = c.into_iter-turn-iterator.result} c.args.turns.items gives.0 (gives.1 ∙ c.args.turns.ok.0) in
    let whole = YieldsList-end road c.loop-turn.yielded c.loop-turn.turn-iterator c.loop-turn.yielded_by _ c.next.new.self c.in-None.is c.next.ensures.steps in
    let is : c.loop-turn.yielded ≡ c.args.turns.items = sym (map-id c.loop-turn.yielded) ∙ whole.0 in
    let type_of = g.R.Object.Resource.type_of in
    let policy = Answers g.P.Fn c.args.error_policy.now (arc_value c.args.context.now) in
    let d = c.loop-turn.invariant.done w h k in
    whole-run g.R.RootSource g.S.RelatedSet g.B.Backoff g.R.Object.Resource policy w h c.args.turns.items c.args.controller.now c.loop-turn.records.items c.loop-turn.controller d.0
    (record { records = d.1; finished = subst (λ ts. AreFinishedIn type_of policy h ts c.loop-turn.records.items d.0) is d.4 }) d.2
    (subst (λ ts. HaveRun g.R.RootSource g.S.RelatedSet g.B.Backoff g.R.Object.Resource w h (map (turn_of type_of) ts) c.args.controller.now d.0 c.loop-turn.controller) is d.3)
