use Rattle.std.proofs.Common.{List, arith, length, ap, subst, sym, ◌∙◌, ◌≡◌}
use Rattle.kube_sched.specs.Futures.{CanPollAll, FirstReady}
use Rattle.std.specs.List.{IsDistinct}
use Rattle.std.specs.Map.{keys_of}
use Rattle.kube_sched.proofs.Futures.{Polling, polling-all, keys-pending, polling-none, polling-more, polling-ready, can-more, can-ready, length-more}
use Rattle.kube_sched.proofs.future_hash_map.FutureHashMap.poll_first.Goals as goal

pub loop-place-init : goal.loop-place-init
loop-place-init g c =
    let len : length c.self.inside.futures.entries ≡ c.len-count.result = sym c.len-count.ensures.len in
    record {
      polling = subst (λ old. Polling g.F.ToldFuture.told g.F.Future.gives old c.self.inside.futures.entries 0) c.self.view_is (polling-none g.F.ToldFuture.told g.F.Future.gives c.self.inside.futures.entries);
      can = c.self.invariant;
      len = len;
      same = ap length (sym c.self.view_is) ∙ len;
    }

pub returns-in-Some-clause-polled : goal.returns-in-Some-clause-polled
returns-in-Some-clause-polled g c =
    let entries = c.shift_remove_index.ensures.entries in
    subst (λ xs. FirstReady g.F.ToldFuture.told g.F.Future.gives c.args.self.now xs c.in-Some.value) (sym entries)
    (polling-ready g.F.ToldFuture.told g.F.Future.gives c.args.self.now c.loop-place.self-inside.futures.entries c.poll_place.new.futures.entries c.loop-place.place c.in-Some.value c.loop-place.invariant.polling c.in-Some.ensures.polled)

pub invariant_of-self-in-Some : goal.invariant_of-self-in-Some
invariant_of-self-in-Some g c =
    let entries = c.shift_remove_index.ensures.entries in
    subst (CanPollAll g.F.Future.can_poll) (sym entries)
    (can-ready g.F.ToldFuture.told g.F.Future.gives g.F.Future.can_poll c.loop-place.self-inside.futures.entries c.poll_place.new.futures.entries c.loop-place.place c.in-Some.value c.in-Some.ensures.polled c.loop-place.invariant.can)

pub loop-place-preserved : goal.loop-place-preserved
loop-place-preserved g c =
    let told = g.F.ToldFuture.told in
    let gives = g.F.Future.gives in
    let can = g.F.Future.can_poll in
    let now = c.loop-place.self-inside.futures.entries in
    let after = c.poll_place.new.futures.entries in
    let place = c.loop-place.place in
    record {
      polling = polling-more told gives can c.args.self.now now after place c.loop-place.invariant.polling c.in_default.ensures.polled;
      can = can-more told gives can now after place c.in_default.ensures.polled c.loop-place.invariant.can;
      len = length-more told gives can now after place c.in_default.ensures.polled ∙ c.loop-place.invariant.len;
      same = c.loop-place.invariant.same;
    }

pub returns-clause-unique : goal.returns-clause-unique
returns-clause-unique g c =
    let told = g.F.ToldFuture.told in
    let gives = g.F.Future.gives in
    let eq = g.K.PartialEq.eq in
    let last = c.loop-place.self-inside.futures.entries in
    let all : c.loop-place.place ≡ c.len-count.result = (let a = c.loop-place.auto.place-end in let b = c.loop-place-test.false in omega arith) in
    let pending = polling-all told gives c.args.self.now last c.loop-place.place c.loop-place.invariant.polling (c.loop-place.invariant.len ∙ sym all) in
    subst (IsDistinct eq) (sym (keys-pending told gives c.args.self.now last pending))
    (subst (λ (es : List (g.row.K.Denot × g.row.F.Denot)). IsDistinct eq (keys_of es)) c.self.view_is c.len-count.ensures.unique)
