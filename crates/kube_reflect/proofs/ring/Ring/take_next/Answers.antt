use Rattle.std.proofs.Common.{◌≡◌, ◌-◌, ◌≤◌, ◌∙◌, ap, sym, length, drop, Some, map, subst, arith}
use Rattle.std.specs.Prelude.{IfSome}
use Rattle.std.specs.List.{list_all}
use Rattle.std.specs.Arc.{arc_value}
use Rattle.std.specs.Option.{option_map}
use Rattle.std.proofs.lemmas.List.{length-map, drop_all}
use Rattle.std.proofs.lemmas.Bool.{le-leb}
use Rattle.kube_meta.specs.Keys.{reference_of}
use Rattle.kube_meta.specs.declared.poll.Next.TheVariants.{Item}
use Rattle.kube_reflect.specs.Lags.{is_within}
use Rattle.kube_reflect.specs.Subscribers.{first_stored, given, left, with_waiting, next_map}
use Rattle.kube_reflect.proofs.Lagging.{within-set, with_lag, for_waiting, seen_ring}
use Rattle.kube_reflect.proofs.ring.Ring.take_next.Goals as goal

pub invariant_of-self : goal.invariant_of-self
invariant_of-self g c =
    let n = length c.self.inside.references.items in
    let w = subst (λ o. IfSome o (λ p. p.1 ≤ length c.self.inside.references.items)) c.in-Some-2.is c.in_ok-object.ensures.within in
    ap (list_all (is_within n)) c.set.ensures ∙ within-set n c.self.inside.lags c.args.number (Some c.in-Some-2.after) c.self.invariant (le-leb c.in-Some-2.after n w)

pub invariant_of-self-in-None : goal.invariant_of-self-in-None
invariant_of-self-in-None g c =
    let n = length c.self.inside.references.items in
    ap (list_all (is_within n)) c.set-in-None.ensures ∙ within-set n c.self.inside.lags c.args.number (Some 0) c.self.invariant (le-leb 0 n (omega arith))

pub returns-in-Some-2-clause-answer : goal.returns-in-Some-2-clause-answer
returns-in-Some-2-clause-answer g c =
    let ref = reference_of g.K.Resource.type_of in
    let items = c.self.inside.references.items in
    let rs = map ref items in
    let n = length-map items ref in
    let fe : c.saturating_sub-from.result ≡ length rs - c.in-Some.lag = omega (arith, n, c.saturating_sub-from.ensures, c.len.ensures) in
    let l = sym c.in-Some.is ∙ c.lag.ensures in
    let f = ap (option_map (λ p. (arc_value p.0, drop (length items - p.1) rs))) (sym c.in-Some-2.is) ∙ (c.in_ok-object.ensures.first ∙ ap (λ m. first_stored c.args.cache.now (drop m rs)) fe) in
    for_waiting c.self.inside.room rs c.self.inside.is_closed c.self.inside.lags c.args.number c.in-Some.lag c.args.self.now
    (λ ws. next_map arc_value (Item c.in-Some-2.object) ≡ given c.args.self.now.is_closed (first_stored c.args.cache.now ws)) l c.self.view_is
    (ap (given c.args.self.now.is_closed) f)

pub returns-in-Some-2-clause-taken : goal.returns-in-Some-2-clause-taken
returns-in-Some-2-clause-taken g c =
    let ref = reference_of g.K.Resource.type_of in
    let items = c.self.inside.references.items in
    let rs = map ref items in
    let n = length-map items ref in
    let fe : c.saturating_sub-from.result ≡ length rs - c.in-Some.lag = omega (arith, n, c.saturating_sub-from.ensures, c.len.ensures) in
    let l = sym c.in-Some.is ∙ c.lag.ensures in
    let f = ap (option_map (λ p. (arc_value p.0, drop (length items - p.1) rs))) (sym c.in-Some-2.is) ∙ (c.in_ok-object.ensures.first ∙ ap (λ m. first_stored c.args.cache.now (drop m rs)) fe) in
    for_waiting c.self.inside.room rs c.self.inside.is_closed c.self.inside.lags c.args.number c.in-Some.lag c.args.self.now
    (λ ws. seen_ring c.self.inside.room rs c.set.new.self c.self.inside.is_closed ≡ with_waiting c.args.self.now c.args.number (Some (left (first_stored c.args.cache.now ws)))) l c.self.view_is
    (with_lag c.self.inside.room rs c.self.inside.is_closed c.self.inside.lags c.set.new.self c.args.number (Some c.in-Some-2.after) c.args.self.now c.set.ensures c.self.view_is
    ∙ (ap (λ m. with_waiting c.args.self.now c.args.number (Some (drop (m - c.in-Some-2.after) rs))) n
    ∙ ap (λ q. with_waiting c.args.self.now c.args.number (Some (left q))) f))

pub returns-in-None-clause-taken : goal.returns-in-None-clause-taken
returns-in-None-clause-taken g c =
    let ref = reference_of g.K.Resource.type_of in
    let items = c.self.inside.references.items in
    let rs = map ref items in
    let n = length-map items ref in
    let fe : c.saturating_sub-from.result ≡ length rs - c.in-Some.lag = omega (arith, n, c.saturating_sub-from.ensures, c.len.ensures) in
    let l = sym c.in-Some.is ∙ c.lag.ensures in
    let f = ap (option_map (λ p. (arc_value p.0, drop (length items - p.1) rs))) (sym c.in-None.is) ∙ (c.in_ok-object.ensures.first ∙ ap (λ m. first_stored c.args.cache.now (drop m rs)) fe) in
    for_waiting c.self.inside.room rs c.self.inside.is_closed c.self.inside.lags c.args.number c.in-Some.lag c.args.self.now
    (λ ws. seen_ring c.self.inside.room rs c.set-in-None.new.self c.self.inside.is_closed ≡ with_waiting c.args.self.now c.args.number (Some (left (first_stored c.args.cache.now ws)))) l c.self.view_is
    (with_lag c.self.inside.room rs c.self.inside.is_closed c.self.inside.lags c.set-in-None.new.self c.args.number (Some 0) c.args.self.now c.set-in-None.ensures c.self.view_is
    ∙ (ap (λ ys. with_waiting c.args.self.now c.args.number (Some ys)) (drop_all (length rs - 0) rs (omega arith))
    ∙ ap (λ q. with_waiting c.args.self.now c.args.number (Some (left q))) f))
