use Rattle.std.proofs.Common.{◌<◌, ◌≡◌, [], ◌∷◌, All, length, refl, sym, subst, ap, arith, length-append}
use Rattle.std.proofs.lemmas.List.Elements.{All-push}
use Rattle.rtrb.specs.Ring.{sent, known_free}
use Rattle.kube_reflect.specs.Ties.{home_of}
use Rattle.kube_reflect.specs.Hands.{IsNamed}
use Rattle.kube_reflect.proofs.copies.shared.make_lanes.Goals as goal

pub loop-reader-preserved : goal.loop-reader-preserved
loop-reader-preserved g c =
    let inv = c.loop-reader.invariant in
    let home = home_of c.args.origin.now in
    let n = inv.number in
    let m = ap length c.in_ok-push-2.ensures.items in
    let k = length-append c.loop-reader.places.items (c.in_ok-giver.place ∷ []) in
    record {
      origin = refl;
      givers =
          subst (All (λ p. IsNamed (sent p) home × (0 < known_free p))) (sym c.in_ok-push.ensures.items)
          (All-push (λ p. IsNamed (sent p) home × (0 < known_free p)) c.loop-reader.givers.items c.in_ok-giver.giver inv.givers c.in_ok-giver.ensures.giver);
      places =
          subst (All (λ p. p.home ≡ home)) (sym c.in_ok-push-2.ensures.items)
          (All-push (λ p. p.home ≡ home) c.loop-reader.places.items c.in_ok-giver.place inv.places c.in_ok-giver.ensures.place);
      number = omega arith;
    }
