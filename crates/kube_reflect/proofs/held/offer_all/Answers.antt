use Rattle.std.proofs.Common.{◌<◌, ◌∙◌, ap, sym, map, length, drop, arith}
use Rattle.std.proofs.lemmas.List.{length-map, drop-drop}
use Rattle.kube_meta.specs.Keys.{reference_of}
use Rattle.kube_reflect.specs.Reflects.{offered_in}
use Rattle.kube_reflect.proofs.Offering.{err-so, stopped, offered-one, offered-more, read-left}
use Rattle.kube_reflect.proofs.held.offer_all.Goals as goal

pub returns-then-is_lagged-clause-writer : goal.returns-then-is_lagged-clause-writer
returns-then-is_lagged-clause-writer g c =
    ap (λ p. p.0) (sym (stopped c.loop-offered.writer (map (reference_of g.K.Resource.type_of) c.loop-offered.references.items) (sym c.is_lagged.ensures ∙ c.if-is_lagged.true)) ∙ c.loop-offered.invariant.decides)

pub returns-then-is_lagged-clause-left : goal.returns-then-is_lagged-clause-left
returns-then-is_lagged-clause-left g c =
    ap (λ p. p.1) (sym (stopped c.loop-offered.writer (map (reference_of g.K.Resource.type_of) c.loop-offered.references.items) (sym c.is_lagged.ensures ∙ c.if-is_lagged.true)) ∙ c.loop-offered.invariant.decides)

pub loop-offered-preserved : goal.loop-offered-preserved
loop-offered-preserved g c =
    let ref = reference_of g.K.Resource.type_of in
    let all = c.args.references.now.items in
    let i = c.loop-offered._offered in
    let w = c.loop-offered.writer in
    let r = ref c.in-Some.reference in
    let n = length-map all ref in
    let h : c.loop-offered._offered < length (map (reference_of g.K.Resource.type_of) c.args.references.now.items) = omega (arith, n) in
    let low = sym c.is_lagged.ensures ∙ c.if-is_lagged.false in
    record {
      live = λ number h. c.offer_now.ensures.live number (c.loop-offered.invariant.live number h);
      left = c.pop_front.ensures.rest ∙ (ap (drop 1) c.loop-offered.invariant.left ∙ drop-drop 1 i all);
      offered = offered-more w c.offer_now.new.self c.args.writer.now (map ref all) i r h
          (read-left ref all c.loop-offered.references.items i c.in-Some.reference c.loop-offered.invariant.left c.in-Some.ensures.lookup)
          low c.in_ok-offer_now.ensures.offered c.loop-offered.invariant.offered;
      decides =
          ap (λ q. offered_in q (map ref c.pop_front.new.self.items)) c.in_ok-offer_now.ensures.offered
          ∙ (sym (offered-one w r (map ref c.pop_front.new.self.items) low)
          ∙ (ap (λ xs. offered_in w (map ref xs)) (sym c.in-Some.ensures.items) ∙ c.loop-offered.invariant.decides));
    }

pub returns-in_err-offer_now-clause-some : goal.returns-in_err-offer_now-clause-some
returns-in_err-offer_now-clause-some g c = err-so c.from_residual.result (c.loop-offered._offered, c.in_err-offer_now.ensures.err ∙ sym (ap (λ p. p.0) c.loop-offered.invariant.offered))
