use Rattle.std.proofs.Common.{◌≡◌, ◌<◌, ◌≤◌, ◌-◌, length, sym, ap, subst, arith}
use Rattle.std.proofs.lemmas.Result.{IfOk-weaker}
use Rattle.std.proofs.lemmas.Bool.{lt-ltb}
use Rattle.kube_asks.specs.Places.{Either}
use Rattle.kube_asks.specs.Sources.{IsRelatedNext, feed_at}
use Rattle.kube_turn.specs.Views.{exchange_of}
use Rattle.kube_asks.proofs.FitLemmas.{feed-first, feed-rest}
use Rattle.kube_asks.proofs.Bools.{not-below}
use Rattle.kube_asks.proofs.sets.BesideRelatedSet.poll_at.Goals as goal

pub returns-then-place-before-clause-next : goal.returns-then-place-before-clause-next
returns-then-place-before-clause-next g c =
    let xs = g.S.RelatedSet.feeds c.args.self.now.first in
    let ys = g.T.RelatedSet.feeds c.args.self.now.rest in
    let below : c.args.place < length xs = omega arith in
    IfOk-weaker c.poll_at.result _ _
    (λ x h own s. subst (λ f. IsRelatedNext f own c.args.now.0 (exchange_of g.K.Resource.type_of x)) (sym (feed-first xs ys c.args.place below))
    (h own (subst (λ b. Either b (g.S.RelatedSet.stands c.args.self.now.first c.args.place own) (g.T.RelatedSet.stands c.args.self.now.rest (c.args.place - length xs) own)) (lt-ltb c.args.place (length xs) below) s)))
    c.poll_at.ensures.next

pub returns-else-place-before-clause-next : goal.returns-else-place-before-clause-next
returns-else-place-before-clause-next g c =
    let xs = g.S.RelatedSet.feeds c.args.self.now.first in
    let ys = g.T.RelatedSet.feeds c.args.self.now.rest in
    let above : length xs ≤ c.args.place = omega arith in
    let is : c.args.place - c.count-before.result ≡ c.args.place - length xs = ap (λ n. c.args.place - n) c.count-before.ensures in
    IfOk-weaker c.poll_at-else-place-before.result _ _
    (λ x h own s. subst (λ f. IsRelatedNext f own c.args.now.0 (exchange_of g.K.Resource.type_of x)) (sym (feed-rest xs ys c.args.place above))
    (subst (λ p. IsRelatedNext (feed_at ys p) own c.args.now.0 (exchange_of g.K.Resource.type_of x)) is
    (h own (subst (λ p. g.T.RelatedSet.stands c.args.self.now.rest p own) (sym is)
    (subst (λ b. Either b (g.S.RelatedSet.stands c.args.self.now.first c.args.place own) (g.T.RelatedSet.stands c.args.self.now.rest (c.args.place - length xs) own)) (not-below c.args.place (length xs) above) s)))))
    c.poll_at-else-place-before.ensures.next
