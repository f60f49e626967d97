use Rattle.std.proofs.Common.{refl, sym, ap, ◌∙◌}
use Rattle.std.specs.Arc.{arc_value}
use Rattle.kube_watch.specs.Stands.{exchanges_in}
use Rattle.kube_turn.specs.declared.config.Config.{Config}
use Rattle.kube_watch.specs.Streams.{stream_answer}
use Rattle.kube_asks.specs.Roots.{has_name}
use Rattle.kube_fed.specs.Fed.{RootFeeding}
use Rattle.kube_fed.specs.Feedings.{has_ended}
use Rattle.kube_fed.proofs.Determined.{named-too}
use Rattle.kube_feed.proofs.controller.build.FedController+StreamRoot+K+St+NoRelated+DefaultBackoff.for_stream_with.Goals as goal

pub returns-clause-stands : goal.returns-clause-stands
returns-clause-stands g c w is backoff limit debounce =
    c.fed.ensures.stands w (ap (λ (r : RootFeeding _). has_ended r.feeding.standing) c.new-root.ensures) refl
    (λ own at x r r' p. named-too w (has_name g.K.Resource.meta_of) is.named (exchanges_in own) x (stream_answer arc_value p.answer) p.recorded)
    is (backoff ∙ sym c.default.ensures) (limit ∙ sym (ap (λ (k : Config). k.concurrency) c.default-2.ensures)) (debounce ∙ sym (ap (λ (k : Config). k.debounce) c.default-2.ensures))
