use Rattle.std.proofs.Common.{ap}
use Rattle.kube_fed.specs.Fed.{MappedFeeding}
use Rattle.kube_fed.specs.Feedings.{has_ended}
use Rattle.kube_control.proofs.Firsts.{only-first}
use Rattle.kube_control.proofs.controller.Controller.watches_stream_with.Goals as goal

pub returns-clause-stands : goal.returns-clause-stands
returns-clause-stands g c first w was is backoff limit debounce = c.beside.ensures.stands first w was (only-first _ (ap (λ (z : MappedFeeding _ _). has_ended z.feeding.standing) c.new-watched.ensures)) is backoff limit debounce
