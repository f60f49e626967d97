use Rattle.kube_control.proofs.Firsts.{only-first}
use Rattle.kube_feed.proofs.controller.FedController.watches_with.Goals as goal

pub returns-clause-stands : goal.returns-clause-stands
returns-clause-stands g c first w was is backoff limit debounce = c.beside.ensures.stands first w was (only-first _ c.new-watched.ensures.stands) is backoff limit debounce
