use Rattle.std.proofs.Common.{◌<◌, subst}
use Rattle.std.proofs.lemmas.List.{length-map}
use Rattle.kube_feed.proofs.controller.FedController.with_related.Goals as goal

pub returns-clause-stands : goal.returns-clause-stands
returns-clause-stands g c first w was fresh is backoff limit debounce =
    c.beside.ensures.stands first w was (λ place below. fresh place (subst (λ n. place < n) (length-map c.args.list.items.items g.T.Related.settings) below)) is backoff limit debounce
