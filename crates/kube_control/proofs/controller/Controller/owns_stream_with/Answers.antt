use Rattle.std.proofs.Common.{sym, ap, ◌∙◌}
use Rattle.kube_fed.specs.Fed.{MappedFeeding}
use Rattle.kube_fed.specs.Feedings.{has_ended}
use Rattle.kube_control.proofs.Firsts.{only-first}
use Rattle.kube_control.proofs.controller.Controller.owns_stream_with.Goals as goal

pub returns-clause-stands : goal.returns-clause-stands
returns-clause-stands g c first w was is backoff limit debounce = c.beside.ensures.stands first w was (only-first _ (ap (λ (z : MappedFeeding _ _). has_ended z.feeding.standing) c.new-owned.ensures)) is backoff limit debounce

pub returns-clause-owners : goal.returns-clause-owners
returns-clause-owners g c =
    let type_of = g.R.Object.Resource.type_of in
    ap (λ u. type_of u.rest.0.mapper.dyntype) c.beside.ensures.related
    ∙ (ap (λ (z : MappedFeeding _ _). type_of z.mapper.dyntype) c.new-owned.ensures
    ∙ (sym (g.met.R.Object.Resource.one_type c.dyntype.result.now c.in_ok-dyntype.dyntype c.in_ok-dyntype.ensures)
    ∙ (c.dyntype.ensures ∙ ap (λ s. g.R.RootSource.kind s.asks.root) c.self.view_is)))
