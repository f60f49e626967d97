use Rattle.std.proofs.Common.{sym, ap, ◌∙◌}
use Rattle.kube_meta.specs.Keys.{reference_of}
use Rattle.kube_feed.proofs.reads.typed_as.Goals as goal

pub returns : goal.returns
returns g c =
    ap (reference_of g.K.Resource.type_of) c.into_kind_unchecked.ensures
    ∙ ap (λ k. record { kind = k; name = c.args.key.name; namespace = c.args.key.namespace }) (sym (g.met.K.Resource.one_type _ _ c.in_ok-dyntype.ensures))
