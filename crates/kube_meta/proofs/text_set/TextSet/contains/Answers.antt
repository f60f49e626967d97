use Rattle.std.proofs.Common.{ap, ◌∙◌}
use Rattle.kube_meta.specs.Texts.{is_among}
use Rattle.kube_meta.proofs.TextLemmas.{any-texts}
use Rattle.kube_meta.proofs.text_set.TextSet.contains.Goals as goal

pub returns : goal.returns
returns c =
    c.contains.ensures ∙ (any-texts c.args.text.now c.self.inside.inner.keys ∙ ap (is_among c.args.text.now) c.self.view_is)
