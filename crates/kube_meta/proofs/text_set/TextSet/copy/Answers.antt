use Rattle.std.proofs.Common.{◌∙◌}
use Rattle.kube_meta.proofs.TextLemmas.{texts-clone}
use Rattle.kube_meta.proofs.text_set.TextSet.copy.Goals as goal

pub returns : goal.returns
returns c =
    texts-clone c.self.inside.inner.keys c.in_ok-clone.field-0.keys c.in_ok-clone.ensures.cases ∙ c.self.view_is
