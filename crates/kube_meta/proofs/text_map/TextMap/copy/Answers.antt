use Rattle.std.proofs.Common.{◌∙◌}
use Rattle.kube_meta.proofs.PairLemmas.{pairs-clone}
use Rattle.kube_meta.proofs.text_map.TextMap.copy.Goals as goal

pub returns : goal.returns
returns c =
    pairs-clone c.self.inside.inner.entries c.in_ok-clone.field-0.entries c.in_ok-clone.ensures.cases ∙ c.self.view_is
