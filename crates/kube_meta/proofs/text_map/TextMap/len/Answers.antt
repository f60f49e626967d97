use Rattle.std.proofs.Common.{length, sym, ap, ◌∙◌}
use Rattle.kube_meta.proofs.PairLemmas.{length-pairs}
use Rattle.kube_meta.proofs.text_map.TextMap.len.Goals as goal

pub returns : goal.returns
returns c = c.len.ensures.len ∙ sym (length-pairs c.self.inside.inner.entries) ∙ ap length c.self.view_is
