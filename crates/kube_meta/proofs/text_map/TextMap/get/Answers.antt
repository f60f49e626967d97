use Rattle.std.proofs.Common.{ap, ◌∙◌}
use Rattle.kube_meta.specs.Pairs.{text_at}
use Rattle.kube_meta.proofs.PairLemmas.{lookup-pairs}
use Rattle.kube_meta.proofs.text_map.TextMap.get.Goals as goal

pub returns : goal.returns
returns c =
    c.get.ensures.value ∙ (lookup-pairs c.args.key.now c.self.inside.inner.entries ∙ ap (text_at c.args.key.now) c.self.view_is)
