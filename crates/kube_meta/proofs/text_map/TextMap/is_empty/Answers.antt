use Rattle.std.proofs.Common.{sym, ◌∙◌}
use Rattle.kube_meta.proofs.PairLemmas.{no_pairs, no_entries}
use Rattle.kube_meta.proofs.text_map.TextMap.is_empty.Goals as goal

pub returns : goal.returns
returns c =
    let es = c.self.inside.inner.entries in
    (λ yes. sym c.self.view_is ∙ no_pairs es (c.is_empty.ensures.0 yes), λ none. c.is_empty.ensures.1 (no_entries es (c.self.view_is ∙ none)))
