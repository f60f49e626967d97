use Rattle.std.proofs.Common.{ap, ◌∙◌, ap₂}
use Rattle.kube_meta.specs.Pairs.{pairs_of, with_pair}
use Rattle.kube_meta.proofs.PairLemmas.{pairs-insert_entry}
use Rattle.kube_meta.proofs.text_map.TextMap.insert.Goals as goal

pub returns-clause-ok : goal.returns-clause-ok
returns-clause-ok c =
    ap pairs_of c.in_ok-insert.ensures.entries
    ∙ (pairs-insert_entry c.self.inside.inner.entries c.in_ok-key.key c.args.text
    ∙ ap₂ (λ k es. with_pair k c.args.text es) c.in_ok-key.ensures.ok c.self.view_is)
