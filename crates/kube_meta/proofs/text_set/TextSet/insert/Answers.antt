use Rattle.std.proofs.Common.{ap, ◌∙◌, ap₂}
use Rattle.kube_meta.specs.Texts.{texts_of, with_text}
use Rattle.kube_meta.proofs.TextLemmas.{texts-insert_key}
use Rattle.kube_meta.proofs.text_set.TextSet.insert.Goals as goal

pub returns-clause-ok : goal.returns-clause-ok
returns-clause-ok c =
    ap texts_of c.in_ok-insert.ensures.keys
    ∙ (texts-insert_key c.self.inside.inner.keys c.in_ok-text.text
    ∙ ap₂ with_text c.in_ok-text.ensures.ok c.self.view_is)
