use Rattle.std.proofs.Common.{ap, ◌∙◌, is_some}
use Rattle.kube_model.specs.declared.call.Answer.TheVariants.{Bookmark}
use Rattle.kube_watch.proofs.Annotations.{some-text_at, some-copied}
use Rattle.kube_watch.proofs.calls.bookmark.Goals as goal

pub returns : goal.returns
returns c =
    ap (Bookmark c.args.bookmark.version)
    (c.is_some-ending.ensures ∙ (some-copied c.get.result ∙ (ap is_some c.get.ensures ∙ some-text_at _ c.args.bookmark.annotations)))
