use Rattle.std.proofs.Common.{◌∙◌}
use Rattle.kube_text.proofs.Lines.{value_held}
use Rattle.kube_text.proofs.pieces.add_value.Goals as goal

pub returns : goal.returns
returns g c =
    value_held c.into_inner.result.items c.args.line.items c.show.new.out.before c.new-out.result.tokens c.show.new.out.tokens (g.T.Show.data_of (g.T.Show.seen c.args.value.now))
    c.into_inner.ensures.items (c.in_ok-show.ensures.before ∙ c.new-out.ensures.before) c.new-out.ensures.tokens c.in_ok-show.ensures.tokens
