use Rattle.std.proofs.Common.{◌∙◌}
use Rattle.kube_text.proofs.Lines.{name_held}
use Rattle.kube_text.proofs.pieces.add_name.Goals as goal

pub returns : goal.returns
returns c =
    name_held c.into_inner.result.items c.args.line.items c.in_ok-line.line.items c.key.new.self.before c.args.is_later c.new-out.result.tokens c.key.new.self.tokens c.args.name.now
    c.into_inner.ensures.items (c.in_ok-key.ensures.room.0 ∙ c.new-out.ensures.before) c.new-out.ensures.tokens c.in_ok-key.ensures.ok c.in_ok-line.ensures
