use Rattle.std.proofs.Common.{◌||◌, ◌&&◌, ◌==◌, length, ap, ◌∙◌}
use Rattle.kube_model.specs.Shutdowns.{is_forced}
use Rattle.kube_feed.proofs.turn.is_last.Goals as goal

pub returns : goal.returns
returns g c core qs rs s =
    let shut = c.args.parts.now.shut in
    c.is_end.ensures
    ∙ (ap (λ b. b || shut && (c.running_len.result == 0) || c.has_failed.result) c.is_forced.ensures
    ∙ (ap (λ n. is_forced c.args.shutdown || shut && (n == 0) || c.has_failed.result) (c.running_len.ensures core qs rs s)
    ∙ ap (λ b. is_forced c.args.shutdown || shut && (length rs == 0) || b) c.has_failed.ensures))
