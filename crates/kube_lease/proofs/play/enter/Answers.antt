use Rattle.std.proofs.Common.{◌<◌, length, sym, ◌∙◌, arith}
use Rattle.kube_lease.proofs.Standings.{entrant_there}
use Rattle.kube_lease.proofs.play.enter.Goals as goal

-- no id is empty
pub new-requires : goal.new-requires
new-requires c e =
    let l : c.loop-entrant.entrant-index < length c.args.candidates.now = omega arith in
    c.requires.named c.loop-entrant.entrant-index c.entrant-item.result (entrant_there c.loop-entrant.entrant-index c.args.candidates.now c.entrant-item.result l c.entrant-item.is) (sym c.as_str-id.ensures ∙ e)
