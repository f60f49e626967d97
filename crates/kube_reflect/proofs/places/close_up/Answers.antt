use Rattle.std.proofs.Common.{◌∙◌, ap, set, arith, get_or}
use Rattle.std.proofs.lemmas.List.{get_or_default}
use Rattle.std.proofs.lemmas.List.Edits.{map_over_more}
use Rattle.kube_reflect.specs.Indexes.{closed_up}
use Rattle.kube_reflect.proofs.places.close_up.Goals as goal

pub loop-i-preserved : goal.loop-i-preserved
loop-i-preserved c =
    let x = get_or c.loop-i.places c.loop-i.i 0 in
    ap (set c.loop-i.places c.loop-i.i) c.closed.ensures
    ∙ map_over_more (closed_up c.args.place) c.args.places.now c.loop-i.places c.loop-i.i x (omega arith) c.loop-i.invariant
    (get_or_default c.loop-i.places c.loop-i.i 0 x (omega arith))
