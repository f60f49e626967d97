use Rattle.std.proofs.Common.{◌<◌, ◌≤◌, ◌∙◌, ap, length, set, Some, arith}
use Rattle.std.specs.Prelude.{is_some}
use Rattle.std.specs.List.{prefix_len}
use Rattle.kube_reflect.proofs.Lagging.{placed-at, placed-behind}
use Rattle.kube_reflect.proofs.lags.write.Goals as goal

pub returns-then-number-len : goal.returns-then-number-len
returns-then-number-len c =
    let old = c.args.places.now.items in
    let h : prefix_len is_some c.args.places.now.items < length c.args.places.now.items = omega arith in
    ap (λ i. set old i (Some c.args.lag)) c.requires.number ∙ placed-at old c.args.lag h

pub returns-else-number-len : goal.returns-else-number-len
returns-else-number-len c =
    let old = c.args.places.now.items in
    let h : length c.args.places.now.items ≤ prefix_len is_some c.args.places.now.items = omega arith in
    c.push_reserved.ensures.items ∙ placed-behind old c.args.lag h
