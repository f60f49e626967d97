use Rattle.std.proofs.Common.{◌≤◌, ◌<◌, ◌+◌, ◌-◌, ◌++◌, length, take, replicate, slice_set, if◌then◌else◌, true, false, Vec, Global, Bool, ap, ◌∙◌, arith}
use Rattle.kube_asks.proofs.Marks.{mark-set, mark-grown}
use Rattle.kube_asks.proofs.asks.mark.Goals as goal
use Rattle.kube_asks.proofs.asks.mark.Goals.{then-len-place, else-len-place}

pub returns-clause-marked : goal.returns-clause-marked
returns-clause-marked c =
    let marks = c.args.marks.now in
    let source = c.args.source in
    elim c.if-len-place.branch [
      | then-len-place w ↦
          let above : marks.len ≤ source = omega (arith, c.len.ensures, w.if-len-place.true) in
          let grown = take (source + 1) marks.items ++ replicate ((source + 1) - marks.len) false in
          ap (λ (v : Vec Bool Global). slice_set v.items source true) w.marks-is
          ∙ (ap (λ ms. slice_set ms source true) (w.resize-grown.ensures.items ∙ ap (λ b. if b then grown else marks.items) (w.resize-grown.ensures.succeeds (omega (arith, c.requires))))
          ∙ mark-grown marks.items marks.len source marks.ok.0 above)
      | else-len-place w ↦
          let below : source < length marks.items = omega (arith, c.len.ensures, w.if-len-place.false, marks.ok.0) in
          ap (λ (v : Vec Bool Global). slice_set v.items source true) w.marks-is ∙ mark-set marks.items source below
    ]
