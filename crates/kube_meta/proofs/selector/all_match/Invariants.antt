use Rattle.std.proofs.Common.{◌≡◌, drop}
use Rattle.kube_meta.specs.Selectors.{selects}
use Rattle.kube_meta.proofs.selector.all_match.Given as goal

abbrev pub invariant-loop-expression : goal.invariant-loop-expression
invariant-loop-expression l = selects (drop l.expression-index l.expressions) l.labels ≡ selects l.expressions l.labels
