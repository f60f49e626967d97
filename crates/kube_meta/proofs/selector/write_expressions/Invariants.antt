use Rattle.std.proofs.Common.{◌≡◌, take}
use Rattle.std.specs.Fmt.{HasWritten, IsPlainFormatter}
use Rattle.kube_meta.specs.Selectors.{with_commas, expression_texts}
use Rattle.kube_meta.proofs.Commas.{comma_after}
use Rattle.kube_meta.proofs.selector.write_expressions.Given as goal

abbrev pub invariant-loop-expression : goal.invariant-loop-expression
invariant-loop-expression g l =
    let done = expression_texts (take l.expression-index l.expressions) in
    (l.separator ≡ comma_after done) × (IsPlainFormatter l.initial.f → HasWritten g.W.Write.write_str_gives l.initial.f (with_commas done) l.f)
