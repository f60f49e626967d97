use Rattle.std.proofs.Common.{◌≡◌, ◌+◌, [], ◌∷◌, ◌++◌, refl, sym, ap, ◌∙◌, subst, take, rules}
use Rattle.std.specs.Fmt.{HasWritten}
use Rattle.kube_meta.specs.Selectors.{with_commas, expression_text, expression_texts}
use Rattle.kube_meta.proofs.Commas.{comma_after, comma-more, comma_written, expressions-more}
use Rattle.kube_meta.proofs.selector.write_expressions.Goals as goal

pub loop-expression-preserved : goal.loop-expression-preserved
loop-expression-preserved g c =
    let l = c.loop-expression in
    let took = g.W.Write.write_str_gives in
    let done = expression_texts (take l.expression-index c.args.expressions.now) in
    let e = c.expression-item.result in
    let more : expression_texts (take (l.expression-index + 1) c.args.expressions.now) ≡ done ++ expression_text e ∷ [] = expressions-more c.args.expressions.now l.expression-index e e c.loop-expression-test.true (search rules) in (
      comma-more done (expression_text e) ∙ ap comma_after (sym more),
      λ plain.
          let x = l.invariant.1 plain in
          let y = c.in_ok-write_str.ensures.writes x.plain refl in
          let z = c.in_ok-write.ensures.writes y.plain refl in
          subst (λ ts. HasWritten took c.args.f.now (with_commas ts) c.write.new.self) (sym more)
          (comma_written took _ _ _ _ done _ (expression_text e) l.invariant.0 x y z),
    )
