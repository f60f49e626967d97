use Rattle.std.proofs.Common.{◌≡◌, List, [], ◌∷◌, ◌++◌, string_bytes, String, Global, refl, sym, ap, ◌∙◌, subst, append_assoc}
use Rattle.std.specs.Fmt.{HasWritten}
use Rattle.kube_meta.specs.Texts.{texts_of}
use Rattle.kube_meta.specs.Selectors.{with_commas}
use Rattle.kube_meta.proofs.TextLemmas.{texts-more}
use Rattle.kube_meta.proofs.Commas.{comma_after, comma-more, comma_written}
use Rattle.kube_meta.proofs.selector.write_set.Goals as goal

pub loop-value-preserved : goal.loop-value-preserved
loop-value-preserved g c =
    let l = c.loop-value in
    let took = g.W.Write.write_str_gives in
    let done : List (String Global) = l.invariant.0 in
    let s : String Global = c.in-Some.value.now in
    let more = texts-more done s in
    let text : c.as_str.result.now ≡ string_bytes s = c.as_str.ensures.value in (
      done ++ s ∷ [],
      l.invariant.1 ∙ ap (λ ss. done ++ ss) c.in-Some.ensures.steps ∙ sym (append_assoc done (s ∷ []) c.next.new.self),
      comma-more (texts_of done) (string_bytes s) ∙ ap comma_after (sym more),
      λ plain.
          let x = l.invariant.3 plain in
          let y = c.in_ok-write_str.ensures.writes x.plain refl in
          let z = c.in_ok-write_str-2.ensures.writes y.plain refl in
          subst (λ ts. HasWritten took c.args.f.now (with_commas ts) c.write_str-in-loop-value.new.self) (sym more)
          (comma_written took _ _ _ _ (texts_of done) _ (string_bytes s) l.invariant.2 x y (subst (λ t. HasWritten took c.write_str.new.self t c.write_str-in-loop-value.new.self) text z)),
    )
