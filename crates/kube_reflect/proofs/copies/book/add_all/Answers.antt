use Rattle.std.proofs.Common.{◌++◌, ◌∷◌, [], length, slice_index_or, refl, ap, sym, subst, ◌∙◌, arith}
use mathlib.Core.List.{IsPrefix}
use Rattle.kube_reflect.specs.declared.copies.law.Entry.TheVariants.{End}
use Rattle.kube_reflect.specs.Once.{head_of}
use Rattle.kube_reflect.proofs.Fronts.{prefix_next}
use Rattle.kube_reflect.proofs.copies.book.add_all.Goals as goal

pub loop-mark-preserved : goal.loop-mark-preserved
loop-mark-preserved g c =
    let mine = c.loop-mark.mark in
    let whole = c.args.all.now in
    let inv = c.loop-mark.invariant in
    let a = mine.fits in
    let b = whole.fits in
    let lt = c.loop-mark-test.true in
    let p : IsPrefix (mine.seen.log ++ slice_index_or whole.seen.log (length mine.seen.log) End ∷ []) whole.seen.log =
    prefix_next mine.seen.log whole.seen.log End inv.begun (omega arith) in
    let q : IsPrefix (mine.seen.log ++ slice_index_or whole.seen.log mine.len End ∷ []) whole.seen.log =
    subst (λ n. IsPrefix (mine.seen.log ++ slice_index_or whole.seen.log n End ∷ []) whole.seen.log) (sym a) p in
    record {
      head = inv.head ∙ sym (ap head_of c.add_next.ensures.0);
      all = refl;
      book = c.add_next.ensures.0 ∙ inv.book;
      begun = subst (λ log. IsPrefix log whole.seen.log) (sym c.add_next.ensures.1) q;
    }
