use Rattle.std.proofs.Common.{◌++◌, ◌<◌, ◌∙◌, arith, ap, length, map, sym}
use Rattle.kube_text.specs.Shown.{item_tokens}
use Rattle.kube_text.proofs.Fronts.{due_shown, item_front, list_front, none_shown}
use Rattle.kube_text.proofs.Lines.{next_of}
use Rattle.kube_model.proofs.Results.{on_err}
use Rattle.kube_text.proofs.show.ListShow.show.Goals as goal

pub returns-in_err-show-clause-front : goal.returns-in_err-show-clause-front
returns-in_err-show-clause-front g c =
    let l = c.loop-value in
    let xs = c.as_slice-value-items.result.now in
    let more : l.value-index < length xs = omega arith in
    rw (sym c.as_slice-value-items.ensures)
    (on_err _ _ (list_front _ _ _ _ c.in_ok-begin_array.ensures.ok
    (item_front _ _ _ _ _ _ l.invariant.2
    (ap (λ ys. l.out.tokens ++ item_tokens (map g.T.Show.data_of (map g.T.Show.seen ys))) (sym (next_of xs l.value-index c.value-item.result more c.value-item.is)) ∙ l.invariant.1)
    c.in_err-show.ensures.front)))

pub returns-in_err-end_array-clause-front : goal.returns-in_err-end_array-clause-front
returns-in_err-end_array-clause-front g c =
    let l = c.loop-value in
    rw (sym c.as_slice-value-items.ensures)
    (on_err _ _ (list_front _ _ _ _ c.in_ok-begin_array.ensures.ok
    (due_shown _ _ _ _ _ l.invariant.2 (sym l.invariant.1) (none_shown _ _ _ c.in_err-end_array.ensures.err))))
