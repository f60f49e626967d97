use Rattle.std.proofs.Common.{◌++◌, ◌<◌, ◌∙◌, ap, arith, length, sym}
use Rattle.serde_json.specs.Data.{member}
use Rattle.serde_json.specs.View.{view, items_view, members_view}
use Rattle.kube_text.specs.Shown.{items_left, member_tokens}
use Rattle.kube_text.proofs.Fronts.{due_shown, left_front, none_shown, value_front}
use Rattle.kube_text.proofs.Lines.{next_of}
use Rattle.kube_model.proofs.Results.{on_err}
use Rattle.kube_text.proofs.value.+values.Goals as goal

pub show_items-returns-in_err-show_value-clause-front : goal.show_items-returns-in_err-show_value-clause-front
show_items-returns-in_err-show_value-clause-front t c =
    let l = c.loop-value in
    let xs = c.args.values.now in
    let more : l.value-index < length xs = omega arith in
    let steps = ap (λ vs. l.out.tokens ++ items_left (items_view vs)) (sym (next_of xs l.value-index c.value-item.result more c.value-item.is)) in
    on_err _ _ (left_front _ _ _ _ _ _ l.invariant.3 (steps ∙ l.invariant.1) c.in_err-show_value.ensures.front)

pub show_items-returns-in_err-end_array-clause-front : goal.show_items-returns-in_err-end_array-clause-front
show_items-returns-in_err-end_array-clause-front t c =
    let l = c.loop-value in
    on_err _ _ (due_shown _ _ _ _ _ l.invariant.3 (sym l.invariant.1) (none_shown _ _ _ c.in_err-end_array.ensures.err))

pub show_members-returns-in_err-key-clause-front : goal.show_members-returns-in_err-key-clause-front
show_members-returns-in_err-key-clause-front t c =
    let l = c.loop-name in
    on_err _ _ (due_shown _ _ _ _ _ l.invariant.3 (sym l.invariant.1) (none_shown _ _ _ c.in_err-key.ensures.err))

pub show_members-returns-in_err-show_value-clause-front : goal.show_members-returns-in_err-show_value-clause-front
show_members-returns-in_err-show_value-clause-front t c =
    let l = c.loop-name in
    let steps = ap (λ es. l.out.tokens ++ member_tokens (members_view es)) c.in-Some.ensures.steps in
    let named = ap (λ n. l.out.tokens ++ member_tokens (member n (view c.in-Some.value.now) (members_view c.next.new.self))) (sym c.as_str.ensures.value) in
    on_err _ _ (due_shown _ _ _ _ _ l.invariant.3 (sym l.invariant.1 ∙ steps ∙ named) (value_front _ _ _ _ _ _ c.in_ok-key.ensures.ok c.in_err-show_value.ensures.front))

pub show_members-returns-in_err-end_object-clause-front : goal.show_members-returns-in_err-end_object-clause-front
show_members-returns-in_err-end_object-clause-front t c =
    let l = c.loop-name in
    on_err _ _ (due_shown _ _ _ _ _ l.invariant.3 (sym l.invariant.1) (none_shown _ _ _ c.in_err-end_object.ensures.err))
