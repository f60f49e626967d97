use Rattle.std.proofs.Common.{◌≡◌, ◌∙◌, ◌++◌, ◌∷◌, true, string_bytes, string_cmp, ap, sym, subst}
use Rattle.std.specs.List.Sorted.{IsStrictlySortedBy}
use Rattle.std.specs.Map.{keys_of}
use Rattle.serde_json.specs.View.{view, members_view}
use Rattle.serde_json.specs.Written.{has_float, members_have_float}
use Rattle.kube_meta.specs.Reading.{others}
use Rattle.kube_meta.specs.Writing.{with_fields}
use Rattle.kube_text.specs.Fields.{left, is_named}
use Rattle.kube_text.specs.Shown.{member_tokens}
use Rattle.kube_text.proofs.Content.{Entry, kept_entry, sorted_rest, dropped_entry}
use Rattle.kube_text.proofs.Numbers.{neither}
use Rattle.kube_text.proofs.Fronts.{due_shown, more_yet}
use Rattle.kube_model.proofs.Results.{on_err}
use Rattle.kube_text.proofs.object.show_content_members.Goals as goal

pub loop-name-preserved-then-not-is_named : goal.loop-name-preserved-then-not-is_named
loop-name-preserved-then-not-is_named c =
    let l = c.loop-name in
    let o = c.args.object.now in
    let e : Entry = (c.in-Some.name.now, c.in-Some.value.now) in
    let es = c.next.new.self in
    let steps : l.name-iterator ≡ e ∷ es = c.in-Some.ensures.steps in
    let name = c.as_str-then-not-is_named.result.now in
    let is = c.as_str-then-not-is_named.ensures.value in
    let shown = kept_entry name e l.name-iterator es steps is (ap is_named (is ∙ sym c.as_str.ensures.value) ∙ sym c.if-not-is_named.ensures) in (
      c.in_ok-next.ensures.before ∙ l.invariant.0,
      sym (c.in_ok-next.ensures.members (others (members_view es)))
          ∙ ap (λ ms. l.out.tokens ++ member_tokens (with_fields (left l.next o) ms)) (sym shown)
          ∙ l.invariant.1,
      (neither (has_float (view e.1)) (members_have_float (members_view es)) (ap (λ xs. members_have_float (members_view xs)) (sym steps) ∙ l.invariant.2)).1,
      sorted_rest e es (subst (λ xs. IsStrictlySortedBy string_cmp (keys_of xs)) steps l.invariant.3),
      more_yet _ _ _ l.invariant.4 c.in_ok-next.ensures.more,
    )

pub loop-name-preserved : goal.loop-name-preserved
loop-name-preserved c =
    let l = c.loop-name in
    let o = c.args.object.now in
    let e : Entry = (c.in-Some.name.now, c.in-Some.value.now) in
    let es = c.next.new.self in
    let steps : l.name-iterator ≡ e ∷ es = c.in-Some.ensures.steps in
    let named : is_named (string_bytes e.0) ≡ true = ap is_named (sym c.as_str.ensures.value) ∙ sym c.if-not-is_named.ensures in
    let sorted = subst (λ xs. IsStrictlySortedBy string_cmp (keys_of xs)) steps l.invariant.3 in (
      l.invariant.0,
      ap (λ ms. l.out.tokens ++ member_tokens (with_fields (left l.next o) ms)) (sym (ap (λ xs. others (members_view xs)) steps ∙ dropped_entry e es sorted named))
          ∙ l.invariant.1,
      (neither (has_float (view e.1)) (members_have_float (members_view es)) (ap (λ xs. members_have_float (members_view xs)) (sym steps) ∙ l.invariant.2)).1,
      sorted_rest e es sorted,
      l.invariant.4,
    )

pub returns-clause-members : goal.returns-clause-members
unfolding others
returns-clause-members c =
    let l = c.loop-name in
    let o = c.args.object.now in
    sym l.invariant.1 ∙ ap (λ xs. l.out.tokens ++ member_tokens (with_fields (left l.next o) (others (members_view xs)))) c.in-None.ensures.steps.0

pub returns-in_err-next-clause-front : goal.returns-in_err-next-clause-front
returns-in_err-next-clause-front c =
    let l = c.loop-name in
    let o = c.args.object.now in
    let e : Entry = (c.in-Some.name.now, c.in-Some.value.now) in
    let es = c.next.new.self in
    let steps : l.name-iterator ≡ e ∷ es = c.in-Some.ensures.steps in
    let name = c.as_str-then-not-is_named.result.now in
    let is = c.as_str-then-not-is_named.ensures.value in
    let shown = kept_entry name e l.name-iterator es steps is (ap is_named (is ∙ sym c.as_str.ensures.value) ∙ sym c.if-not-is_named.ensures) in
    on_err _ _
    (due_shown _ _ _ _ _ l.invariant.4 (sym l.invariant.1 ∙ ap (λ ms. l.out.tokens ++ member_tokens (with_fields (left l.next o) ms)) shown) (c.in_err-next.ensures.front (others (members_view es))))

pub returns-clause-more : goal.returns-clause-more
returns-clause-more c =
    c.loop-name.invariant.4
