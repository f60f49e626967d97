use Rattle.std.proofs.Common.{◌≡◌, ◌++◌, drop, false}
use Rattle.serde_json.specs.View.{items_view, members_view}
use Rattle.serde_json.specs.Written.{items_have_float, members_have_float}
use Rattle.kube_text.specs.Shown.{IsMore, items_left, member_tokens}
use Rattle.kube_text.proofs.value.+values.Given as goal

abbrev pub invariant-show_items-loop-value : goal.invariant-show_items-loop-value
invariant-show_items-loop-value l =
    (l.out.before ≡ l.fn.out.before)
    × (l.out.tokens ++ items_left (items_view (drop l.value-index l.values)) ≡ l.fn.out.tokens ++ items_left (items_view l.values))
    × (items_have_float (items_view (drop l.value-index l.values)) ≡ false)
    × IsMore l.fn.out.tokens l.out.tokens

abbrev pub invariant-show_members-loop-name : goal.invariant-show_members-loop-name
invariant-show_members-loop-name l =
    (l.out.before ≡ l.fn.out.before)
    × (l.out.tokens ++ member_tokens (members_view l.name-iterator) ≡ l.fn.out.tokens ++ member_tokens (members_view l.fn.members.entries))
    × (members_have_float (members_view l.name-iterator) ≡ false)
    × IsMore l.fn.out.tokens l.out.tokens
