use Rattle.std.proofs.Common.{◌≡◌, ◌++◌, false, string_cmp}
use Rattle.std.specs.List.Sorted.{IsStrictlySortedBy}
use Rattle.std.specs.Map.{keys_of}
use Rattle.serde_json.specs.View.{members_view}
use Rattle.serde_json.specs.Written.{members_have_float}
use Rattle.kube_meta.specs.Reading.{others}
use Rattle.kube_meta.specs.Writing.{with_fields}
use Rattle.kube_text.specs.Fields.{left}
use Rattle.kube_text.specs.Shown.{IsMore, member_tokens}
use Rattle.kube_text.specs.declared.object.Next.TheVariants as nexts
use Rattle.kube_text.proofs.object.show_content_members.Given as goal

abbrev pub invariant-loop-name : goal.invariant-loop-name
invariant-loop-name l =
    (l.out.before ≡ l.fn.out.before)
    × (l.out.tokens ++ member_tokens (with_fields (left l.next l.fn.object) (others (members_view l.name-iterator)))
    ≡ l.fn.out.tokens ++ member_tokens (with_fields (left nexts.ApiVersion l.fn.object) (others (members_view l.fn.members.entries))))
    × (members_have_float (members_view l.name-iterator) ≡ false)
    × IsStrictlySortedBy string_cmp (keys_of l.name-iterator)
    × IsMore l.fn.out.tokens l.out.tokens
