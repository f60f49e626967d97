use Rattle.std.proofs.Common.{◌≡◌, drop}
use Rattle.serde_json.specs.View.{items_view, members_view}
use Rattle.kube_meta.specs.Reading.{whole_items, whole_members}
use Rattle.kube_meta.proofs.reading.+whole.Given as goal

abbrev pub invariant-whole_items-loop-index : goal.invariant-whole_items-loop-index
invariant-whole_items-loop-index l = whole_items l.index (items_view (drop l.index l.values)) ≡ whole_items 0 (items_view l.values)

abbrev pub invariant-whole_members-loop-name : goal.invariant-whole_members-loop-name
invariant-whole_members-loop-name l = whole_members (members_view l.name-iterator) ≡ whole_members (members_view l.fn.members.entries)
