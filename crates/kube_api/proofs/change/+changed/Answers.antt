use Rattle.std.proofs.Common.{◌≡◌, Some, None, option_map, option_and_then, get_or, sym, ap, ap₂, ◌∙◌, arith, rules}
use Rattle.std.proofs.lemmas.Result.{IfOk-weaker}
use Rattle.std.specs.Map.{set_value}
use Rattle.std.specs.Option.{option_copied_mut}
use Rattle.serde_json.specs.View.{view, items_view, members_view}
use Rattle.kube_api.specs.Changes.{change_of}
use Rattle.kube_api.specs.Patches.{changed_by, changed_part, changed_item}
use Rattle.kube_api.proofs.Parts.{at, changed_there, changed_nowhere, item_changed, item_missing, set_twice, further, all_behind}
use Rattle.kube_api.proofs.change.+changed.Goals as goal

pub change_item-returns-then-len-i : goal.change_item-returns-then-len-i
change_item-returns-then-len-i n c =
    let f = changed_by (change_of c.args.change) c.args.rest.now in
    let items = c.args.items.now.items in
    let found = sym c.index.ensures ∙ c.in-Some.is in
    sym (ap (option_and_then (λ i. changed_item f i (items_view items))) found ∙ item_missing f items c.in-Some.i (omega (arith, c.if-len-i.true, c.len.ensures)))

pub change_item-returns-in_default-2 : goal.change_item-returns-in_default-2
change_item-returns-in_default-2 n c =
    let f = changed_by (change_of c.args.change) c.args.rest.now in
    let items = c.args.items.now.items in
    let before = c.replace-before.result in
    let found = sym c.index.ensures ∙ c.in-Some.is in
    let there : get_or items c.in-Some.i before ≡ before = search rules in
    let made = ap (λ v. f (view v)) there ∙ sym c.in_ok-after.ensures ∙ ap (option_map view) c.in_default-2.is in
    sym (ap (option_and_then (λ i. changed_item f i (items_view items))) found ∙ item_changed f items c.in-Some.i before None (omega (arith, c.if-len-i.false, c.len.ensures)) made)

pub change_item-returns : goal.change_item-returns
change_item-returns n c =
    let f = changed_by (change_of c.args.change) c.args.rest.now in
    let items = c.args.items.now.items in
    let before = c.replace-before.result in
    let found = sym c.index.ensures ∙ c.in-Some.is in
    let there : get_or items c.in-Some.i before ≡ before = search rules in
    let made = ap (λ v. f (view v)) there ∙ sym c.in_ok-after.ensures ∙ ap (option_map view) c.in-Some-2.is in
    let changed = ap (option_and_then (λ i. changed_item f i (items_view items))) found ∙ item_changed f items c.in-Some.i before (Some c.in-Some-2.after) (omega (arith, c.if-len-i.false, c.len.ensures)) made in
    ap (λ xs. Some (items_view xs)) (set_twice items c.in-Some.i _ c.in-Some-2.after) ∙ sym changed

pub change_member-returns-in_default : goal.change_member-returns-in_default
change_member-returns-in_default n c =
    let missing = sym c.get_mut.ensures.value ∙ ap option_copied_mut c.in_default.is in
    sym (changed_nowhere (changed_by (change_of c.args.change) c.args.rest.now) c.args.name.now c.args.members.now.entries missing)

pub change_member-returns-in_default-2 : goal.change_member-returns-in_default-2
change_member-returns-in_default-2 n c =
    let f = changed_by (change_of c.args.change) c.args.rest.now in
    let found = sym c.get_mut.ensures.value ∙ ap option_copied_mut c.in-Some.is ∙ ap Some (sym c.replace-before.ensures.value) in
    let made = sym c.in_ok-after.ensures ∙ ap (option_map view) c.in_default-2.is in
    sym (changed_there f c.args.name.now c.args.members.now.entries c.replace-before.result None made found)

pub change_member-returns : goal.change_member-returns
change_member-returns n c =
    let f = changed_by (change_of c.args.change) c.args.rest.now in
    let entries = c.args.members.now.entries in
    let found = sym c.get_mut.ensures.value ∙ ap option_copied_mut c.in-Some.is ∙ ap Some (sym c.replace-before.ensures.value) in
    let made = sym c.in_ok-after.ensures ∙ ap (option_map view) c.in-Some-2.is in
    let written : (c.get_mut.follows.lender c.in-Some-2.after).entries ≡ set_value (at c.args.name.now) entries c.in-Some-2.after = search rules in
    ap (λ es. Some (members_view es)) written ∙ sym (changed_there f c.args.name.now entries c.replace-before.result (Some c.in-Some-2.after) made found)

pub changed-returns-in-len1-up : goal.changed-returns-in-len1-up
changed-returns-in-len1-up n c =
    let name : c.as_str-in-len1-up.result.now ≡ get_or c.args.names.now 0 c.as_str-in-len1-up.result.now = search rules in
    let more = further (change_of c.args.change) c.args.names.now c.as_str-in-len1-up.result.now (view c.args.value) c.in-len1-up.len_at_least in
    let part = ap₂ (λ rest name. changed_part (changed_by (change_of c.args.change) rest) name (view c.args.value)) (all_behind c.args.names.now) name in
    IfOk-weaker c.changed_within.result _ _ (λ v e. e ∙ part ∙ more) c.changed_within.ensures
