use Rattle.std.proofs.Common.{Some, option_map, sym, ap, ◌∙◌}
use Rattle.serde_json.specs.Data.{object}
use Rattle.serde_json.specs.View.{members_view}
use Rattle.serde_json.proofs.Views.{view-Object}
use Rattle.kube_api.proofs.Parts.{removed_there, removed_nowhere}
use Rattle.kube_api.proofs.change.removed.Goals as goal

pub returns-in-Some : goal.returns-in-Some
returns-in-Some c =
    let found = sym c.remove.ensures.value ∙ c.in-Some.is in
    let taken = ap (option_map object) (removed_there c.args.name.now c.in-Object.members.entries c.in-Some._part found) in
    rw (c.in-Object.is, view-Object c.in-Object.members, view-Object c.remove.new.self) (ap (λ es. Some (object (members_view es))) c.remove.ensures.entries ∙ sym taken)

pub returns-in-Object : goal.returns-in-Object
returns-in-Object c =
    let missing = sym c.remove.ensures.value ∙ c.in-None.is in
    rw (c.in-Object.is, view-Object c.in-Object.members) (sym (ap (option_map object) (removed_nowhere c.args.name.now c.in-Object.members.entries missing)))
