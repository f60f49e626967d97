use Rattle.std.proofs.Common.{Some, ap, ◌∙◌}
use Rattle.serde_json.specs.Data.{object, put}
use Rattle.serde_json.specs.View.{view, members_view}
use Rattle.serde_json.proofs.Views.{view-Object, members_view-insert_entry}
use Rattle.kube_api.proofs.change.added.Goals as goal

pub returns-in-Object : goal.returns-in-Object
returns-in-Object c =
    let entries = c.in-Object.members.entries in
    let inserted = ap members_view c.in_ok-insert-in-Object.ensures.entries ∙ members_view-insert_entry entries c.in_ok-name-in-Object.name c.args.part ∙ ap (λ k. put k (view c.args.part) (members_view entries)) c.in_ok-name-in-Object.ensures.ok in
    rw (c.in-Object.is, view-Object c.in-Object.members, view-Object c.insert.new.self) (ap (λ ms. Some (object ms)) inserted)
