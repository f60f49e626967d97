use Rattle.std.proofs.Common.{ap, ◌∙◌, sym, option_map}
use Rattle.serde_json.specs.Find.{get, get_member}
use Rattle.serde_json.specs.View.{view, members_view}
use Rattle.serde_json.proofs.Views.{view-Object}
use Rattle.kube_script.proofs.Members.{removed, get_other, looked_up}
use Rattle.kube_script.proofs.script.two_members.Goals as goal

pub returns-in-Object-clause-one : goal.returns-in-Object-clause-one
returns-in-Object-clause-one c =
    ap (λ o. option_map view o) c.remove-one.ensures.value ∙ looked_up c.args.first.now c.in-Object.members.entries
    ∙ ap (get c.args.first.now) (sym (view-Object c.in-Object.members))
    ∙ ap (λ v. get c.args.first.now (view v)) (sym c.in-Object.is)

pub returns-in-Object-clause-other : goal.returns-in-Object-clause-other
returns-in-Object-clause-other c =
    let second = c.args.second.now in
    let gone = ap members_view c.remove-one.ensures.entries ∙ removed c.args.first.now c.in-Object.members.entries in
    ap (λ o. option_map view o) c.remove-other.ensures.value ∙ looked_up second c.remove-one.new.self.entries ∙ ap (get_member second) gone
    ∙ get_other second c.args.first.now (members_view c.in-Object.members.entries) c.requires
    ∙ ap (get second) (sym (view-Object c.in-Object.members))
    ∙ ap (λ v. get second (view v)) (sym c.in-Object.is)
