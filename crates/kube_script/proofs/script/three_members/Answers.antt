use Rattle.std.proofs.Common.{ap, ◌∙◌, sym, option_map}
use Rattle.serde_json.specs.Find.{get, get_member}
use Rattle.serde_json.specs.View.{view, members_view}
use Rattle.serde_json.proofs.Views.{view-Object}
use Rattle.kube_meta.specs.Reading.{without}
use Rattle.kube_script.proofs.Members.{removed, get_other, looked_up}
use Rattle.kube_script.proofs.script.three_members.Goals as goal

pub returns-in-Object-clause-one : goal.returns-in-Object-clause-one
returns-in-Object-clause-one c =
    ap (λ o. option_map view o) c.remove-one.ensures.value ∙ looked_up c.args.first.now c.in-Object.members.entries
    ∙ ap (get c.args.first.now) (sym (view-Object c.in-Object.members))
    ∙ ap (λ v. get c.args.first.now (view v)) (sym c.in-Object.is)

pub returns-in-Object-clause-other : goal.returns-in-Object-clause-other
returns-in-Object-clause-other c =
    let second = c.args.second.now in
    let gone = ap members_view c.remove-one.ensures.entries ∙ removed c.args.first.now c.in-Object.members.entries in
    ap (λ o. option_map view o) c.remove-other.ensures.value ∙ looked_up second c.remove-one.new.self.entries ∙ ap (get_member second) gone
    ∙ get_other second c.args.first.now (members_view c.in-Object.members.entries) c.requires.second
    ∙ ap (get second) (sym (view-Object c.in-Object.members))
    ∙ ap (λ v. get second (view v)) (sym c.in-Object.is)

pub returns-in-Object-clause-last : goal.returns-in-Object-clause-last
returns-in-Object-clause-last c =
    let first = c.args.first.now in
    let second = c.args.second.now in
    let third = c.args.third.now in
    let all = members_view c.in-Object.members.entries in
    let gone = ap members_view c.remove-one.ensures.entries ∙ removed first c.in-Object.members.entries in
    let both = ap members_view c.remove-other.ensures.entries ∙ (removed second c.remove-one.new.self.entries ∙ ap (without second) gone) in
    ap (λ o. option_map view o) c.remove-last.ensures.value ∙ looked_up third c.remove-other.new.self.entries ∙ ap (get_member third) both
    ∙ get_other third second (without first all) c.requires.third.1
    ∙ get_other third first all c.requires.third.0
    ∙ ap (get third) (sym (view-Object c.in-Object.members))
    ∙ ap (λ v. get third (view v)) (sym c.in-Object.is)
