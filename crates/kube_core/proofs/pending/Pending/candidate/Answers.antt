use Rattle.std.proofs.Common.{sym, subst, ap, ◌∙◌, ◌≡◌, length, true, option_copied}
use Rattle.kube_model.specs.Takes.{has_room}
use Rattle.kube_core.specs.Pendings.{Parts, Stands}
use Rattle.kube_core.proofs.PendingSteps.{first-candidate}
use Rattle.kube_core.proofs.pending.Pending.candidate.Goals as goal

pub returns : goal.returns
returns g c core qs rs s =
    let type_of = g.K.Resource.type_of in
    let inside : Parts g.row.K.Denot g.row.K-DynamicType.Denot = record { schedule = c.self.inside.schedule; running = c.self.inside.running.entries; limit = c.self.inside.limit } in
    let room : has_room inside.limit (length inside.running) 0 ≡ true =
    ap (λ (p : Parts g.row.K.Denot g.row.K-DynamicType.Denot). has_room p.limit (length p.running) 0) c.self.view_is ∙ (sym c.has_room.ensures ∙ c.if-not-has_room.false) in
    first-candidate type_of core inside (option_copied c.first_idle.result) qs rs room c.first_idle.ensures
    (subst (λ p. Stands type_of core p qs rs) (sym c.self.view_is) s)
