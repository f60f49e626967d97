use Rattle.std.proofs.Common.{refl, sym, subst, ap, ◌∙◌, ◌≡◌, length, true}
use Rattle.kube_model.specs.Takes.{has_room}
use Rattle.kube_core.specs.Pendings.{Parts, Stands}
use Rattle.std.proofs.lemmas.Option.{IfSome_then}
use Rattle.kube_core.proofs.PendingSteps.{first-candidate, taken}
use Rattle.kube_core.proofs.pending.Pending.take_candidate.Goals as goal

pub returns-clause-first : goal.returns-clause-first
returns-clause-first g c core qs rs s =
    let type_of = g.K.Resource.type_of in
    let inside : Parts g.row.K.Denot g.row.K-DynamicType.Denot = record { schedule = c.self.inside.schedule; running = c.self.inside.running.entries; limit = c.self.inside.limit } in
    let room : has_room inside.limit (length inside.running) 0 ≡ true =
    ap (λ (p : Parts g.row.K.Denot g.row.K-DynamicType.Denot). has_room p.limit (length p.running) 0) c.self.view_is ∙ (sym c.has_room.ensures ∙ c.if-not-has_room.false) in
    first-candidate type_of core inside c.take_idle.result qs rs room c.take_idle.ensures.first
    (subst (λ p. Stands type_of core p qs rs) (sym c.self.view_is) s)

pub returns-clause-taken : goal.returns-clause-taken
returns-clause-taken g c =
    let type_of = g.K.Resource.type_of in
    IfSome_then c.take_idle.result c.take_idle.ensures.taken
    (λ q h core qs rs s. taken type_of core _ _ q qs rs refl c.take_idle.ensures.debounce refl h (subst (λ p. Stands type_of core p qs rs) (sym c.self.view_is) s))
