use Rattle.std.proofs.Common.{refl, sym, subst, ap, ◌∙◌, ◌≡◌, length, true, Some, option_copied, option_map}
use Rattle.indexmap.specs.IndexMap.{insert_entry}
use Rattle.kube_meta.specs.Keys.{reference_of}
use Rattle.kube_meta.specs.Reference.{same_reference}
use Rattle.kube_model.specs.Takes.{has_room}
use Rattle.kube_turn.specs.Views.{message_of}
use Rattle.kube_core.specs.Pendings.{Parts, Stands, FirstIs}
use Rattle.kube_core.proofs.PendingSteps.{first-candidate, with-places, begun}
use Rattle.kube_core.proofs.pending.Pending.start_candidate.Goals as goal

pub returns-in_default-clause-first : goal.returns-in_default-clause-first
returns-in_default-clause-first g c core qs rs s =
    let type_of = g.K.Resource.type_of in
    let inside : Parts g.row.K.Denot g.row.K-DynamicType.Denot = record { schedule = c.self.inside.schedule; running = c.self.inside.running.entries; limit = c.self.inside.limit } in
    let room : has_room inside.limit (length inside.running) 0 ≡ true =
    ap (λ (p : Parts g.row.K.Denot g.row.K-DynamicType.Denot). has_room p.limit (length p.running) 0) c.self.view_is ∙ (sym c.has_room.ensures ∙ c.if-not-has_room.false) in
    ap (λ o. option_map (message_of type_of) (option_copied o)) (sym c.in_default.is)
    ∙ first-candidate type_of core inside (option_copied c.first_idle.result) qs rs room c.first_idle.ensures
    (subst (λ p. Stands type_of core p qs rs) (sym c.self.view_is) s)

pub returns-in_default-take_idle-clause-first : goal.returns-in_default-take_idle-clause-first
returns-in_default-take_idle-clause-first g c core qs rs s =
    let type_of = g.K.Resource.type_of in
    let inside : Parts g.row.K.Denot g.row.K-DynamicType.Denot = record { schedule = c.self.inside.schedule; running = c.self.inside.running.entries; limit = c.self.inside.limit } in
    let room : has_room inside.limit (length inside.running) 0 ≡ true =
    ap (λ (p : Parts g.row.K.Denot g.row.K-DynamicType.Denot). has_room p.limit (length p.running) 0) c.self.view_is ∙ (sym c.has_room.ensures ∙ c.if-not-has_room.false) in
    let roomy : Parts g.row.K.Denot g.row.K-DynamicType.Denot = record { schedule = c.reserve-2.new.self; running = c.reserve.new.self.entries; limit = c.self.inside.limit } in
    let same : roomy.running ≡ inside.running = c.in_ok-reserve.ensures.entries in
    let still : has_room roomy.limit (length roomy.running) 0 ≡ true = ap (λ es. has_room inside.limit (length es) 0) same ∙ room in
    let z : Stands type_of core roomy qs rs = with-places type_of core inside roomy qs rs refl c.in_ok-reserve-2.ensures.same same
    (subst (λ p. Stands type_of core p qs rs) (sym c.self.view_is) s) in
    ap (option_map (message_of type_of)) (sym c.in_default-take_idle.is) ∙ first-candidate type_of core roomy c.take_idle.result qs rs still c.take_idle.ensures.first z

pub returns-in_default-take_idle-clause-none : goal.returns-in_default-take_idle-clause-none
returns-in_default-take_idle-clause-none g c core qs rs s =
    let type_of = g.K.Resource.type_of in
    let inside : Parts g.row.K.Denot g.row.K-DynamicType.Denot = record { schedule = c.self.inside.schedule; running = c.self.inside.running.entries; limit = c.self.inside.limit } in
    let room : has_room inside.limit (length inside.running) 0 ≡ true =
    ap (λ (p : Parts g.row.K.Denot g.row.K-DynamicType.Denot). has_room p.limit (length p.running) 0) c.self.view_is ∙ (sym c.has_room.ensures ∙ c.if-not-has_room.false) in
    let roomy : Parts g.row.K.Denot g.row.K-DynamicType.Denot = record { schedule = c.reserve-2.new.self; running = c.reserve.new.self.entries; limit = c.self.inside.limit } in
    let same : roomy.running ≡ inside.running = c.in_ok-reserve.ensures.entries in
    let still : has_room roomy.limit (length roomy.running) 0 ≡ true = ap (λ es. has_room inside.limit (length es) 0) same ∙ room in
    let z : Stands type_of core roomy qs rs = with-places type_of core inside roomy qs rs refl c.in_ok-reserve-2.ensures.same same
    (subst (λ p. Stands type_of core p qs rs) (sym c.self.view_is) s) in
    subst (λ k. Stands type_of core (record { schedule = k; running = c.reserve.new.self.entries; limit = c.self.inside.limit }) qs rs) (sym c.in_default-take_idle.ensures.none) z

pub returns-clause-first : goal.returns-clause-first
returns-clause-first g c core qs rs s =
    let type_of = g.K.Resource.type_of in
    let inside : Parts g.row.K.Denot g.row.K-DynamicType.Denot = record { schedule = c.self.inside.schedule; running = c.self.inside.running.entries; limit = c.self.inside.limit } in
    let room : has_room inside.limit (length inside.running) 0 ≡ true =
    ap (λ (p : Parts g.row.K.Denot g.row.K-DynamicType.Denot). has_room p.limit (length p.running) 0) c.self.view_is ∙ (sym c.has_room.ensures ∙ c.if-not-has_room.false) in
    let roomy : Parts g.row.K.Denot g.row.K-DynamicType.Denot = record { schedule = c.reserve-2.new.self; running = c.reserve.new.self.entries; limit = c.self.inside.limit } in
    let same : roomy.running ≡ inside.running = c.in_ok-reserve.ensures.entries in
    let still : has_room roomy.limit (length roomy.running) 0 ≡ true = ap (λ es. has_room inside.limit (length es) 0) same ∙ room in
    let z : Stands type_of core roomy qs rs = with-places type_of core inside roomy qs rs refl c.in_ok-reserve-2.ensures.same same
    (subst (λ p. Stands type_of core p qs rs) (sym c.self.view_is) s) in
    ap (option_map (message_of type_of)) (sym c.in-Some-take_idle.is) ∙ first-candidate type_of core roomy c.take_idle.result qs rs still c.take_idle.ensures.first z

pub returns-clause-started : goal.returns-clause-started
returns-clause-started g c core qs rs s =
    let type_of = g.K.Resource.type_of in
    let inside : Parts g.row.K.Denot g.row.K-DynamicType.Denot = record { schedule = c.self.inside.schedule; running = c.self.inside.running.entries; limit = c.self.inside.limit } in
    let room : has_room inside.limit (length inside.running) 0 ≡ true =
    ap (λ (p : Parts g.row.K.Denot g.row.K-DynamicType.Denot). has_room p.limit (length p.running) 0) c.self.view_is ∙ (sym c.has_room.ensures ∙ c.if-not-has_room.false) in
    let same : c.reserve.new.self.entries ≡ inside.running = c.in_ok-reserve.ensures.entries in
    begun type_of core inside _ c.reserve-2.new.self c.in-Some.first.now c.in-Some-take_idle.request c.in_ok-reference.reference c.args.object qs rs room
    (subst (λ o. FirstIs type_of inside.schedule inside.running (option_copied o)) c.in-Some.is c.first_idle.ensures)
    c.in_ok-reference.ensures.reference
    c.in_ok-reserve-2.ensures.same
    (subst (λ es. FirstIs type_of c.reserve-2.new.self es (Some c.in-Some-take_idle.request)) same
    (subst (FirstIs type_of c.reserve-2.new.self c.reserve.new.self.entries) c.in-Some-take_idle.is c.take_idle.ensures.first))
    c.in-Some-take_idle.ensures.taken
    c.take_idle.ensures.debounce
    (c.in_ok-insert.ensures.entries
    ∙ ap (λ es. insert_entry (λ a b. same_reference (reference_of type_of a) (reference_of type_of b)) es c.in_ok-reference.reference c.args.object) same)
    refl
    (subst (λ p. Stands type_of core p qs rs) (sym c.self.view_is) s)
