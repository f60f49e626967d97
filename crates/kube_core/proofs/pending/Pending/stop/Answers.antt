use Rattle.std.proofs.Common.{◌≡◌, true, false, Some, refl, sym, subst, ap, ◌∙◌, is_some, option_map, rules}
use Rattle.std.proofs.lemmas.Map.Made.{lookup_key_passes}
use Rattle.kube_meta.specs.Keys.{reference_of}
use Rattle.kube_meta.specs.Reference.{same_reference}
use Rattle.kube_model.specs.Takes.{runs}
use Rattle.kube_reflect.proofs.Putting.{same-references}
use Rattle.kube_core.specs.Pendings.{Stands}
use Rattle.kube_core.proofs.PendingSteps.{stopped, runs-lookup}
use Rattle.kube_core.proofs.pending.Pending.stop.Goals as goal

pub returns-in_err-stopped-clause-ran : goal.returns-in_err-stopped-clause-ran
returns-in_err-stopped-clause-ran g c core qs rs s =
    let type_of = g.K.Resource.type_of in
    let r = reference_of type_of c.args.reference.now in
    let z = subst (λ p. Stands type_of core p qs rs) (sym c.self.view_is) s in
    let none : is_some c.from_residual.result ≡ false = search rules in
    let gone : is_some (option_map (λ p. p.1) c.shift_remove_entry.result) ≡ false = search rules in
    none ∙ (sym gone ∙ (ap is_some c.shift_remove_entry.ensures.value ∙ (runs-lookup type_of c.self.inside.running.entries r ∙ ap (λ us. runs us r) (sym z.running))))

pub returns-in_err-stopped-clause-stands : goal.returns-in_err-stopped-clause-stands
returns-in_err-stopped-clause-stands g c core qs rs s =
    let type_of = g.K.Resource.type_of in
    stopped type_of core _ _ (reference_of type_of c.args.reference.now) qs rs refl refl c.shift_remove_entry.ensures.entries
    (subst (λ p. Stands type_of core p qs rs) (sym c.self.view_is) s)

pub returns-clause-ran : goal.returns-clause-ran
returns-clause-ran g c core qs rs s =
    let type_of = g.K.Resource.type_of in
    let r = reference_of type_of c.args.reference.now in
    let z = subst (λ p. Stands type_of core p qs rs) (sym c.self.view_is) s in
    let there : is_some (option_map (λ p. p.1) c.shift_remove_entry.result) ≡ true = search rules in
    sym there ∙ (ap is_some c.shift_remove_entry.ensures.value ∙ (runs-lookup type_of c.self.inside.running.entries r ∙ ap (λ us. runs us r) (sym z.running)))

pub returns-clause-equal : goal.returns-clause-equal
returns-clause-equal g c =
    let type_of = g.K.Resource.type_of in
    let r = reference_of type_of c.args.reference.now in
    let key : option_map (λ p. p.0) c.shift_remove_entry.result ≡ Some c.in_ok-stopped.stopped = search rules in
    sym (same-references r (reference_of type_of c.in_ok-stopped.stopped)
    (lookup_key_passes (λ k. same_reference r (reference_of type_of k)) c.self.inside.running.entries c.in_ok-stopped.stopped (sym c.shift_remove_entry.ensures.key ∙ key)))

pub returns-clause-stands : goal.returns-clause-stands
returns-clause-stands g c core qs rs s =
    let type_of = g.K.Resource.type_of in
    stopped type_of core _ _ (reference_of type_of c.args.reference.now) qs rs refl refl c.shift_remove_entry.ensures.entries
    (subst (λ p. Stands type_of core p qs rs) (sym c.self.view_is) s)
