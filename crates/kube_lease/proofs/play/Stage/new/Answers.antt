use Rattle.std.proofs.Common.{◌∷◌, [], map, ap, sym, subst, refl, ◌∙◌}
use Rattle.kube_meta.specs.Resources.{resource_type}
use Rattle.kube_api.specs.Patches.{operation_of}
use Rattle.kube_lease.specs.Leases.{unheld}
use Rattle.kube_lease.specs.Staging.{AreMade, AreSights}
use Rattle.kube_lease.proofs.RegularPasts.{regular_first}
use Rattle.kube_lease.proofs.Standings.{all_entered}
use Rattle.kube_lease.proofs.play.Stage.new.Goals as goal

pub returns-clause-stage : goal.returns-clause-stage
returns-clause-stage c =
    let kind = ap (λ k. resource_type k.dyntype.value) c.in_ok-key.ensures ∙ ap resource_type c.in_ok-clone.ensures.cases in
    let key = ap (λ k. record { namespace = k.namespace; name = k.name }) c.in_ok-key.ensures in
    let serves = c.in_ok-server.ensures.serves _ kind key in
    record {
      now = refl;
      serves = serves;
      sights = subst (λ os. AreSights os (unheld ∷ [])) (sym c.in_ok-seen.ensures.items) (c.in_ok-object.ensures unheld serves, tt);
      candidates = c.in_ok-candidates.ensures ∙ all_entered c.args.candidates.now;
      sent = ap (map (λ v. map operation_of v.items)) c.new.ensures.items;
      made = subst (λ ms. AreMade ms []) (sym c.new-2.ensures.items) tt;
      regular = regular_first;
    }

pub returns-clause-played : goal.returns-clause-played
returns-clause-played c = record { kind = _; opened = c.in_ok-server.server; put = c.in_ok-server.ensures.opened; asked = refl }
