use Rattle.std.proofs.Common.{◌∷◌, [], ap, refl, sym, subst, ◌∙◌}
use Rattle.kube_meta.specs.Resources.{resource_type}
use Rattle.kube_final.specs.Lives.{first_state}
use Rattle.kube_final.specs.Playing.{AreMade, AreSent, AreSights}
use Rattle.kube_final.specs.Played.{IsOpened}
use Rattle.kube_final.proofs.play.Stage.new.Goals as goal

pub returns-clause-stage : goal.returns-clause-stage
returns-clause-stage c =
    let kind = ap (λ k. resource_type k.dyntype.value) c.in_ok-key.ensures ∙ ap resource_type c.in_ok-clone.ensures.cases in
    let key = ap (λ k. record { namespace = k.namespace; name = k.name }) c.in_ok-key.ensures in
    let serves = c.in_ok-server.ensures.serves _ kind key in
    record {
      serves = serves;
      kept = record {
        sights = subst (λ os. AreSights os (first_state ∷ [])) (sym c.in_ok-seen.ensures.items) (c.in_ok-object.ensures first_state serves, tt);
        made = subst (λ ms. AreMade c.args.name.now ms []) (sym c.new-2.ensures.items) tt;
        sent = subst (λ vs. AreSent c.args.name.now [] vs []) (sym c.new-3.ensures.items) tt;
      };
    }

pub returns-clause-played : goal.returns-clause-played
returns-clause-played c =
    let kind = ap (λ k. resource_type k.dyntype.value) c.in_ok-key.ensures ∙ ap resource_type c.in_ok-clone.ensures.cases in
    record {
      key = ap (λ k. record { namespace = k.namespace; name = k.name }) c.in_ok-key.ensures;
      opened = c.in_ok-server.server;
      put = subst (λ t. IsOpened t c.in_ok-server.server) (sym kind) c.in_ok-server.ensures.opened;
      asked = refl;
    }
