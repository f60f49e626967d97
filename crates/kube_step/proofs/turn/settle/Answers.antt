use Rattle.std.proofs.Common.{◌≡◌, ◌++◌, ◌∷◌, [], true, false, sym, subst, ◌∙◌, append-nil}
use Rattle.kube_meta.specs.declared.moment.Moment.{Moment}
use Rattle.kube_model.specs.History.{dated, exchanges, exchanges_with}
use Rattle.kube_model.specs.Pause.{gave_up}
use Rattle.kube_history.specs.CoreWorld.{core_world}
use Rattle.kube_history.specs.CoreEvents.{Settled, Shut}
use Rattle.kube_history.specs.TurnEvents.{shut_if}
use Rattle.kube_core.specs.Cores.{StandsFor}
use Rattle.kube_step.proofs.turn.settle.Goals as goal

pub returns-then-given_up-clause-stands : goal.returns-then-given_up-clause-stands
returns-then-given_up-clause-stands g c w h t xs es at may =
    let type_of = g.R.Object.Resource.type_of in
    let meta = g.R.Object.Resource.meta_of in
    let gave : gave_up w (exchanges_with h t xs) ≡ true = sym (c.given_up.ensures w t.budget (exchanges h) (dated t.at xs) may.asks_stand) ∙ c.if-given_up.true in
    let settled = c.settle.ensures.stands (core_world w) es may.core_stands in
    let shut = c.shut.ensures.stands (core_world w) (es ++ Settled c.args.at.0 ∷ []) settled in
    subst (λ b. StandsFor type_of meta (core_world w) (es ++ Settled t.at ∷ [] ++ shut_if b t.at) c.shut.new.self) (sym gave)
    (subst (λ n. StandsFor type_of meta (core_world w) (es ++ Settled n ∷ [] ++ Shut n ∷ []) c.shut.new.self) (sym at)
    (subst (λ (m : Moment). StandsFor type_of meta (core_world w) (es ++ Settled c.args.at.0 ∷ [] ++ Shut m.0 ∷ []) c.shut.new.self) c.settle.ensures.clock shut))

pub returns-else-given_up-clause-stands : goal.returns-else-given_up-clause-stands
returns-else-given_up-clause-stands g c w h t xs es at may =
    let type_of = g.R.Object.Resource.type_of in
    let meta = g.R.Object.Resource.meta_of in
    let gave : gave_up w (exchanges_with h t xs) ≡ false = sym (c.given_up.ensures w t.budget (exchanges h) (dated t.at xs) may.asks_stand) ∙ c.if-given_up.false in
    let settled = c.settle.ensures.stands (core_world w) es may.core_stands in
    subst (λ b. StandsFor type_of meta (core_world w) (es ++ Settled t.at ∷ [] ++ shut_if b t.at) c.settle.new.self) (sym gave)
    (subst (λ n. StandsFor type_of meta (core_world w) (es ++ Settled n ∷ [] ++ []) c.settle.new.self) (sym at)
    (subst (λ us. StandsFor type_of meta (core_world w) us c.settle.new.self) (sym (append-nil (es ++ Settled c.args.at.0 ∷ []))) settled))
