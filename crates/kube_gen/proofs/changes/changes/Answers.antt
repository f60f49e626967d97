use Rattle.std.proofs.Common.{◌≡◌, ◌∙◌, ◌++◌, ◌∷◌, ◌+◌, [], ℕ, suc, ap, sym, arith, rules}
use Rattle.std.specs.Prelude.{flat_map}
use Rattle.std.specs.List.{range_with_len}
use Rattle.kube_api.specs.declared.sequence.SequenceStep.TheVariants.{Wait}
use Rattle.kube_api.specs.Sequences.{steps_of}
use Rattle.kube_api.specs.TestScript.{Gives, Pauses}
use Rattle.kube_model.specs.Raw.{GivesModified}
use Rattle.kube_gen.specs.Generated.{parent_at, picked, second, next_number, number_at, change_at}
use Rattle.kube_gen.proofs.Steps.{steps-append, flat-more}
use Rattle.kube_gen.proofs.changes.changes.Goals as goal

pub loop-place-preserved : goal.loop-place-preserved
loop-place-preserved c =
    let seed = c.args.seed in
    let n = c.args.parents in
    let place = c.loop-place.place in
    let old = c.loop-place.steps.items in
    let next : place + 1 ≡ suc place = omega arith in
    let number : c.next_number-number.result ≡ number_at seed (suc place) = c.next_number-number.ensures ∙ ap next_number c.loop-place.invariant.0 in
    let version : c.from.result + c.from-in-loop-place.result + 1 ≡ n + suc place = (let a = c.from.ensures in let b = c.from-in-loop-place.ensures in omega arith) in
    let told : steps_of c.push_change.new.steps.items ≡ steps_of old ++ change_at seed n (suc place) =
    c.in_ok-push_change.ensures
    ∙ (ap (λ i. steps_of old ++ Pauses second ∷ Gives (GivesModified (parent_at i (c.from.result + c.from-in-loop-place.result + 1))) ∷ []) (c.pick.ensures ∙ ap (λ x. picked x n) number)
    ∙ ap (λ v. steps_of old ++ Pauses second ∷ Gives (GivesModified (parent_at (picked (number_at seed (suc place)) n) v)) ∷ []) version) in (
      number ∙ sym (ap (number_at seed) next),
      flat-more (change_at seed n) (steps_of old) (steps_of c.push_change.new.steps.items) 1 place (place + 1) (suc place) told c.loop-place.invariant.1 next (omega arith),
    )

pub returns : goal.returns
returns c =
    let old = c.loop-place.steps.items in
    let pushed : c.push.new.self.items ≡ old ++ Wait 10000000000000 ∷ [] = search rules in
    let all : c.loop-place.place ≡ c.args.count = omega arith in
    ap steps_of pushed
    ∙ (steps-append old (Wait 10000000000000 ∷ [])
    ∙ (ap (λ q. q ++ Pauses 10000000000000 ∷ []) c.loop-place.invariant.1
    ∙ ap (λ k. flat_map (change_at c.args.seed c.args.parents) (range_with_len 1 k) ++ Pauses 10000000000000 ∷ []) all))
