use Rattle.std.proofs.Common.{◌≡◌, ◌∷◌, ◌++◌, ◌-◌, [], List, length, map, take, sym, ap, subst, ◌∙◌, arith, vec_len}
use Rattle.kube_model.specs.Traces.{IsTrace, unread}
use Rattle.kube_object.specs.Named.{named_type}
use Rattle.kube_turn.specs.Records.{record_of, records_of, turn_of, turns_of}
use Rattle.kube_run.specs.Played.{policies_in, script_world}
use Rattle.kube_run.proofs.Reaching.{HeldMade, HeldTold, one-turn, popped}
use Rattle.kube_run.proofs.generated.take_turn.Goals as goal

pub returns-in-Ok : goal.returns-in-Ok
returns-in-Ok c s h stands of after =
    let k = c.in-Ok.ensures.goes s h stands of after in
    let told : c.push.new.self.items ≡ c.args.turn ∷ [] = c.in_ok-push.ensures.items ∙ ap (λ (ts : List HeldTold). ts ++ c.args.turn ∷ []) c.new-turns.ensures.items in
    let made : c.from.result.items ≡ c.in-Ok.trace.records = c.from.ensures in
    let long : vec_len c.from.result ≡ length c.in-Ok.trace.records = (let ok = c.from.result.ok.0 in let m = ap length made in omega (arith, ok, m)) in
    let trace : IsTrace (script_world s) (policies_in s) h (turn_of named_type c.args.turn ∷ []) (map unread (records_of named_type c.in-Ok.trace.records)) =
    subst (λ (ts : List HeldTold). IsTrace (script_world s) (policies_in s) h (turns_of named_type ts) (map unread (records_of named_type c.in-Ok.trace.records))) told k.0.trace in
    one-turn _ _ _ _ s h c.args.turn c.push.new.self.items c.in-Ok.trace.records c.pop.result c.args.controller.now c.run_turns.new.controller told
    (popped (script_world s) (policies_in s) h (turn_of named_type c.args.turn) (record_of named_type) c.in-Ok.trace.records c.pop.new.self.items c.pop.result (vec_len c.from.result) trace long (sym made ∙ c.pop.ensures.items)
    (c.pop.ensures.rest ∙ ap (λ (rs : List HeldMade). take (vec_len c.from.result - 1) rs) made)) k
