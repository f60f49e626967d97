use Rattle.std.proofs.Common.{◌≡◌, [], true, false, length, map, take, sym, ap, subst, ◌∙◌}
use Rattle.std.proofs.lemmas.List.{length-map}
use Rattle.kube_model.specs.History.{exchanges}
use Rattle.kube_model.specs.Named.{AreNamedTurns, RootIsNamed}
use Rattle.kube_model.specs.Traces.{IsTrace, steps, unread}
use Rattle.kube_object.specs.Named.{named_type}
use Rattle.kube_step.specs.Calls.{dated_in}
use Rattle.kube_step.specs.Policies.{answered_by}
use Rattle.kube_text.specs.TraceText.{lines_of}
use Rattle.kube_turn.specs.Records.{record_of, records_of, turn_of, turns_of}
use Rattle.kube_run.specs.Played.{AreAnswered, script_world}
use Rattle.kube_run.proofs.Plays.{all-ok, both, err-cases}
use Rattle.kube_run.proofs.Policies.{few-records, same-lines, trace-by}
use Rattle.kube_run.proofs.Broken.{got-map, unnamed-broken}
use Rattle.kube_run.proofs.Ended.{front, front-lines, refused-next, unnamed-next}
use Rattle.kube_run.proofs.First.{first-apis, first-of}
use Rattle.kube_run.proofs.Polled.{polled-answered}
use Rattle.kube_run.specs.Sources.{apis_in}
use Rattle.kube_run.proofs.play.run_turns.Goals as goal

pub returns : goal.returns
returns c = record {
  ran = λ s stands first turns faults after.
      let w = script_world s in
      let ts = c.args.turns.items in
      let told = c.run.ensures in
      let root = c.args.controller.now.asks.root in
      let set = c.args.controller.now.asks.related in
      let apis = first-apis s root set first in
      let of_script = first-of s root set first in
      both s c.run.result
      (all-ok c.run.result
      (λ r traced names polled finished.
      let q = answered_by (records_of named_type r.records) in
      let exact = trace-by w _ s.error_requeue (λ o e a k. k.says.met.2 ∙ after) q [] ts r.records finished traced.0 in
      let answers = polled-answered s [] root set _ _ _ of_script polled in (
        (
          apis_in c.run.new.self.asks.root c.run.new.self.asks.related,
          record {
            trace = subst (λ us. IsTrace w (λ n k o. s.error_requeue) [] us (map unread (records_of named_type r.records))) turns exact;
            named = subst (λ us. AreNamedTurns w (RootIsNamed w) [] (steps us (map unread (records_of named_type r.records)))) turns names;
            answered = subst (λ a. AreAnswered s [] a (dated_in (records_of named_type r.records)) (apis_in c.run.new.self.asks.root c.run.new.self.asks.related)) apis answers.0;
          },
        ),
        same-lines _ 0 [] ts r.records (few-records w q [] ts r.records traced.0) finished ∙ ap (λ fs. lines_of 0 fs (records_of named_type r.records)) faults,
      ))
      (told.trace w [] stands) (told.named w [] stands) (told.asked w [] stands) (told.policy w [] stands))
      (err-cases _ _ _ _ _ _ c.run.result (told.policy_before w [] stands) told.refused told.unnamed told.no_memory told.was_spent
      (λ turn why trace finished k.
      let rs = trace.records in
      let n : turn ≡ length (records_of named_type rs) = k.0 ∙ sym (length-map rs (record_of named_type)) in
      let q = k.1 w [] stands in
      let traced = subst (λ i. IsTrace w (answered_by (records_of named_type rs)) [] (take i (turns_of named_type ts)) (map unread (records_of named_type rs))) n q.1 in
      let names = subst (λ i. AreNamedTurns w (RootIsNamed w) [] (steps (take i (turns_of named_type ts)) (map unread (records_of named_type rs)))) n q.2 in (
        (_, front _ s (λ o e a k. k.says.met.2 ∙ after) ts turns faults rs finished traced names root c.run.new.self.asks.root set c.run.new.self.asks.related apis of_script q.3),
        front-lines _ s (λ o e a k. k.says.met.2 ∙ after) ts turns faults rs finished traced,
        (n, refused-next _ s (λ o e a k. k.says.met.2 ∙ after) ts turns faults rs finished traced names root c.run.new.self.asks.root set c.run.new.self.asks.related apis of_script q.3 _ q.0),
        tt,
        tt,
      ))
      (λ turn source trace finished k.
      let rs = trace.records in
      let b = k.1 w [] stands in
      let broken = unnamed-broken _ _ _ _ w _ source b.turn b.reached_root b.reached_related _ _ _ _ _ b.broken in
      let cut = broken.1.0 in (
        (_, front _ s (λ o e a k. k.says.met.2 ∙ after) ts turns faults rs finished b.traced b.all_named root b.reached_root set b.reached_related apis of_script b.polled),
        front-lines _ s (λ o e a k. k.says.met.2 ∙ after) ts turns faults rs finished b.traced,
        tt,
        (
          k.0 ∙ sym (length-map rs (record_of named_type)),
          unnamed-next _ s (λ o e a k. k.says.met.2 ∙ after) ts turns faults rs finished b.traced b.all_named root b.reached_root set b.reached_related apis of_script b.polled (turn_of named_type b.turn) (got-map (turn_of named_type) ts (length (records_of named_type rs)) b.turn b.next) b.going source cut.made cut.reached_root c.run.new.self.asks.root cut.reached_related c.run.new.self.asks.related broken.0 cut.asked
              cut.each_named cut.polled cut.stand cut.rest.next_is cut.rest.broken,
        ),
        tt,
      ))
      (λ trace finished k.
      let rs = trace.records in
      let b = k w [] stands in (
        (_, front _ s (λ o e a k. k.says.met.2 ∙ after) ts turns faults rs finished b.traced b.all_named root b.reached_root set b.reached_related apis of_script b.polled),
        front-lines _ s (λ o e a k. k.says.met.2 ∙ after) ts turns faults rs finished b.traced,
        tt,
        tt,
        tt,
      ))
      (λ trace k. absurd (let z : true ≡ false = sym k.0 ∙ stands.unspent in cc)));
  goes = λ s h stands of after.
      let w = script_world s in
      let ts = c.args.turns.items in
      let told = c.run.ensures in
      let root = c.args.controller.now.asks.root in
      let set = c.args.controller.now.asks.related in
      all-ok c.run.result
      (λ r traced names polled finished.
      let q = answered_by (records_of named_type r.records) in
      let exact = trace-by w _ s.error_requeue (λ o e a k. k.says.met.2 ∙ after) q h ts r.records finished traced.0 in
      let answers = polled-answered s (exchanges h) root set _ _ _ of polled in
      (record { trace = exact; named = names; answered = answers.0; of_script = answers.1 }, traced.1))
      (told.trace w h stands) (told.named w h stands) (told.asked w h stands) (told.policy w h stands);
}
