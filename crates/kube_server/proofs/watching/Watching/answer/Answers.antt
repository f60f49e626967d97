use Rattle.std.proofs.Common.{◌≡◌, [], map, true, refl, sym, ap, ◌∙◌, arith}
use Rattle.std.specs.Prelude.{is_some, not}
use Rattle.std.proofs.lemmas.List.{nil_from_length}
use Rattle.kube_meta.specs.declared.dynamic.DynamicObject.{DynamicObject}
use Rattle.kube_api.specs.Answers.{event_answer}
use Rattle.kube_server.specs.Connections.{Poll}
use Rattle.kube_server.specs.Stored.{name_of}
use Rattle.kube_server.proofs.IndexLemmas.{polled_entry}
use Rattle.kube_server.proofs.watching.Watching.answer.Goals as goal

pub returns : goal.returns
returns c =
    let none : c.args.self.now.pending.items ≡ [] = nil_from_length c.args.self.now.pending.items (omega (arith, c.in_default.ensures.item.3)) in
    let follows : is_some c.args.self.now.follows ≡ true = c.is_none.ensures ∙ ap not c.if-is_none.false in
    let poll = polled_entry (name_of c.args.self.now.name) (map event_answer c.args.self.now.pending.items) c.args.self.now.follows c.args.log.now c.args.index c.index-log-index.result (rw none refl) follows c.requires (omega arith) c.index-log-index.is in
    c.in_ok-event.ensures ∙ sym (ap (λ (p : Poll DynamicObject). p.answer) poll)
