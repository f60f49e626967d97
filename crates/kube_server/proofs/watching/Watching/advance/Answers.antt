use Rattle.std.proofs.Common.{◌≡◌, [], map, length, length-drop, true, refl, sym, ap, ◌∙◌, arith}
use Rattle.std.specs.Prelude.{is_some}
use Rattle.std.proofs.lemmas.List.{nil_from_length}
use Rattle.kube_api.specs.Answers.{event_answer}
use Rattle.kube_server.specs.Stored.{name_of}
use Rattle.kube_server.proofs.IndexLemmas.{polled_past}
use Rattle.kube_server.proofs.watching.Watching.advance.Goals as goal

pub returns-then-is_some : goal.returns-then-is_some
returns-then-is_some c =
    let items = c.args.self.now.pending.items in
    let same = c.in-None.ensures.items ∙ c.in-None.ensures.rest in
    let none : items ≡ [] = nil_from_length items (omega (arith, ap length same, length-drop 1 items)) in
    let left : c.pop_front.new.self.items ≡ [] = sym c.in-None.ensures.items ∙ none in
    let follows : is_some c.args.self.now.follows ≡ true = sym c.is_some.ensures ∙ c.if-is_some.true in
    let poll = polled_past (name_of c.args.self.now.name) (map event_answer items) c.args.self.now.follows c.args.log.now c.args.index (rw none refl) follows c.requires in
    rw (left, c.past.ensures) (sym poll)
