use Rattle.std.proofs.Common.{ap, subst, ◌∙◌}
use Rattle.kube_server.specs.History.{IsLater}
use Rattle.kube_server.proofs.LaterLemmas.{later_later}
use Rattle.kube_final_tests.proofs.Fed.{made-behind}
use Rattle.kube_final_tests.proofs.tests.served.hears_of_the_end.Goals as goal

pub feed-requires : goal.feed-requires
feed-requires g c =
    let first = c.put.new.server in
    let opened = c.in_ok-objects.objects.server.now in
    let there = c.waits.new.objects.server.now in
    let gone = c.remove.new.server in
    let last = c.waits-2.new.objects.server.now in
    let twice = c.in_ok-unheard.ensures.log in
    let once = c.in_ok-there.ensures.log in
    let api = c.in_ok-deletion.ensures.opened.api in
    let lent = c.api_mut-watched.ensures.value in
    made-behind first last c.in_ok-conn.conn c.api_mut-watched.result.now c.in_ok-conn.ensures
    (ap (λ a. a.changes) lent ∙ (twice.0 ∙ (once.0 ∙ ap (λ a. a.changes) api)), ap (λ a. a.compacted) lent ∙ (twice.1 ∙ (once.1 ∙ ap (λ a. a.compacted) api)))
    (subst (λ s. IsLater s.changes last.changes s.compacted last.compacted) c.in_ok-objects.ensures.server
    (later_later opened.changes there.changes last.changes opened.compacted there.compacted last.compacted c.in_ok-there.ensures.later
    (later_later there.changes gone.changes last.changes there.compacted gone.compacted last.compacted c.remove.ensures c.in_ok-unheard.ensures.later)))
