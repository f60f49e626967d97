use Rattle.std.proofs.Common.{◌∙◌, ap, map, refl}
use Rattle.std.specs.Arc.{arc_value}
use Rattle.kube_watch.specs.Events.{event_map}
use Rattle.kube_watch.specs.Polls.{Api, api_in}
use Rattle.kube_watch.specs.Units.{exchange_of}
use Rattle.kube_watch.specs.Watching.{all_told}
use Rattle.kube_watch.proofs.Polls.{filled}
use Rattle.kube_watch.proofs.watching.Watcher.fill.Goals as goal

pub returns-clause-filled : goal.returns-clause-filled
returns-clause-filled g c =
    let u = c.in_ok-unit.unit in
    let e = c.in_ok-unit.ensures in
    let api : Api g.row.A.Denot g.row.A-Value.Denot = api_in g.A.ApiMode g.A.Value.Resource.meta_of in
    filled api c.args.now.0 c.args.self.now c.poll_unit.new.self _ c.self.view_is (exchange_of u)
    (all_told (map (event_map arc_value) c.from_vec.result.items) u.error) c.is_ready.result
    (record { raw = e.talk.0; recorded = e.talk.1; told = e.talk.2; moved = e.talk.3; rose = e.faults })
    (λ ds h. record { owes = e.owed ds h; answered = e.answered; texts = e.texts; idle = e.idle ds h; error = e.error ds h })
    (λ ds h. ap (λ es. all_told (map (event_map arc_value) es) u.error) (c.from_vec.ensures.items ∙ c.from.ensures) ∙ (ap (λ es. all_told es u.error) (e.events ds h) ∙ ap (all_told _) (e.error ds h)))
    c.is_ready.ensures
    (λ ds h. e.stands ds (exchange_of u) h refl refl)
    e.config
