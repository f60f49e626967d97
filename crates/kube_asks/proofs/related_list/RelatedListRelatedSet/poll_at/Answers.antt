use Rattle.std.proofs.Common.{◌<◌, ◌++◌, ◌∷◌, [], length, sym, subst, ◌∙◌, arith}
use Rattle.std.proofs.lemmas.List.{length-map}
use Rattle.std.proofs.lemmas.Result.{IfOk-weaker}
use Rattle.kube_watch.specs.Polls.{dated_now}
use Rattle.kube_asks.specs.Sources.{IsRelatedNext}
use Rattle.kube_turn.specs.Views.{exchange_of}
use Rattle.kube_asks.proofs.PlaceLemmas.{holds-get, holds-set, holds-other, map-set, changes-set, feed-get, set-same, item-same, told-get, told-set, told-other}
use Rattle.kube_asks.proofs.related_list.RelatedListRelatedSet.poll_at.Goals as goal

pub returns-clause-feeds : goal.returns-clause-feeds
returns-clause-feeds g c =
    let ts = c.args.self.now.items.items in
    let here : c.args.place < length ts = omega (arith, length-map ts g.T.Related.settings) in
    map-set g.T.Related.settings ts c.args.place c.poll_unit.new.self c.index_mut-source.result.now here c.index_mut-source.ensures.value c.poll_unit.ensures.settings

pub returns-clause-next : goal.returns-clause-next
returns-clause-next g c =
    let ts = c.args.self.now.items.items in
    let here : c.args.place < length ts = omega (arith, length-map ts g.T.Related.settings) in
    let u = c.index_mut-source.result.now in
    IfOk-weaker c.poll_unit.result _ _
    (λ x h own s. subst (λ f. IsRelatedNext f own c.args.now.0 (exchange_of g.K.Resource.type_of x)) (sym (feed-get g.T.Related.settings ts c.args.place u here c.index_mut-source.ensures.value))
    (h own (holds-get (λ t. g.T.Related.stands t own) ts c.args.place u here c.index_mut-source.ensures.value s)))
    c.poll_unit.ensures.next

pub returns-clause-stands : goal.returns-clause-stands
returns-clause-stands g c =
    let ts = c.args.self.now.items.items in
    let here : c.args.place < length ts = omega (arith, length-map ts g.T.Related.settings) in
    let u = c.index_mut-source.result.now in
    IfOk-weaker c.poll_unit.result _ _
    (λ x h own y s e. holds-set (λ t. g.T.Related.stands t (own ++ dated_now c.args.now.0 y ∷ [])) ts c.args.place c.poll_unit.new.self here
    (h own y (holds-get (λ t. g.T.Related.stands t own) ts c.args.place u here c.index_mut-source.ensures.value s) e))
    c.poll_unit.ensures.stands

pub returns-clause-others : goal.returns-clause-others
returns-clause-others g c p own n h = holds-other (λ t. g.T.Related.stands t own) c.args.self.now.items.items c.args.place p c.poll_unit.new.self n h

pub returns-clause-polls : goal.returns-clause-polls
returns-clause-polls g c =
    let ts = c.args.self.now.items.items in
    let here : c.args.place < length ts = omega (arith, length-map ts g.T.Related.settings) in
    let u = c.index_mut-source.result.now in
    IfOk-weaker c.poll_unit.result _ _
    (λ x h own y s e. changes-set (λ t v. g.T.Related.polls t own c.args.now.0 y v) ts c.args.place c.poll_unit.new.self u here c.index_mut-source.ensures.value
    (h own y (holds-get (λ t. g.T.Related.stands t own) ts c.args.place u here c.index_mut-source.ensures.value s) e))
    c.poll_unit.ensures.polls

pub returns-clause-unnamed : goal.returns-clause-unnamed
returns-clause-unnamed g c e =
    let ts = c.args.self.now.items.items in
    let here : c.args.place < length ts = omega (arith, length-map ts g.T.Related.settings) in
    changes-set (λ t u. g.T.Related.breaks t c.args.now.0 u) ts c.args.place c.poll_unit.new.self c.index_mut-source.result.now here c.index_mut-source.ensures.value (c.poll_unit.ensures.unnamed e)

pub returns-clause-lost : goal.returns-clause-lost
returns-clause-lost g c e =
    let ts = c.args.self.now.items.items in
    let here : c.args.place < length ts = omega (arith, length-map ts g.T.Related.settings) in
    changes-set (λ t u. g.T.Related.loses t c.args.now.0 u) ts c.args.place c.poll_unit.new.self c.index_mut-source.result.now here c.index_mut-source.ensures.value (c.poll_unit.ensures.lost e)

pub returns-clause-fault : goal.returns-clause-fault
returns-clause-fault g c =
    let ts = c.args.self.now.items.items in
    let here : c.args.place < length ts = omega (arith, length-map ts g.T.Related.settings) in
    told-set g.T.Related.fault ts c.args.place c.poll_unit.new.self here ∙ c.poll_unit.ensures.fault

pub returns-clause-after : goal.returns-clause-after
returns-clause-after g c f e =
    let ts = c.args.self.now.items.items in
    let here : c.args.place < length ts = omega (arith, length-map ts g.T.Related.settings) in
    let u = c.index_mut-source.result.now in
    let after = c.poll_unit.ensures.after f (sym (told-get g.T.Related.fault ts c.args.place u here c.index_mut-source.ensures.value) ∙ e) in
    let same = item-same c.args.self.now.items c.args.place c.poll_unit.new.self (set-same ts c.args.place c.poll_unit.new.self u c.index_mut-source.ensures.value after.1) in
    (after.0, λ j. record { items = same j })

pub returns-clause-other_faults : goal.returns-clause-other_faults
returns-clause-other_faults g c p n = told-other g.T.Related.fault c.args.self.now.items.items c.args.place p c.poll_unit.new.self n
