use Rattle.std.proofs.Common.{◌≡◌, length, ◌<◌, ◌^◌, sym, ap, subst, ◌∙◌}
use Rattle.kube_meta.specs.declared.dynamic.DynamicObject.{DynamicObject}
use Rattle.kube_model.specs.Raw.{ListAsked}
use Rattle.kube_server.specs.declared.talk.Told.TheVariants.{List as ListTold}
use Rattle.kube_server.specs.contracts.conn.Conn.{the_view}
use Rattle.kube_server.specs.Servers.{meta_of}
use Rattle.kube_server.specs.Stored.{raw_of}
use Rattle.kube_server.specs.Connections.{Connection, listed, after_list}
use Rattle.kube_server.specs.Standing.{Stands}
use Rattle.kube_server.proofs.StandingLemmas.{Stands-listed}
use Rattle.kube_server.proofs.ConnLemmas.{list_left}
use Rattle.kube_server.proofs.conn.ConnApiMode.list.Goals as goal

-- what the call leaves, from the parts that it began with
left : (c : goal.In_ok-tell) → after_list meta_of c.args.params.now (the_view c.self.inside) ≡ the_view (record { log = c.list_answered.new.log; compacted = c.self.inside.compacted; watch = c.self.inside.watch; talk = c.tell.new.self })
left c =
    list_left meta_of (the_view c.self.inside) c.args.params.now (raw_of (ListTold c.in_ok-call.call c.in_ok-kept.kept)) c.list_answered.new.log.changes c.tell.new.self.raws c.tell.new.self.failures c.in_ok-answer.ensures.kept (ap ListAsked c.in_ok-call.ensures) (c.in_ok-kept.ensures ∙ c.in_ok-answer.ensures.answer) c.in_ok-tell.ensures.raws c.in_ok-tell.ensures.failures

stands : (c : goal.In_ok-tell) → Stands meta_of (the_view (record { log = c.list_answered.new.log; compacted = c.self.inside.compacted; watch = c.self.inside.watch; talk = c.tell.new.self }))
stands c =
    let small : length (the_view c.self.inside).changes < 2 ^ 64 = subst (λ cs. length cs < 2 ^ 64) c.in_ok-answer.ensures.kept c.in_ok-answer.ensures.counted in
    subst (λ (d : Connection DynamicObject). Stands meta_of d) (left c) (Stands-listed meta_of (the_view c.self.inside) c.args.params.now small c.self.invariant)

pub invariant_of-self-2 : goal.invariant_of-self-2
invariant_of-self-2 c = stands c

pub returns-clause-answer : goal.returns-clause-answer
returns-clause-answer c = c.in_ok-answer.ensures.answer ∙ ap (λ (d : Connection DynamicObject). listed meta_of c.args.params.now d) c.self.view_is

pub returns-clause-after : goal.returns-clause-after
returns-clause-after c = sym (left c) ∙ ap (λ (d : Connection DynamicObject). after_list meta_of c.args.params.now d) c.self.view_is

pub returns-clause-honest : goal.returns-clause-honest
returns-clause-honest c = (stands c).honest

pub returns-clause-moves : goal.returns-clause-moves
returns-clause-moves c = record {
  answer = c.in_ok-answer.ensures.answer ∙ ap (λ (d : Connection DynamicObject). listed meta_of c.args.params.now d) c.self.view_is;
  left = sym (left c) ∙ ap (λ (d : Connection DynamicObject). after_list meta_of c.args.params.now d) c.self.view_is;
}
