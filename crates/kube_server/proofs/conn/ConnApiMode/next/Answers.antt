use Rattle.std.proofs.Common.{◌≡◌, List, Some, refl, sym, ap, subst, ◌∙◌}
use Rattle.std.specs.Option.{option_map}
use Rattle.kube_meta.specs.declared.dynamic.DynamicObject.{DynamicObject}
use Rattle.kube_model.specs.Raw.{IsNeverOpened}
use Rattle.kube_server.specs.declared.talk.Told.TheVariants.{Next as NextTold}
use Rattle.kube_server.specs.contracts.conn.Conn.{the_view}
use Rattle.kube_server.specs.History.{Change}
use Rattle.kube_server.specs.Servers.{meta_of}
use Rattle.kube_server.specs.Stored.{raw_of}
use Rattle.kube_server.specs.Watches.{watch_of}
use Rattle.kube_server.specs.Connections.{Connection, poll_current, left_current, after_next}
use Rattle.kube_server.specs.Standing.{Stands}
use Rattle.kube_server.proofs.StandingLemmas.{Stands-polled}
use Rattle.kube_server.proofs.ConnLemmas.{next_left, never_open}
use Rattle.kube_server.proofs.conn.ConnApiMode.next.Goals as goal

-- what the call leaves, from the parts that it began with
left : (c : goal.After-advance) → after_next meta_of (the_view c.self.inside) ≡ the_view (record { log = c.self.inside.log; compacted = c.self.inside.compacted; watch = c.advance.new.watch; talk = c.tell.new.self })
left c =
    next_left meta_of (the_view c.self.inside) (raw_of (NextTold c.in_ok-kept.kept)) (option_map watch_of c.advance.new.watch) c.tell.new.self.raws c.tell.new.self.failures refl (c.in_ok-kept.ensures ∙ (c.in_ok-answer.ensures ∙ ap (λ (cs : List (Change DynamicObject)). poll_current meta_of cs (option_map watch_of c.self.inside.watch)) c.entries-log.ensures)) (c.advance.ensures ∙ ap (λ (cs : List (Change DynamicObject)). left_current meta_of cs (option_map watch_of c.self.inside.watch)) c.entries.ensures) c.in_ok-tell.ensures.raws c.in_ok-tell.ensures.failures

stands : (c : goal.After-advance) → Stands meta_of (the_view (record { log = c.self.inside.log; compacted = c.self.inside.compacted; watch = c.advance.new.watch; talk = c.tell.new.self }))
stands c = subst (λ (d : Connection DynamicObject). Stands meta_of d) (left c) (Stands-polled meta_of (the_view c.self.inside) c.self.invariant)

pub invariant_of-self-2 : goal.invariant_of-self-2
invariant_of-self-2 c = stands c

pub returns-clause-honest : goal.returns-clause-honest
returns-clause-honest c = (stands c).honest

pub returns-clause-never_opened : goal.returns-clause-never_opened
returns-clause-never_opened c = λ never.
    c.in_ok-answer.ensures
    ∙ (ap (λ (cs : List (Change DynamicObject)). poll_current meta_of cs (option_map watch_of c.self.inside.watch)) c.entries-log.ensures
    ∙ never_open meta_of (the_view c.self.inside) c.self.invariant (subst (λ (d : Connection DynamicObject). IsNeverOpened (Some d.talk)) (sym c.self.view_is) never))
