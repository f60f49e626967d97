use Rattle.std.proofs.Common.{subst, inl, ap, sym, refl, ◌∙◌}
use Rattle.std.specs.Option.{option_map}
use Rattle.std.specs.Arc.{arc_value}
use Rattle.kube_reflect.specs.Reflects.{IsOffered, event_offers}
use Rattle.kube_reflect.specs.Writers.{has_live, with_event}
use Rattle.kube_reflect.proofs.Offering.{given-nobody}
use Rattle.kube_reflect.specs.HeldEvents.{held_of}
use Rattle.kube_reflect.proofs.held.take.Goals as goal

pub returns-in-Ok-references_of-clause-taken : goal.returns-in-Ok-references_of-clause-taken
returns-in-Ok-references_of-clause-taken g c =
    let meta = g.K.Resource.meta_of in
    let slot = option_map (held_of g.K.Resource.type_of) c.give.new.slot in
    inl (
      c.in-Ok.ensures.named,
      subst (λ w. IsOffered w c.args.event (event_offers arc_value meta w c.args.event) c.give.result c.give.new.writer slot) c.in-Ok.ensures.applied
          (subst (λ rs. IsOffered c.apply_watcher_event.new.self c.args.event rs c.give.result c.give.new.writer slot) c.in-Ok-references_of.ensures c.give.ensures.offered),
    )

pub returns-in-Ok-references_of-clause-live : goal.returns-in-Ok-references_of-clause-live
returns-in-Ok-references_of-clause-live g c = λ number h. c.give.ensures.live number (c.apply_watcher_event.ensures.live number h)

pub returns-then-not-has_subscribers-clause-taken : goal.returns-then-not-has_subscribers-clause-taken
returns-then-not-has_subscribers-clause-taken g c =
    let meta = g.K.Resource.meta_of in
    let after = with_event arc_value meta c.args.writer.now c.args.event in
    let none = ap has_live (sym c.in-Ok.ensures.applied) ∙ (sym c.has_subscribers.ensures ∙ c.if-not-has_subscribers.true) in
    inl (
      c.in-Ok.ensures.named,
      given-nobody after c.apply_watcher_event.new.self c.args.event (event_offers arc_value meta after c.args.event) _ _ none refl c.in-Ok.ensures.applied
          (ap (option_map (held_of g.K.Resource.type_of)) c.requires),
    )
