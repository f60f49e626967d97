use Rattle.std.proofs.Common.{◌≡◌, true, Some, [], ◌∙◌, ap, inr, map, subst}
use Rattle.std.specs.Arc.{arc_value}
use Rattle.kube_model.specs.Owed.{seen}
use Rattle.kube_model.specs.Recorded.{raw_call}
use Rattle.kube_model.proofs.Results.{on_err}
use Rattle.kube_watch.specs.Calls.{brings_raw, version_of}
use Rattle.kube_watch.specs.Stands.{exchanges_in, settings_in}
use Rattle.kube_watch.specs.Table.{Row, table}
use Rattle.kube_watch.specs.Units.{as_exchange}
use Rattle.kube_watch.specs.Watching.{Watching}
use Rattle.kube_watch.proofs.Brings.{brought, tells-nothing}
use Rattle.kube_watch.proofs.Made.{told-objects}
use Rattle.kube_watch.proofs.watching.Watcher.poll_unit.Goals as goal

pub returns-clause-objects : goal.returns-clause-objects
returns-clause-objects g c ds h =
    let u = c.in_ok-initial.field-0 in
    let e = c.in_ok-initial.ensures in
    let settings = settings_in c.args.self.now in
    let kept = seen (exchanges_in ds) in
    told-objects settings (exchanges_in ds) (as_exchange u) _ e.asks e.answered
    (c.in_ok-events.ensures.told settings kept
    ∙ (ap (λ os. (table settings kept u.initial u.call u.answer (map arc_value os)).events) c.as_slice.ensures
    ∙ ap (λ (r : Row g.row.A-Value.Denot). r.events) (e.row ds h)))

pub returns-clause-quiet : goal.returns-clause-quiet
returns-clause-quiet g c h =
    let u = c.in_ok-initial.field-0 in
    let settings = settings_in c.args.self.now in
    c.in_ok-events.ensures.told settings [] ∙ tells-nothing settings [] u.initial u.call u.answer _ h

-- the call was made, and is all that the talk grew by; its answer brings something
pub returns-in_err-events-clause-lost : goal.returns-in_err-events-clause-lost
returns-in_err-events-clause-lost g c =
    let u = c.in_ok-initial.field-0 in
    let e = c.in_ok-initial.ensures in
    let settings = settings_in c.args.self.now in
    let talk = g.A.ApiMode.talk in
    on_err c.from_residual-in_err-events.result _
    (λ ds h. inr (
      e.talk.0,
      subst (λ k. raw_call settings k ≡ Some e.talk.0.call) (e.owed ds h) e.talk.1.call,
      subst (λ k. brings_raw e.talk.0.answer k ≡ true) (e.owed ds h) (brought (version_of g.A.Value.Resource.meta_of) e.talk.0 u.answer u.call e.talk.1.answer c.in_err-events.ensures.brings),
      ap (λ (w : Watching g.row.A.Denot g.row.A-Value.Denot). talk w.api) c.self.view_is ∙ e.talk.2,
    ))
