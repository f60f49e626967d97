use Rattle.std.proofs.Common.{◌≡◌, List, ℕ, Some, None, Option, sym, ap, ◌∙◌}
use Rattle.std.specs.Option.{option_map}
use Rattle.kube_meta.specs.declared.dynamic.DynamicObject.{DynamicObject}
use Rattle.kube_model.specs.declared.params.WatchParams.{WatchParams}
use Rattle.kube_model.specs.Raw.{WatchAsked, Fails, Opens}
use Rattle.kube_server.specs.declared.watching.Watching.{Watching}
use Rattle.kube_server.specs.contracts.conn.Conn.{the_view}
use Rattle.kube_server.specs.Servers.{meta_of}
use Rattle.kube_server.specs.Watches.{watch_of}
use Rattle.kube_server.specs.Connections.{Connection, opened, fresh, after_watch}
use Rattle.kube_server.proofs.ConnLemmas.{watch_left, watch_stands, refused, begun}
use Rattle.kube_server.proofs.conn.ConnApiMode.watch.Goals as goal

asked : (params made : WatchParams) (version from : List ℕ) → made ≡ params → from ≡ version → WatchAsked made from ≡ WatchAsked params version
asked params made version from same text = ap (λ p. WatchAsked p from) same ∙ ap (λ v. WatchAsked params v) text

pub invariant_of-self-in_default : goal.invariant_of-self-in_default
invariant_of-self-in_default c =
    let old = the_view c.self.inside in
    let is : None ≡ opened meta_of c.args.params.now c.args.version.now (fresh old.changes old.compacted) = sym (ap (λ (w : Option Watching). option_map watch_of w) c.in_default.is) ∙ c.in_ok-opened.ensures.watch in
    let r = refused meta_of old c.args.params.now c.args.version.now is in
    watch_stands meta_of old c.args.params.now c.args.version.now (record { call = WatchAsked c.in_ok-call.call c.in_ok-from.from; answer = Fails c.in_ok-kept.kept }) c.asked_watch.new.log.changes old.watch c.tell.new.self.raws c.tell.new.self.failures c.in_ok-opened.ensures.kept (asked _ _ _ _ c.in_ok-call.ensures c.in_ok-from.ensures) (ap Fails c.in_ok-kept.ensures ∙ r.0) r.1 c.in_ok-tell.ensures.raws c.in_ok-tell.ensures.failures c.self.invariant

pub returns-in_default-clause-honest : goal.returns-in_default-clause-honest
returns-in_default-clause-honest c =
    let old = the_view c.self.inside in
    let is : None ≡ opened meta_of c.args.params.now c.args.version.now (fresh old.changes old.compacted) = sym (ap (λ (w : Option Watching). option_map watch_of w) c.in_default.is) ∙ c.in_ok-opened.ensures.watch in
    let r = refused meta_of old c.args.params.now c.args.version.now is in
    (watch_stands meta_of old c.args.params.now c.args.version.now (record { call = WatchAsked c.in_ok-call.call c.in_ok-from.from; answer = Fails c.in_ok-kept.kept }) c.asked_watch.new.log.changes old.watch c.tell.new.self.raws c.tell.new.self.failures c.in_ok-opened.ensures.kept (asked _ _ _ _ c.in_ok-call.ensures c.in_ok-from.ensures) (ap Fails c.in_ok-kept.ensures ∙ r.0) r.1 c.in_ok-tell.ensures.raws c.in_ok-tell.ensures.failures c.self.invariant).honest

pub invariant_of-self-2 : goal.invariant_of-self-2
invariant_of-self-2 c =
    let old = the_view c.self.inside in
    let is : Some (watch_of c.in-Some.watch) ≡ opened meta_of c.args.params.now c.args.version.now (fresh old.changes old.compacted) = sym (ap (λ (w : Option Watching). option_map watch_of w) c.in-Some.is) ∙ c.in_ok-opened.ensures.watch in
    let b = begun meta_of old c.args.params.now c.args.version.now (watch_of c.in-Some.watch) is in
    watch_stands meta_of old c.args.params.now c.args.version.now (record { call = WatchAsked c.in_ok-call.call c.in_ok-from.from; answer = Opens }) c.asked_watch.new.log.changes (Some (watch_of c.in-Some.watch)) c.tell-2.new.self.raws c.tell-2.new.self.failures c.in_ok-opened.ensures.kept (asked _ _ _ _ c.in_ok-call.ensures c.in_ok-from.ensures) b.0 b.1 c.in_ok-tell-2.ensures.raws c.in_ok-tell-2.ensures.failures c.self.invariant

pub returns-clause-honest : goal.returns-clause-honest
returns-clause-honest c =
    let old = the_view c.self.inside in
    let is : Some (watch_of c.in-Some.watch) ≡ opened meta_of c.args.params.now c.args.version.now (fresh old.changes old.compacted) = sym (ap (λ (w : Option Watching). option_map watch_of w) c.in-Some.is) ∙ c.in_ok-opened.ensures.watch in
    let b = begun meta_of old c.args.params.now c.args.version.now (watch_of c.in-Some.watch) is in
    (watch_stands meta_of old c.args.params.now c.args.version.now (record { call = WatchAsked c.in_ok-call.call c.in_ok-from.from; answer = Opens }) c.asked_watch.new.log.changes (Some (watch_of c.in-Some.watch)) c.tell-2.new.self.raws c.tell-2.new.self.failures c.in_ok-opened.ensures.kept (asked _ _ _ _ c.in_ok-call.ensures c.in_ok-from.ensures) b.0 b.1 c.in_ok-tell-2.ensures.raws c.in_ok-tell-2.ensures.failures c.self.invariant).honest

pub returns-clause-after : goal.returns-clause-after
returns-clause-after c =
    let old = the_view c.self.inside in
    let is : Some (watch_of c.in-Some.watch) ≡ opened meta_of c.args.params.now c.args.version.now (fresh old.changes old.compacted) = sym (ap (λ (w : Option Watching). option_map watch_of w) c.in-Some.is) ∙ c.in_ok-opened.ensures.watch in
    let b = begun meta_of old c.args.params.now c.args.version.now (watch_of c.in-Some.watch) is in
    sym (watch_left meta_of old c.args.params.now c.args.version.now (record { call = WatchAsked c.in_ok-call.call c.in_ok-from.from; answer = Opens }) c.asked_watch.new.log.changes (Some (watch_of c.in-Some.watch)) c.tell-2.new.self.raws c.tell-2.new.self.failures c.in_ok-opened.ensures.kept (asked _ _ _ _ c.in_ok-call.ensures c.in_ok-from.ensures) b.0 b.1 c.in_ok-tell-2.ensures.raws c.in_ok-tell-2.ensures.failures)
    ∙ ap (λ (d : Connection DynamicObject). after_watch meta_of c.args.params.now c.args.version.now d) c.self.view_is

pub returns-clause-moves : goal.returns-clause-moves
returns-clause-moves c =
    let old = the_view c.self.inside in
    let is : Some (watch_of c.in-Some.watch) ≡ opened meta_of c.args.params.now c.args.version.now (fresh old.changes old.compacted) = sym (ap (λ (w : Option Watching). option_map watch_of w) c.in-Some.is) ∙ c.in_ok-opened.ensures.watch in
    let b = begun meta_of old c.args.params.now c.args.version.now (watch_of c.in-Some.watch) is in
    record {
      answer = b.0;
      left =
          sym (watch_left meta_of old c.args.params.now c.args.version.now (record { call = WatchAsked c.in_ok-call.call c.in_ok-from.from; answer = Opens }) c.asked_watch.new.log.changes (Some (watch_of c.in-Some.watch)) c.tell-2.new.self.raws c.tell-2.new.self.failures c.in_ok-opened.ensures.kept (asked _ _ _ _ c.in_ok-call.ensures c.in_ok-from.ensures) b.0 b.1 c.in_ok-tell-2.ensures.raws c.in_ok-tell-2.ensures.failures)
          ∙ ap (λ (d : Connection DynamicObject). after_watch meta_of c.args.params.now c.args.version.now d) c.self.view_is;
    }
