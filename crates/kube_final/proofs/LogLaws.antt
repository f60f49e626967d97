-- Calls of a watch leave the log of a connection as it is; and what a poll of a deletion makes of the API of objects.
use Rattle.std.proofs.Common.{◌≡◌, ℕ, List, [], ◌∷◌, Option, Some, None, sym, ap, subst, ◌∙◌}
use Rattle.std.specs.Prelude.{Result}
use Rattle.kube_meta.specs.declared.metadata.ObjectMeta.{ObjectMeta}
use Rattle.kube_meta.specs.declared.dynamic.DynamicObject.{DynamicObject}
use Rattle.kube_meta.specs.declared.poll.Next.{Next}
use Rattle.kube_model.specs.History.{Exchange}
use Rattle.kube_model.specs.Raw.{Raw, RawCall, ListAsked, WatchAsked, NextAsked}
use Rattle.kube_model.specs.World.{Settings}
use Rattle.kube_api.specs.ObjectTalk.{DeleteAsked, ObjectRaw}
use Rattle.kube_watch.specs.Polls.{Api, AreCalls}
use Rattle.kube_watch.specs.Stands.{settings_in}
use Rattle.kube_server.specs.Connections.{Connection, IsMove, IsSameLog, left_by}
use Rattle.kube_server.specs.Servers.{meta_of}
use Rattle.kube_final.specs.declared.delete.Deletion.{Deletion}
use Rattle.kube_final.specs.declared.delete.Deletion.TheVariants.{Later, Told, Failed}
use Rattle.kube_final.specs.declared.delete.Error.{Error}
use Rattle.kube_final.specs.Deletions.{IsAwaited, IsDeletedBy, IsFollowed}
use Rattle.kube_final.specs.FinalizerPolls.{Objects}
use Rattle.kube_final.specs.Waiting.{Deleting}

-- ---- the log

one-call : (call : RawCall) (old new : Connection DynamicObject) → new ≡ left_by meta_of call old → IsSameLog old new
one-call (ListAsked params) old new e = (ap (λ c. c.changes) e, ap (λ c. c.compacted) e)
one-call (WatchAsked params version) old new e = (ap (λ c. c.changes) e, ap (λ c. c.compacted) e)
one-call NextAsked old new e = (ap (λ c. c.changes) e, ap (λ c. c.compacted) e)

pub calls-keep : (talk : Connection DynamicObject → Option (List (Raw DynamicObject))) (faults : Connection DynamicObject → ℕ) (version : DynamicObject → Option (List ℕ)) (settings : Settings) (now : ℕ)
    (old new : Connection DynamicObject) (xs : List (Exchange DynamicObject))
    → AreCalls (record { moves = IsMove meta_of; talk = talk; faults = faults; version = version }) settings now old xs new → IsSameLog old new
calls-keep talk faults version settings now old new [] h = (ap (λ c. c.changes) h, ap (λ c. c.compacted) h)
calls-keep talk faults version settings now old new (x ∷ xs) h =
    let rest = calls-keep talk faults version settings now h.0 new xs h.2 in
    let one = one-call h.1.raw.call old h.0 h.1.moved.left in
    (rest.0 ∙ one.0, rest.1 ∙ one.1)

-- ---- a poll of a deletion that watches a connection

module _ (talk : Connection DynamicObject → Option (List (Raw DynamicObject))) (faults : Connection DynamicObject → ℕ) (version : DynamicObject → Option (List ℕ)) where
  abbrev api : Api (Connection DynamicObject) DynamicObject
  api = record { moves = IsMove meta_of; talk = talk; faults = faults; version = version }

  awaited-keeps : (uid : List ℕ) (now fuel : ℕ) (old new : Deleting (Connection DynamicObject) DynamicObject) (answer : Next (Result (Unit {0}) Error)) → IsAwaited api meta_of uid now fuel old answer new
      → IsSameLog old.watch.watcher.api new.watch.watcher.api
  awaited-keeps uid now fuel old new answer h =
      calls-keep talk faults version (settings_in old.watch.watcher) now old.watch.watcher.api new.watch.watcher.api h.awaited.exchanges h.awaited.exchanged.calls

  still : (old new : Deleting (Connection DynamicObject) DynamicObject) → new.watch ≡ old.watch → IsSameLog old.watch.watcher.api new.watch.watcher.api
  still old new e = (ap (λ w. w.watcher.api.changes) e, ap (λ w. w.watcher.api.compacted) e)

  followed-keeps : (deletion : Deletion) (now fuel : ℕ) (old new : Deleting (Connection DynamicObject) DynamicObject) (answer : Next (Result (Unit {0}) Error))
      → IsFollowed api meta_of now fuel deletion old answer new → IsSameLog old.watch.watcher.api new.watch.watcher.api
  followed-keeps Later now fuel old new answer h = still old new h.1
  followed-keeps (Failed error) now fuel old new answer h = still old new h.1
  followed-keeps (Told uid) now fuel old new answer h = awaited-keeps uid now fuel old new answer h

  pub deletion-keeps : {O V : Type 0} (objects : Objects O V) (reply_meta : V → ObjectMeta) (uid : Option (List ℕ)) (now fuel : ℕ) (before after : O) (old new : Deleting (Connection DynamicObject) DynamicObject)
      (answer : Next (Result (Unit {0}) Error)) → IsDeletedBy objects reply_meta api meta_of now fuel uid before old answer after new → IsSameLog old.watch.watcher.api new.watch.watcher.api
  deletion-keeps objects reply_meta (Some uid) now fuel before after old new answer h = awaited-keeps uid now fuel old new answer h.1
  deletion-keeps objects reply_meta None now fuel before after old new answer h = followed-keeps h.0 now fuel old new answer h.2

-- what all calls make of an API of objects, and what holds where none is made, a poll of a deletion makes of it
pub deletion-makes : {O V A W : Type 0} (objects : Objects O V) (reply_meta : V → ObjectMeta) (api : Api A W) (meta : W → ObjectMeta) (uid : Option (List ℕ)) (now fuel : ℕ) (before after : O) (old new : Deleting A W)
    (answer : Next (Result (Unit {0}) Error)) (makes : O → O → Type 0) → ((o : O) → makes o o) → ((at : ℕ) (raw : ObjectRaw V) (o p : O) → objects.moves o at raw p → makes o p)
    → IsDeletedBy objects reply_meta api meta now fuel uid before old answer after new → makes before after
deletion-makes objects reply_meta watched meta (Some uid) now fuel before after old new answer makes still moved h = subst (λ o. makes before o) (sym h.0) (still before)
deletion-makes objects reply_meta watched meta None now fuel before after old new answer makes still moved h =
    moved now (record { call = DeleteAsked old.name; answer = h.1.answer }) before after h.1.moved
