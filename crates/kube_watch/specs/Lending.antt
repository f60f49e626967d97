-- What a watcher, and the watch of one object, are after their API was lent.
use Rattle.std.specs.Borrow.{RattleType, Lends, MutBor, Fml}
use Rattle.std.specs.HashMap.Lent.{HashMembers}
use Rattle.kube_meta.specs.declared.resource.Resource as resource
use Rattle.kube_api.specs.declared.api.ApiMode as api_mode
use Rattle.kube_watch.specs.Watching.{Watching}
use Rattle.kube_watch.specs.Objects.{Observing}
use Rattle.kube_watch.specs.contracts.watching.Watcher.{the_row}
use Rattle.kube_watch.specs.contracts.object.WatchObject.{the_row as object_row}

-- the watcher with another API
abbrev pub with_api : {A V : Type 0} → Watching A V → A → Watching A V
with_api w api = record w { api = api }

-- the watch of one object with another API
abbrev pub with_observed_api : {A V : Type 0} → Observing A V → A → Observing A V
with_observed_api o api = record o { watcher = with_api o.watcher api }

-- the type of a watcher, by those of its API, its objects and what tells their types
module _ (A V D : RattleType) (a : api_mode.Ghosts A.Denot V.Denot D.Denot) (r : resource.Ghosts V.Denot D.Denot) (key : HashMembers D.Denot) where
  -- it ends with the last value behind the reference
  abbrev pub LendsApi : MutBor (Watching A.Denot V.Denot) → MutBor A.Denot → Fml
  LendsApi w api = Lends (the_row A V D a r (record { eq = key.eq }) (record { hash_input = key.hash_input })) A w api (with_api w.now)

  -- so does the watch of one object
  abbrev pub LendsObservedApi : MutBor (Observing A.Denot V.Denot) → MutBor A.Denot → Fml
  LendsObservedApi o api = Lends (object_row A V D a r (record { eq = key.eq }) (record { hash_input = key.hash_input })) A o api (with_observed_api o.now)
