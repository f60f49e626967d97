-- What a wait is after its API was lent.
use Rattle.std.specs.Borrow.{RattleType, Lends, MutBor, Fml}
use Rattle.std.specs.HashMap.Lent.{HashMembers}
use Rattle.kube_meta.specs.declared.resource.Resource as resource
use Rattle.kube_api.specs.declared.api.ApiMode as api_mode
use Rattle.kube_watch.specs.Lending.{with_observed_api}
use Rattle.kube_final.specs.Waiting.{Awaiting, Deleting}
use Rattle.kube_final.specs.contracts.wait.AwaitCondition.{the_row as await_row}
use Rattle.kube_final.specs.contracts.delete.DeleteAndFinalize.{the_row as delete_row}

-- the wait with another API
abbrev pub with_awaited_api : {A V C : Type 0} → Awaiting A V C → A → Awaiting A V C
with_awaited_api w api = record w { watch = with_observed_api w.watch api }

-- the deletion with another API of its watch
abbrev pub with_deleting_api : {A V : Type 0} → Deleting A V → A → Deleting A V
with_deleting_api d api = record d { watch = with_observed_api d.watch api }

-- by the types of the API, its objects and what tells their types
module _ (A V D : RattleType) (a : api_mode.Ghosts A.Denot V.Denot D.Denot) (r : resource.Ghosts V.Denot D.Denot) (key : HashMembers D.Denot) where
  -- a wait ends with the last value behind the reference
  abbrev pub LendsAwaitedApi : (C : RattleType) → MutBor (Awaiting A.Denot V.Denot C.Denot) → MutBor A.Denot → Fml
  LendsAwaitedApi C w api = Lends (await_row A C V D a r (record { eq = key.eq }) (record { hash_input = key.hash_input })) A w api (with_awaited_api w.now)

  -- so does a deletion
  abbrev pub LendsDeletingApi : MutBor (Deleting A.Denot V.Denot) → MutBor A.Denot → Fml
  LendsDeletingApi d api = Lends (delete_row A V D a r (record { eq = key.eq }) (record { hash_input = key.hash_input })) A d api (with_deleting_api d.now)
