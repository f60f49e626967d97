-- What controllers store that stand for turns over an honest API.
use Rattle.std.proofs.Common.{◌≡◌, ℕ, ◌<◌, ◌^◌, Bool, List, [], ◌++◌, length, take, Some, unwrap_or, slice_get, sym, ap, subst, ◌∙◌}
use Rattle.kube_meta.specs.declared.resource.Resource as resource
use Rattle.kube_model.specs.declared.call.Call.TheVariants.{Next}
use Rattle.kube_model.specs.World.{World, Settings, Streamed, Watched, feed_of}
use Rattle.kube_model.specs.History.{Step, exchanges, exchanges_of}
use Rattle.kube_model.specs.Owed.{owed}
use Rattle.kube_model.specs.Raw.{Raw}
use Rattle.kube_model.specs.Recorded.{AreRecorded}
use Rattle.kube_model.specs.Store.{store_of}
use Rattle.kube_model.specs.Traces.{steps}
use Rattle.kube_history.specs.Agrees.{EachFits}
use Rattle.kube_server.specs.History.{Change, IsHistory}
use Rattle.kube_server.specs.Honest.{Selection, IsHonest}
use Rattle.kube_backoff.specs.declared.backoff.Backoff as backoff
use Rattle.kube_watch.specs.Calls.{version_of}
use Rattle.kube_asks.specs.declared.root.RootSource as root_source
use Rattle.kube_asks.specs.declared.set.RelatedSet as related_set
use Rattle.kube_control.specs.Controllers.{Controlling, StandsFor}
use Rattle.kube_server.specs.Readers.{IsByKey, IsToldAll}
use Rattle.kube_honest.specs.States.{selection_by, IsOfMetadata, IsStateAt, StoresState}
use Rattle.kube_honest.specs.Talks.{HasTold}
use Rattle.kube_honest.proofs.Turns.{exchanges-newest, trace-fits, trace-stores}

module _ {R S B O D : Type 0} (root : root_source.Ghosts R O D) (related : related_set.Ghosts S O D) (delays : backoff.Ghosts B) (object : resource.Ghosts O D) (w : World O B) where
  pub controller-stores : (h : List (Step O)) (c : Controlling R S B O D) → StandsFor root related delays object w h c → (settings : Settings) → root.feed c.asks.root ≡ Watched settings
      → (selects : Selection → O → Bool) → IsByKey object.meta_of (selects (selection_by settings)) → (history : List (Change O)) → IsHistory object.meta_of history → length history < 2 ^ 64
      → (before talk : List (Raw O)) → HasTold (version_of object.meta_of) settings before (exchanges_of 0 (exchanges h)) (Some talk) → IsHonest object.meta_of selects history talk
      → (n : ℕ) → StoresState w.key object.meta_of selects history (selection_by settings) (exchanges_of 0 (exchanges (take n h)))
  controller-stores h c s settings by selects by_key history is_history small before talk t honest n =
      let world = s.parts.world in
      let trace = s.of_trace in
      let watched : feed_of w 0 ≡ Watched settings = ap (λ fs. unwrap_or (slice_get fs 0) Streamed) world.fed_so ∙ by in
      let of_meta : IsOfMetadata w (root.kind c.asks.root) object.meta_of = record { key = world.key; version = world.version } in
      let all : talk ≡ before ++ t.talk = let e = t.is in cc in
      let recorded : AreRecorded w.version settings t.talk (exchanges_of 0 (exchanges (steps trace.turns trace.made))) =
      subst (λ g. AreRecorded w.version settings t.talk (exchanges_of 0 (exchanges g))) trace.is_steps
      (subst (λ v. AreRecorded v settings t.talk (exchanges_of 0 (exchanges h))) (sym world.version) t.recorded) in
      subst (λ g. StoresState w.key object.meta_of selects history (selection_by settings) (exchanges_of 0 (exchanges (take n g)))) (sym trace.is_steps)
      (trace-stores w settings watched (root.kind c.asks.root) object.meta_of of_meta selects history by_key is_history small trace.policies trace.turns trace.made trace.traced before t.talk recorded
      (subst (IsHonest object.meta_of selects history) all honest) n)

  pub controller-newest : (h : List (Step O)) (c : Controlling R S B O D) → StandsFor root related delays object w h c → (settings : Settings) → root.feed c.asks.root ≡ Watched settings
      → (selects : Selection → O → Bool) → IsByKey object.meta_of (selects (selection_by settings)) → (history : List (Change O)) → IsHistory object.meta_of history → length history < 2 ^ 64
      → (before talk : List (Raw O)) → HasTold (version_of object.meta_of) settings before (exchanges_of 0 (exchanges h)) (Some talk) → IsHonest object.meta_of selects history talk
      → owed (Watched settings) (exchanges_of 0 (exchanges h)) ≡ Next → IsToldAll object.meta_of selects history talk
      → IsStateAt w.key object.meta_of selects history (selection_by settings) (length history) (store_of w.key (exchanges_of 0 (exchanges h)))
  controller-newest h c s settings by selects by_key history is_history small before talk t honest owes whole =
      let world = s.parts.world in
      let trace = s.of_trace in
      let watched : feed_of w 0 ≡ Watched settings = ap (λ fs. unwrap_or (slice_get fs 0) Streamed) world.fed_so ∙ by in
      let of_meta : IsOfMetadata w (root.kind c.asks.root) object.meta_of = record { key = world.key; version = world.version } in
      let all : talk ≡ before ++ t.talk = let e = t.is in cc in
      let recorded : AreRecorded w.version settings t.talk (exchanges_of 0 (exchanges h)) = subst (λ v. AreRecorded v settings t.talk (exchanges_of 0 (exchanges h))) (sym world.version) t.recorded in
      let fits : EachFits w [] (exchanges h) = subst (λ g. EachFits w [] (exchanges g)) (sym trace.is_steps) (trace-fits w trace.policies [] trace.turns trace.made tt trace.traced) in
      exchanges-newest w settings watched (root.kind c.asks.root) object.meta_of of_meta selects history by_key is_history small (exchanges h) fits before t.talk recorded
      (subst (IsHonest object.meta_of selects history) all honest) owes (subst (IsToldAll object.meta_of selects history) all whole)
