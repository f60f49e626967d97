-- Roots over the same API. A is the type of an API, V that of its objects.
use Rattle.std.specs.Prelude.{◌≡◌}
use Rattle.kube_model.specs.World.{Settings}
use Rattle.kube_watch.specs.Stands.{api_of, settings_in}
use Rattle.kube_asks.specs.Roots.{RootWatching}

-- roots that list and watch by these settings, over the same API
pub record HaveSameApi {A V : Type 0} (settings : Settings) (r q : RootWatching A V) : Type 0 where
  pub api : api_of r.watcher ≡ api_of q.watcher
  pub one : settings_in r.watcher ≡ settings
  pub other : settings_in q.watcher ≡ settings
