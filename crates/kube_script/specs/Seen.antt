-- A script as it is held, seen as plain data.
use Rattle.kube_model.specs.World.{Settings}
use Rattle.kube_turn.specs.declared.config.Config as turns
use Rattle.kube_watch.specs.declared.config.Config as watchers
use Rattle.kube_watch.specs.Configs.{settings_of}
use Rattle.kube_script.specs.declared.settings.BackoffRow as held
use Rattle.kube_script.specs.declared.settings.BackoffRow.TheVariants as backoffs
use Rattle.kube_script.specs.Script.{Config, Backoff, ByDefault, Stopping, Exponential}

abbrev pub seen_config : turns.Config → Config
seen_config c = record { debounce = c.debounce; concurrency = c.concurrency }

abbrev pub seen_backoff : held.BackoffRow → Backoff
seen_backoff backoffs.ByDefault = ByDefault
seen_backoff backoffs.Stopping = Stopping
seen_backoff (backoffs.Exponential min num den cap) = Exponential min num den cap

abbrev pub seen_watcher : watchers.Config → Settings
seen_watcher c = settings_of c
