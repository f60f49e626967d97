-- A watcher's configuration as the settings of the definitions. (Crate: `watcher::Config`.)
use Rattle.std.specs.Prelude.{Bool, true, false}
use Rattle.kube_model.specs.World.{Settings}
use Rattle.kube_watch.specs.declared.config.Config.{Config}
use Rattle.kube_watch.specs.declared.config.ListSemantic.{ListSemantic}
use Rattle.kube_watch.specs.declared.config.ListSemantic.TheVariants.{MostRecent, Any}
use Rattle.kube_watch.specs.declared.config.InitialListStrategy.{InitialListStrategy}
use Rattle.kube_watch.specs.declared.config.InitialListStrategy.TheVariants.{ListWatch, StreamingList}

abbrev pub is_any : ListSemantic → Bool
is_any MostRecent = false
is_any Any = true

abbrev pub is_streaming : InitialListStrategy → Bool
is_streaming ListWatch = false
is_streaming StreamingList = true

abbrev pub settings_of : Config → Settings
settings_of c = record {
  labels = c.label_selector;
  fields = c.field_selector;
  timeout = c.timeout;
  any = is_any c.list_semantic;
  streaming = is_streaming c.initial_list_strategy;
  page_size = c.page_size;
  bookmarks = c.bookmarks;
}
