-- The sources of a script's controller.
use Rattle.std.specs.Prelude.{◌≡◌, List, [], map, None}
use Rattle.std.specs.List.{AllZip}
use Rattle.kube_meta.specs.Reading.{ObjectData}
use Rattle.kube_meta.specs.Reference.{ObjectType}
use Rattle.kube_meta.specs.Resources.{resource_type}
use Rattle.kube_asks.specs.Mapped.{MappedWatching}
use Rattle.kube_asks.specs.Roots.{RootWatching}
use Rattle.kube_asks.specs.declared.related_list.RelatedList.{RelatedList}
use Rattle.kube_asks.specs.declared.sets.Beside.{Beside}
use Rattle.kube_asks.specs.declared.sets.NoRelated.{NoRelated}
use Rattle.kube_script.specs.Script.{Related, Script, Source as source_row}
use Rattle.kube_script.specs.Told.{api_at_first}
use Rattle.kube_watch.specs.Stands.{StandsFor, api_of, settings_in}
use Rattle.kube_run.specs.Mapped.{mapped_as, mapped_by}
use Rattle.kube_run.specs.Played.{Api, Apis, type_in}
use Rattle.kube_run.specs.declared.mapper.ScriptMapper.{ScriptMapper}

-- a related source: it lists and watches, and maps objects to those of the root's type
abbrev pub Source : Type 0
Source = MappedWatching Api ObjectData ScriptMapper

-- it lists and watches, and maps to objects of this type, as a row of the script tells
pub record IsOfRow (root : ObjectType) (row : Related) (t : Source) : Type 0 where
  pub settings : settings_in t.watcher ≡ row.source.watcher
  pub kind : t.kind ≡ resource_type row.kind
  pub maps : mapped_as t.mapper ≡ mapped_by root row.mapped

-- so does one that was not asked yet, whose API answers as the row tells
pub record IsFirst (root : ObjectType) (row : Related) (t : Source) : Type 0 where
  pub row_is : IsOfRow root row t
  pub api : api_of t.watcher ≡ api_at_first row.source
  pub stands : StandsFor [] t.watcher × (t.fault ≡ None)

-- a root and related sources, of which none was asked yet, whose APIs answer as these rows tell; the root's objects are of this type
pub record AreAtFirst (kind : ObjectType) (row : source_row) (rows : List Related) (r : RootWatching Api ObjectData) (t : Beside NoRelated (RelatedList Source)) : Type 0 where
  pub api : api_of r.watcher ≡ api_at_first row
  pub settings : settings_in r.watcher ≡ row.watcher
  pub related : AllZip (IsFirst kind) rows t.rest.items.items

-- ---- sources that are asked

abbrev pub Root : Type 0
Root = RootWatching Api ObjectData

abbrev pub Sources : Type 0
Sources = Beside NoRelated (RelatedList Source)

abbrev pub list_of : Sources → List Source
list_of s = s.rest.items.items

-- what the APIs of sources have left
abbrev pub apis_of : List Source → List Api
apis_of ts = map (λ t. api_of t.watcher) ts

abbrev pub apis_in : Root → Sources → Apis
apis_in r s = record { root = api_of r.watcher; related = apis_of (list_of s) }

-- how sources are asked is as a script tells, whatever they were asked
pub record AreOfScript (s : Script) (r : Root) (t : Sources) : Type 0 where
  pub settings : settings_in r.watcher ≡ s.root.watcher
  pub rows : AllZip (IsOfRow (type_in s)) s.related (list_of t)
