-- To which references a script's related objects are mapped.
use Rattle.std.specs.Prelude.{◌≡◌, ℕ, List, [], unwrap_or}
use Rattle.kube_meta.specs.Reading.{ObjectData}
use Rattle.kube_meta.specs.Reference.{ObjectType, Reference}
use Rattle.kube_model.specs.Mapping.{labelled_by, owners_of}
use Rattle.kube_object.specs.Named.{named_type}
use Rattle.kube_script.specs.Script.{Mapped, ByOwners, ByLabel}
use Rattle.kube_run.specs.declared.mapper.ScriptMapper.{ScriptMapper}
use Rattle.kube_run.specs.declared.mapper.ScriptMapper.TheVariants as mappers

-- to the object of this type, in its namespace, that a label of an object names
abbrev pub labelled : ObjectType → List ℕ → ObjectData → List Reference
labelled t label o = labelled_by t label (unwrap_or o.metadata.labels []) o.metadata.namespace

-- an object is mapped to these objects of a type
abbrev pub mapped_by : ObjectType → Mapped → ObjectData → List Reference
mapped_by t ByOwners o = owners_of t o.metadata
mapped_by t (ByLabel label) o = labelled t label o

-- so a mapper does
abbrev pub mapped_as : ScriptMapper → ObjectData → List Reference
mapped_as (mappers.Owners m) o = owners_of (named_type m.dyntype) o.metadata
mapped_as (mappers.Label m) o = labelled (named_type m.dyntype) m.label o
