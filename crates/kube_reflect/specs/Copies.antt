-- What the pending operations do to a copy.
use Rattle.std.specs.Prelude.{List, [], ◌∷◌, true}
use Rattle.std.specs.Arc.{arc_value}
use Rattle.kube_meta.specs.declared.metadata.ObjectMeta.{ObjectMeta}
use Rattle.kube_meta.specs.Reference.{ObjectType}
use Rattle.kube_meta.specs.Keys.{key_of}
use Rattle.kube_watch.specs.Events.{event_map}
use Rattle.kube_reflect.specs.Cached.{applied}
use Rattle.kube_reflect.specs.declared.copies.law.Entry.{Entry}
use Rattle.kube_reflect.specs.declared.copies.law.Entry.TheVariants.{Told, End}
use Rattle.kube_reflect.specs.declared.copies.copied.Copied.{Copied}
use Rattle.kube_reflect.specs.declared.copies.copied.State.{State}
use Rattle.kube_reflect.specs.declared.copies.copied.Op.{Op}
use Rattle.kube_reflect.specs.declared.copies.copied.Op.TheVariants.{Add, End as AddEnd, Name}

module _ {K D : Type 0} where
  abbrev pub state_of : Copied K D → State K D
  state_of c = record { dyntype = arc_value c.dyntype; made = c.made; has_ended = c.has_ended; seen = c.mark.seen }

module _ {K D : Type 0} (type_of : D → ObjectType) (meta : K → ObjectMeta) where
  abbrev pub worked : State K D → Op K → State K D
  worked s (Add event) = record s { made = applied (λ o. key_of (type_of s.dyntype) (meta o)) s.made (event_map arc_value event) }
  worked s AddEnd = record s { has_ended = true }
  worked s (Name m) = record s { seen = m.seen }

module _ {K : Type 0} where
  -- the entries among the operations
  abbrev pub added : List (Op K) → List (Entry K)
  added [] = []
  added (Add event ∷ ops) = Told (event_map arc_value event) ∷ added ops
  added (AddEnd ∷ ops) = End ∷ added ops
  added (Name m ∷ ops) = added ops
