-- What a related object is mapped to: its owners, what a label of it names, or what a mapper answered; and what it requests then. (Crate: `trigger_owners`, `trigger_others`; Kubernetes API concept "owners and dependents".)
use Rattle.std.specs.Prelude.{◌≡◌, ℕ, List, [], ◌∷◌, map, Option, Some, None, unwrap_or, if◌then◌else◌}
use Rattle.std.specs.List.{filter_map}
use Rattle.std.specs.Option.{option_map}
use Rattle.kube_meta.specs.declared.metadata.ObjectMeta.{ObjectMeta}
use Rattle.kube_meta.specs.declared.metadata.OwnerReference.{OwnerReference}
use Rattle.kube_meta.specs.Reference.{ObjectType, Reference}
use Rattle.kube_meta.specs.Keys.{key_of, is_of_type}
use Rattle.kube_meta.specs.Pairs.{text_at}
use Rattle.kube_model.specs.Reason.{RelatedObjectUpdated}
use Rattle.kube_model.specs.History.{Message}

-- the reference of an owner in a namespace, where the owner is of this type
abbrev pub owner_at : ObjectType → Option (List ℕ) → OwnerReference → Option Reference
owner_at t namespace o = if is_of_type t o then Some (record { kind = t; name = o.name; namespace = namespace }) else None

-- the owners of this type of an object with this metadata, in its namespace, in order
abbrev pub owners_of : ObjectType → ObjectMeta → List Reference
owners_of t m = filter_map (owner_at t m.namespace) (unwrap_or m.owner_references [])

-- what is listed of an option
abbrev pub listed_if : {A : Type 0} → Option A → List A
listed_if None = []
listed_if (Some a) = a ∷ []

-- the object of this type, in the object's namespace, of which a label has the name; none where the label is absent
abbrev pub labelled_by : ObjectType → List ℕ → List (List ℕ × List ℕ) → Option (List ℕ) → List Reference
labelled_by t label labels namespace = listed_if (option_map (λ name. record { kind = t; name = name; namespace = namespace }) (text_at label labels))

-- a request for a reference that a related object makes
abbrev pub related_by : Reference → Reference → Message
related_by object r = record { reference = r; reason = RelatedObjectUpdated object }

-- what an object requests that is mapped to these: each of them, for its sake
abbrev pub mapped_requests : ObjectType → ObjectMeta → List Reference → List Message
mapped_requests t m references = map (related_by (key_of t m)) references

-- the same of a mapper that may answer so; V is the type of its objects
abbrev pub IsMappedTo : {V : Type 0} → ObjectType → (V → ObjectMeta) → (V → List Reference → Type 0) → V → List Message → Type 0
IsMappedTo t meta answers o part = (references : List Reference) × answers o references × (part ≡ mapped_requests t (meta o) references)
