-- When what a watched root stores is a state of the history to which its API is honest. V is the type of objects, B that of a backoff's states. (Kubernetes API concepts: "resource versions", "efficient detection of changes"; crate: `Store`.)
use Rattle.std.specs.Prelude.{◌≡◌, ℕ, ◌≤◌, Bool, true, false, List, [], map, length, decimal, IsPermutation}
use Rattle.std.specs.List.{IsDistinct}
use Rattle.kube_meta.specs.declared.metadata.ObjectMeta.{ObjectMeta}
use Rattle.kube_meta.specs.Reference.{ObjectType, Reference, same_reference}
use Rattle.kube_meta.specs.Keys.{key_of as reference_to}
use Rattle.kube_model.specs.World.{World, Settings}
use Rattle.kube_model.specs.History.{Exchange}
use Rattle.kube_model.specs.Owed.{seen}
use Rattle.kube_model.specs.Store.{is_ready, store_of}
use Rattle.kube_server.specs.History.{Change}
use Rattle.kube_server.specs.Honest.{Selection, selected_at}

-- the selectors by which a root lists and watches
abbrev pub selection_by : Settings → Selection
selection_by settings = record { labels = settings.labels; fields = settings.fields }

-- the references and the versions of objects, all of one type, are those of their metadata
pub record IsOfMetadata {V B : Type 0} (w : World V B) (kind : ObjectType) (meta : V → ObjectMeta) : Type 0 where
  pub key : w.key ≡ (λ o. reference_to kind (meta o))
  pub version : w.version ≡ (λ o. (meta o).resource_version)

module _ {V : Type 0} (key : V → Reference) (meta : V → ObjectMeta) (selects : Selection → V → Bool) (history : List (Change V)) (selection : Selection) where
  -- as a map from references to objects, what is stored is the selected objects at a revision: these objects in some order, each reference once
  pub record IsStateAt (revision : ℕ) (store : List V) : Type 0 where
    pub known : revision ≤ length history
    pub same : IsPermutation store (selected_at meta selects history selection revision)
    pub once : IsDistinct same_reference (map key store)

  -- what is stored after these exchanges of a root: nothing before its first complete list, and from then on the state at the revision that the version names which was seen last
  pub record StoresState (xs : List (Exchange V)) : Type 0 where
    pub empty : is_ready xs ≡ false → store_of key xs ≡ []
    pub state : is_ready xs ≡ true → (revision : ℕ) × (seen xs ≡ decimal revision) × IsStateAt revision (store_of key xs)
