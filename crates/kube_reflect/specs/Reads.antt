-- Reads of stored objects, each beside its reference. (Crate: `reflector::Store`.)
use Rattle.std.specs.Prelude.{◌≡◌, Bool, true, false, ◌⊎◌, List, [], ◌∷◌, map, Option, Some, None, unwrap_or}
use Rattle.std.specs.Option.{option_map}
use Rattle.kube_meta.specs.declared.metadata.ObjectMeta.{ObjectMeta}
use Rattle.kube_meta.specs.declared.selector.Expression.{Expression}
use Rattle.kube_meta.specs.Reference.{Reference}
use Rattle.kube_meta.specs.Selectors.{selects}
use Rattle.kube_model.specs.Store.{found}

module _ {O : Type 0} where
  -- the object under a reference, or else under it without its namespace
  abbrev pub object_at : List (Reference × O) → Reference → Option O
  object_at store r = option_map (λ p. p.1) (found (λ p. p.0) store r)

  -- the objects in order
  abbrev pub objects : List (Reference × O) → List O
  objects store = map (λ p. p.1) store

  -- the first object that passes
  abbrev pub IsFirst : (O → Bool → Type 0) → List O → Option O → Type 0
  IsFirst passes [] first = first ≡ None
  IsFirst passes (x ∷ xs) first = (passes x true × (first ≡ Some x)) ⊎ (passes x false × IsFirst passes xs first)

  -- the objects that pass, in order
  abbrev pub IsFiltered : (O → Bool → Type 0) → List O → List O → Type 0
  IsFiltered passes [] ys = ys ≡ []
  IsFiltered passes (x ∷ xs) ys =
      ((zs : List O) × passes x true × (ys ≡ x ∷ zs) × IsFiltered passes xs zs) ⊎ (passes x false × IsFiltered passes xs ys)

-- whether a selector holds of an object with this metadata; one without labels has none of them
abbrev pub is_selected : List Expression → ObjectMeta → Bool
is_selected selector meta = selects selector (unwrap_or meta.labels [])
