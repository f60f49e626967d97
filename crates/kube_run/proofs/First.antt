-- A script's sources before they are asked.
use Rattle.std.proofs.Common.{◌≡◌, ℕ, zero, suc, List, [], ◌∷◌, ◌++◌, map, length, Some, refl, sym, ap, ap₂, ◌∙◌}
use Rattle.std.specs.Prelude.{⊤}
use Rattle.std.specs.List.{AllByRecursion, AllZip}
use Rattle.kube_meta.specs.Reading.{ObjectData}
use Rattle.kube_meta.specs.Reference.{ObjectType}
use Rattle.kube_model.specs.World.{Settings, Watched}
use Rattle.kube_asks.specs.Mapped.{RelatedStands}
use Rattle.kube_asks.specs.Places.{HoldsAt}
use Rattle.kube_asks.specs.Sources.{fed}
use Rattle.kube_script.specs.Script.{Related, Script}
use Rattle.kube_script.specs.Told.{api_at_first}
use Rattle.kube_watch.specs.Stands.{settings_in}
use Rattle.kube_run.specs.Played.{apis_at_first, type_in}
use Rattle.kube_run.specs.Sources.{AreAtFirst, AreOfScript, IsFirst, IsOfRow, Root, Source, Sources, apis_in, apis_of, list_of}

module _ (root : ObjectType) where
  rows-of : (rows : List Related) (ts : List Source) → AllZip (IsFirst root) rows ts → AllZip (IsOfRow root) rows ts
  rows-of [] [] k = tt
  rows-of [] (t ∷ ts) k = k
  rows-of (row ∷ rows) [] k = k
  rows-of (row ∷ rows) (t ∷ ts) k = (k.0.row_is, rows-of rows ts k.1)

  apis-are : (rows : List Related) (ts : List Source) → AllZip (IsFirst root) rows ts → apis_of ts ≡ map (λ r. api_at_first r.source) rows
  apis-are [] [] k = refl
  apis-are [] (t ∷ ts) k = absurd k
  apis-are (row ∷ rows) [] k = absurd k
  apis-are (row ∷ rows) (t ∷ ts) k = ap₂ (λ a rest. a ∷ rest) k.0.api (apis-are rows ts k.1)

  -- they are fed as the rows tell
  pub rows-fed : (rows : List Related) (ts : List Source) → AllZip (IsFirst root) rows ts → map (λ r. Watched r.source.watcher) rows ≡ map fed (map (λ (t : Source). Some (settings_in t.watcher)) ts)
  rows-fed [] [] k = refl
  rows-fed [] (t ∷ ts) k = absurd k
  rows-fed (row ∷ rows) [] k = absurd k
  rows-fed (row ∷ rows) (t ∷ ts) k = ap₂ (λ f fs. f ∷ fs) (ap (λ (z : Settings). Watched z) (sym k.0.row_is.settings)) (rows-fed rows ts k.1)

  pub all-stand : (rows : List Related) (ts : List Source) (place : ℕ) → AllZip (IsFirst root) rows ts → HoldsAt (λ (t : Source). RelatedStands {O = ObjectData} [] t) ts place
  all-stand [] [] place k = tt
  all-stand [] (t ∷ ts) place k = absurd k
  all-stand (row ∷ rows) [] place k = absurd k
  all-stand (row ∷ rows) (t ∷ ts) zero k = k.0.stands
  all-stand (row ∷ rows) (t ∷ ts) (suc place) k = all-stand rows ts place k.1

  -- one more row and source
  pub first-push : (rows : List Related) (ts : List Source) (row : Related) (t : Source) → AllZip (IsFirst root) rows ts → IsFirst root row t → AllZip (IsFirst root) (rows ++ row ∷ []) (ts ++ t ∷ [])
  first-push [] [] row t k f = (f, tt)
  first-push [] (u ∷ ts) row t k f = absurd k
  first-push (r ∷ rows) [] row t k f = absurd k
  first-push (r ∷ rows) (u ∷ ts) row t k f = (k.0, first-push rows ts row t k.1 f)

  pub same-count : (rows : List Related) (ts : List Source) → AllZip (IsFirst root) rows ts → length ts ≡ length rows
  same-count [] [] k = refl
  same-count [] (t ∷ ts) k = absurd k
  same-count (row ∷ rows) [] k = absurd k
  same-count (row ∷ rows) (t ∷ ts) k = ap suc (same-count rows ts k.1)

-- any of them may be asked
pub all-may : {A : Type 0} (xs : List A) → AllByRecursion (λ x. ⊤) xs
all-may [] = tt
all-may (x ∷ xs) = (tt, all-may xs)

module _ (s : Script) (r : Root) (t : Sources) (k : AreAtFirst (type_in s) s.root s.related r t) where
  pub first-apis : apis_in r t ≡ apis_at_first s
  first-apis = λ i. record { root = k.api i; related = apis-are (type_in s) s.related (list_of t) k.related i }

  pub first-of : AreOfScript s r t
  first-of = record { settings = k.settings; rows = rows-of (type_in s) s.related (list_of t) k.related }
