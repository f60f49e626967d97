-- The rule of the two copies.
use Rattle.std.specs.Prelude.{ℕ, ◌≡◌, true, false, List}
use Rattle.std.specs.Arc.{arc_value}
use mathlib.Core.Option.{some}
use lib.ListN.{get_elem?}
use Rattle.kube_meta.specs.declared.metadata.ObjectMeta.{ObjectMeta}
use Rattle.kube_meta.specs.Reference.{ObjectType}
use Rattle.kube_meta.specs.Keys.{key_of}
use Rattle.kube_reflect.specs.Cached.{Kept}
use Rattle.kube_reflect.specs.declared.copies.copied.Copied.{Copied}
use Rattle.kube_reflect.specs.declared.copies.law.Entry.{Entry}
use Rattle.kube_reflect.specs.declared.copies.mark.Origin.{Origin}
use Rattle.kube_reflect.specs.declared.copies.rule.View.{View}
use Rattle.kube_reflect.specs.Entries.{kept_by, has_end, is_readable}
use Rattle.kube_reflect.specs.Ties.{Fits, IsTied, home_at}

module _ {K D : Type 0} (type_of : D → ObjectType) (meta : K → ObjectMeta) where
  -- what a list makes of objects of this type
  abbrev pub kept_for : D → List (Entry K) → Kept K
  kept_for d log = kept_by (λ o. key_of (type_of d) (meta o)) log

  -- a list made this, doesn't tell the end, and may be read
  abbrev pub IsMadeOf : Origin K D → Kept K → Type 0
  IsMadeOf o kept = (kept ≡ kept_for (arc_value o.dyntype) o.mark.seen.log) × (has_end o.mark.seen.log ≡ false) × (is_readable o.mark.seen.log ≡ true)

  -- a copy is what its list makes, which was made readable
  abbrev pub IsTrue : Copied K D → Type 0
  IsTrue x = (x.made ≡ kept_for (arc_value x.dyntype) x.mark.seen.log) × (x.has_ended ≡ has_end x.mark.seen.log) × (is_readable x.mark.seen.log ≡ true)

  -- the copy that is shown is what its list makes, and each place knows its writer, or nothing
  abbrev pub AllKept : Copied K D → List (View K D) → Type 0
  AllKept x views = IsTrue x × ((seat : ℕ) (v : View K D) → get_elem? views seat ≡ some v → Fits v.at (home_at x))

  -- what is then shown is of the writer that was known, which is known from then on
  abbrev pub Saw : View K D → Copied K D → Copied K D → View K D → Type 0
  Saw v x y w = IsTrue y × Fits v.at (home_at y) × IsTied w.at (home_at y)
