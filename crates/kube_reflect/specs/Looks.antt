-- What a look of a store handle gives. K is the type of objects, D that of dynamic types.
use Rattle.std.specs.Prelude.{◌≡◌, Bool, true, false, List, [], Option, Some, None}
use mathlib.Core.List.{IsPrefix}
use Rattle.left_right.specs.Sides.{view}
use Rattle.kube_meta.specs.declared.metadata.ObjectMeta.{ObjectMeta}
use Rattle.kube_meta.specs.Reference.{ObjectType}
use Rattle.left_right.specs.declared.reader.Reading.{Reading}
use Rattle.kube_reflect.specs.Cached.{Kept, nothing}
use Rattle.kube_reflect.specs.declared.copies.copied.Copied.{Copied}
use Rattle.kube_reflect.specs.declared.copies.law.Entry.{Entry}
use Rattle.kube_reflect.specs.declared.copies.handle.Looked.{Looked}
use Rattle.kube_reflect.specs.declared.copies.handle.Looked.TheVariants.{Nothing, Again, Read}
use Rattle.kube_reflect.specs.Entries.{has_end, is_readable}
use Rattle.kube_reflect.specs.Ties.{Home, IsTied}
use Rattle.kube_reflect.specs.Ruled.{kept_for}

-- a handle: its writer, and the list that it read or learnt
pub record Handled (K D : Type 0) : Type 0 where
  pub home : Home D
  pub seen : List (Entry K)

abbrev pub IsNothing : {O : Type 0} → Kept O → Type 0
IsNothing k = k ≡ nothing

module _ {K D : Type 0} where
  -- what is read: where nothing was handed over, nothing
  abbrev pub made_in : {V P A : Type 0} → Option (Reading (Copied K D) V P A) → Kept K
  made_in None = nothing
  made_in (Some r) = r.part.value.made

  -- whether the end is in it
  abbrev pub ended_in : {V P A : Type 0} → Option (Reading (Copied K D) V P A) → Bool
  ended_in None = false
  ended_in (Some r) = r.part.value.has_ended

module _ {K D : Type 0} (type_of : D → ObjectType) (meta : K → ObjectMeta) where
  abbrev pub Gives : Handled K D → Handled K D → Looked K D → Type 0
  Gives s t Nothing = (t ≡ s) × (s.seen ≡ [])
  Gives s t Again = t ≡ s
  Gives s t (Read r) = (t.home ≡ s.home) × IsPrefix s.seen t.seen × (r.part.value.made ≡ kept_for type_of meta t.home.dyntype t.seen) × (r.part.value.has_ended ≡ has_end t.seen) × (is_readable t.seen ≡ true) × IsTied (view r.place).at t.home
