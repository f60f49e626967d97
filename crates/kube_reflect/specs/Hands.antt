-- What a writer hands over to a store handle. K is the type of objects, D that of dynamic types.
use Rattle.std.specs.Prelude.{◌≡◌, List, [], ◌∷◌}
use Rattle.left_right.specs.Sides.{view}
use Rattle.kube_reflect.specs.declared.copies.hand.Hand.{Hand}
use Rattle.kube_reflect.specs.declared.copies.hand.Hand.TheVariants.{Name, Tied}
use Rattle.kube_reflect.specs.Ties.{Home, home_of, IsTied}

module _ {K D : Type 0} where
  -- what follows a name is tied to its writer
  abbrev pub MayFollow : List (Hand K D) → Hand K D → Type 0
  MayFollow [] h = Unit {0}
  MayFollow (Name o ∷ before) (Name p) = Unit {0}
  MayFollow (Name o ∷ before) (Tied r) = IsTied (view r.place).at (home_of o)
  MayFollow (Tied r ∷ before) h = Unit {0}

  -- the first is the name of this writer
  abbrev pub IsNamed : List (Hand K D) → Home D → Type 0
  IsNamed [] h = ⊥
  IsNamed (Name o ∷ hands) h = home_of o ≡ h
  IsNamed (Tied r ∷ hands) h = ⊥
