-- What goes through the ring of an initializer.
use Rattle.std.specs.Prelude.{◌≡◌, List, [], ◌∷◌}
use Rattle.logbook.specs.Pages.{Book}
use Rattle.kube_reflect.specs.declared.delayed_init.fate.Fate.{Fate}
use Rattle.kube_reflect.specs.declared.delayed_init.fate.Fate.TheVariants.{Name, Set}

module _ {T : Type 0} where
  -- what follows a name is of its book
  abbrev pub MayFollow : List (Fate T) → Fate T → Type 0
  MayFollow [] f = Unit {0}
  MayFollow (Name s ∷ before) (Name t) = Unit {0}
  MayFollow (Name s ∷ before) (Set n) = n.seen.book ≡ s.book
  MayFollow (Set n ∷ before) f = Unit {0}

  -- the first is the name of this book
  abbrev pub IsNamed : List (Fate T) → Book → Type 0
  IsNamed [] b = ⊥
  IsNamed (Name s ∷ fates) b = s.book ≡ b
  IsNamed (Set n ∷ fates) b = ⊥
