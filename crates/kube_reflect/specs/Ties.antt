-- Which writer something is of: its book, and what is known of the type of its objects. K is the type of objects, D that of dynamic types.
use Rattle.std.specs.Prelude.{◌≡◌, Option, Some, None}
use Rattle.std.specs.Arc.{arc_value}
use Rattle.logbook.specs.Pages.{Book}
use Rattle.kube_reflect.specs.declared.copies.copied.Copied.{Copied}
use Rattle.kube_reflect.specs.declared.copies.mark.Origin.{Origin}

pub record Home (D : Type 0) : Type 0 where
  pub book : Book
  pub dyntype : D

module _ {K D : Type 0} where
  abbrev pub home_of : Origin K D → Home D
  home_of o = record { book = o.mark.seen.book; dyntype = arc_value o.dyntype }

  -- that of a copy
  abbrev pub home_at : Copied K D → Home D
  home_at c = record { book = c.mark.seen.book; dyntype = arc_value c.dyntype }

  -- what is known, if anything, is of this writer
  abbrev pub Fits : Option (Origin K D) → Home D → Type 0
  Fits None h = Unit {0}
  Fits (Some o) h = home_of o ≡ h

  -- something of this writer is known
  abbrev pub IsTied : Option (Origin K D) → Home D → Type 0
  IsTied None h = ⊥
  IsTied (Some o) h = home_of o ≡ h
