-- What a writer has of its two copies.
use Rattle.std.specs.Prelude.{◌≡◌, List, [], ◌∷◌, ◌++◌}
use Rattle.kube_reflect.specs.declared.copies.copied.Copied.{Copied}
use Rattle.kube_reflect.specs.declared.copies.copied.Op.{Op}
use Rattle.kube_reflect.specs.declared.copies.copied.Op.TheVariants.{Name}
use Rattle.kube_reflect.specs.declared.copies.mark.Mark.{Mark}
use Rattle.kube_reflect.specs.declared.copies.mark.Origin.{Origin}
use Rattle.kube_reflect.specs.Entries.{told_in}
use Rattle.kube_reflect.specs.Copies.{added}
use Rattle.kube_reflect.specs.Ties.{home_of, home_at}

module _ {K D : Type 0} where
  -- the copy that is shown is of this writer, and tells with the pending entries what this list tells
  abbrev pub IsBehind : Copied K D → List (Op K) → Origin K D → Type 0
  IsBehind shown pending o = (home_at shown ≡ home_of o) × (told_in shown.mark.seen.log ++ added pending ≡ told_in o.mark.seen.log)

module _ {K : Type 0} where
  -- the last operation is the name of this list
  abbrev pub IsLastName : List (Op K) → Mark K → Type 0
  IsLastName pending mark = (ops : List (Op K)) × (m : Mark K) × (pending ≡ ops ++ Name m ∷ []) × (m.seen ≡ mark.seen)
