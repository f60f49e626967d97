use Rattle.std.proofs.Common.{◌≡◌, ◌++◌, map}
use Rattle.std.specs.Vec.Iter.{into_iter_items}
use Rattle.kube_meta.specs.Keys.{reference_of}
use Rattle.kube_object.specs.Named.{named_type}
use Rattle.kube_script.specs.SeenTurn.{seen_ref}
use Rattle.kube_script.specs.Told.{reference_in}
use Rattle.kube_script.proofs.told.references.Given as goal

abbrev pub invariant-loop-row : goal.invariant-loop-row
invariant-loop-row l =
    map (reference_of named_type) l.references ++ map (reference_in (named_type l.fn.kind)) (map seen_ref (into_iter_items l.row-iterator))
    ≡ map (reference_in (named_type l.fn.kind)) (map seen_ref l.fn.rows.items)
