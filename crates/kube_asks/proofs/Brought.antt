-- Units that tell something.
use Rattle.std.proofs.Common.{◌≡◌, ◌<◌, ℕ, suc, Bool, true, false, List, [], ◌∷◌, length, map, refl, ap, arith}
use Rattle.kube_watch.specs.declared.unit.Unit.{Unit as Made}
use Rattle.kube_watch.specs.Calls.{brings}
use Rattle.kube_watch.specs.Units.{events_of}

none-of : {A B : Type 0} (f : A → B) (xs : List A) → 0 < length xs → map f xs ≡ [] → ⊥
none-of f [] some e = absurd (omega (arith, some))
none-of f (x ∷ xs) some e = let z : suc (length (map f xs)) ≡ 0 = ap length e in absurd (omega (arith, z))

-- the answer of a unit that tells something brings something
pub some-brings : {V : Type 0} (u : Made V) → 0 < length u.events → (brings u.answer u.call ≡ false → events_of u ≡ []) → brings u.answer u.call ≡ true
some-brings u some quiet = go (brings u.answer u.call) refl
  where
    go : (b : Bool) → brings u.answer u.call ≡ b → brings u.answer u.call ≡ true
    go true e = e
    go false e = absurd (none-of _ u.events some (quiet e))
