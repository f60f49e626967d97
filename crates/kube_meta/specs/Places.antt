-- Faults of a value, and where they stand: JSON Pointers (RFC 6901).
use Rattle.std.specs.Prelude.{◌≡◌, ℕ, ◌==◌, List, [], ◌∷◌, ◌++◌, Result, Ok, Err, if◌then◌else◌}
use Rattle.kube_meta.specs.declared.object_fault.ObjectFault.{ObjectFault}
use Rattle.kube_meta.specs.declared.object_fault.ObjectFault.TheVariants.{NoMemory, Shape, Fraction}

-- a member's name as a part of a pointer: `~0` stands for `~`, and `~1` for `/`
unfoldable pub escaped : List ℕ → List ℕ
escaped [] = []
escaped (c ∷ cs) = if c == 126 then 126 ∷ 48 ∷ escaped cs else (if c == 47 then 126 ∷ 49 ∷ escaped cs else c ∷ escaped cs)

-- a fault, seen from the value in which the faulty one is this part
abbrev pub under : List ℕ → ObjectFault → ObjectFault
under part NoMemory = NoMemory
under part (Shape place) = Shape (47 ∷ (part ++ place))
under part (Fraction place) = Fraction (47 ∷ (part ++ place))

abbrev pub beneath : {A : Type 0} → List ℕ → Result A ObjectFault → Result A ObjectFault
beneath part (Ok x) = Ok x
beneath part (Err e) = Err (under part e)

-- a value of another form than is wanted
abbrev pub misshapen : {A : Type 0} → Result A ObjectFault
misshapen = Err (Shape [])

infixl 10 ◌>>=◌
abbrev pub ◌>>=◌ : {A B : Type 0} → Result A ObjectFault → (A → Result B ObjectFault) → Result B ObjectFault
(Ok x) >>= f = f x
(Err e) >>= f = Err e

-- ---- what a function returned, unless memory ran out

abbrev pub IsUnlessMemory : ObjectFault → ObjectFault → Type 0
IsUnlessMemory NoMemory wanted = Unit {0}
IsUnlessMemory (Shape place) wanted = wanted ≡ Shape place
IsUnlessMemory (Fraction place) wanted = wanted ≡ Fraction place

abbrev pub Fails : {A : Type 0} → ObjectFault → Result A ObjectFault → Type 0
Fails NoMemory wanted = Unit {0}
Fails (Shape place) wanted = wanted ≡ Err (Shape place)
Fails (Fraction place) wanted = wanted ≡ Err (Fraction place)

-- what was returned, seen by view, is what is wanted, unless memory ran out
abbrev pub Gives : {A B : Type 0} → (A → B) → Result A ObjectFault → Result B ObjectFault → Type 0
Gives view (Ok x) wanted = wanted ≡ Ok (view x)
Gives view (Err e) wanted = Fails e wanted
