-- Lists that are cut at the last item that passes a test.
use Rattle.std.specs.Prelude.{Bool, List, [], ◌∷◌, Option, None, if◌then◌else◌}
use Rattle.std.specs.List.{list_any, last_or}

abbrev pub last : {A : Type 0} → List A → Option A
last xs = last_or None xs

-- up to the last that passes; nothing where none does
abbrev pub up_to_last : {A : Type 0} → (A → Bool) → List A → List A
up_to_last p [] = []
up_to_last p (x ∷ xs) = if list_any p (x ∷ xs) then x ∷ up_to_last p xs else []

-- after the last that passes; all where none does
abbrev pub after_last : {A : Type 0} → (A → Bool) → List A → List A
after_last p [] = []
after_last p (x ∷ xs) = if list_any p xs then after_last p xs else if p x then xs else x ∷ xs

-- from the last that passes on; all where none does
abbrev pub from_last : {A : Type 0} → (A → Bool) → List A → List A
from_last p [] = []
from_last p (x ∷ xs) = if list_any p xs then from_last p xs else x ∷ xs
