-- Cutting a list with one more item at its end.
use Rattle.std.proofs.Common.{◌≡◌, Bool, true, false, ◌||◌, List, [], ◌∷◌, ◌++◌, Option, Some, None, if◌then◌else◌, refl, ap, ◌∙◌}
use Rattle.std.specs.List.{list_any, last_or}
use Rattle.std.proofs.lemmas.List.Folds.{list_any-append}
use Rattle.std.proofs.Math.Bool.{or-true, or-false}
use Rattle.kube_model.specs.Cuts.{last, up_to_last, after_last, from_last}

pub last_or-push : {A : Type 0} (o : Option A) (xs : List A) (x : A) → last_or o (xs ++ x ∷ []) ≡ Some x
last_or-push o [] x = refl
last_or-push o (y ∷ xs) x = last_or-push (Some y) xs x

pub last-push : {A : Type 0} (xs : List A) (x : A) → last (xs ++ x ∷ []) ≡ Some x
last-push xs x = last_or-push None xs x

-- a test of a list and one more
pub any-hit : {A : Type 0} (p : A → Bool) (xs : List A) (x : A) → p x ≡ true → list_any p (xs ++ x ∷ []) ≡ true
any-hit p xs x h = list_any-append p xs (x ∷ []) ∙ ap (λ b. list_any p xs || (b || false)) h ∙ or-true (list_any p xs)

pub any-miss : {A : Type 0} (p : A → Bool) (xs : List A) (x : A) → p x ≡ false → list_any p (xs ++ x ∷ []) ≡ list_any p xs
any-miss p xs x h = list_any-append p xs (x ∷ []) ∙ ap (λ b. list_any p xs || (b || false)) h ∙ or-false (list_any p xs)

pub up_to_last-hit : {A : Type 0} (p : A → Bool) (xs : List A) (x : A) → p x ≡ true → up_to_last p (xs ++ x ∷ []) ≡ xs ++ x ∷ []
up_to_last-hit p [] x h = ap (λ b. if (b || false) then x ∷ [] else []) h
up_to_last-hit p (y ∷ xs) x h =
    ap (λ b. if b then y ∷ up_to_last p (xs ++ x ∷ []) else []) (any-hit p (y ∷ xs) x h)
    ∙ ap (λ zs. y ∷ zs) (up_to_last-hit p xs x h)

pub up_to_last-miss : {A : Type 0} (p : A → Bool) (xs : List A) (x : A) → p x ≡ false → up_to_last p (xs ++ x ∷ []) ≡ up_to_last p xs
up_to_last-miss p [] x h = ap (λ b. if (b || false) then x ∷ [] else []) h
up_to_last-miss p (y ∷ xs) x h =
    ap (λ b. if b then y ∷ up_to_last p (xs ++ x ∷ []) else []) (any-miss p (y ∷ xs) x h)
    ∙ ap (λ zs. if (list_any p (y ∷ xs)) then y ∷ zs else []) (up_to_last-miss p xs x h)

pub after_last-hit : {A : Type 0} (p : A → Bool) (xs : List A) (x : A) → p x ≡ true → after_last p (xs ++ x ∷ []) ≡ []
after_last-hit p [] x h = ap (λ b. if b then [] else x ∷ []) h
after_last-hit p (y ∷ xs) x h =
    ap (λ b. if b then after_last p (xs ++ x ∷ []) else if p y then xs ++ x ∷ [] else y ∷ (xs ++ x ∷ [])) (any-hit p xs x h)
    ∙ after_last-hit p xs x h

if-push : {A : Type 0} (b : Bool) (xs ys : List A) (x : A) → (if b then xs ++ x ∷ [] else ys ++ x ∷ []) ≡ (if b then xs else ys) ++ x ∷ []
if-push true xs ys x = refl
if-push false xs ys x = refl

pub after_last-miss : {A : Type 0} (p : A → Bool) (xs : List A) (x : A) → p x ≡ false → after_last p (xs ++ x ∷ []) ≡ after_last p xs ++ x ∷ []
after_last-miss p [] x h = ap (λ b. if b then [] else x ∷ []) h
after_last-miss p (y ∷ xs) x h =
    ap (λ b. if b then after_last p (xs ++ x ∷ []) else if p y then xs ++ x ∷ [] else y ∷ (xs ++ x ∷ [])) (any-miss p xs x h)
    ∙ ap (λ zs. if (list_any p xs) then zs else if p y then xs ++ x ∷ [] else y ∷ (xs ++ x ∷ [])) (after_last-miss p xs x h)
    ∙ ap (λ zs. if (list_any p xs) then after_last p xs ++ x ∷ [] else zs) (if-push (p y) xs (y ∷ xs) x)
    ∙ if-push (list_any p xs) (after_last p xs) (if p y then xs else y ∷ xs) x

pub from_last-hit : {A : Type 0} (p : A → Bool) (xs : List A) (x : A) → p x ≡ true → from_last p (xs ++ x ∷ []) ≡ x ∷ []
from_last-hit p [] x h = refl
from_last-hit p (y ∷ xs) x h =
    ap (λ b. if b then from_last p (xs ++ x ∷ []) else y ∷ (xs ++ x ∷ [])) (any-hit p xs x h) ∙ from_last-hit p xs x h

pub from_last-miss : {A : Type 0} (p : A → Bool) (xs : List A) (x : A) → p x ≡ false → from_last p (xs ++ x ∷ []) ≡ from_last p xs ++ x ∷ []
from_last-miss p [] x h = refl
from_last-miss p (y ∷ xs) x h =
    ap (λ b. if b then from_last p (xs ++ x ∷ []) else y ∷ (xs ++ x ∷ [])) (any-miss p xs x h)
    ∙ ap (λ zs. if (list_any p xs) then zs else y ∷ (xs ++ x ∷ [])) (from_last-miss p xs x h)
    ∙ if-push (list_any p xs) (from_last p xs) (y ∷ xs) x
