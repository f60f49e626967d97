-- Whether a map of texts has a key.
use Rattle.std.proofs.Common.{◌≡◌, ℕ, Bool, true, false, ◌||◌, List, [], ◌∷◌, Option, Some, None, is_some, if◌then◌else◌, refl, ap, ◌∙◌}
use Rattle.std.specs.List.{list_any}
use Rattle.std.specs.Prelude.{option_copied}
use Rattle.std.specs.Borrow.{Bor}
use Rattle.std.specs.Str.{bytes_eq}
use Rattle.std.specs.Cmp.Lexicographic.{nat_list_eq_equiv}
use Rattle.kube_meta.specs.Pairs.{text_at}

some-branch : {A : Type 0} (b : Bool) (a : A) (o : Option A) (r : Bool) → is_some o ≡ r → is_some (if b then Some a else o) ≡ b || r
some-branch true a o r e = refl
some-branch false a o r e = e

-- there is a text under the key where a pair has it
pub some-text_at : (key : List ℕ) (ps : List (List ℕ × List ℕ)) → is_some (text_at key ps) ≡ list_any (λ a. bytes_eq a.0 key) ps
some-text_at key [] = refl
some-text_at key (p ∷ ps) =
    some-branch (bytes_eq key p.0) p.1 (text_at key ps) (list_any (λ a. bytes_eq a.0 key) ps) (some-text_at key ps)
    ∙ ap (λ b. b || list_any (λ (a : List ℕ × List ℕ). bytes_eq a.0 key) ps) (nat_list_eq_equiv.symm key p.0)

pub some-copied : {A : Type 0} (o : Option (Bor A)) → is_some o ≡ is_some (option_copied o)
some-copied None = refl
some-copied (Some a) = refl
