-- What selectors ask for, and the objects of a name.
use Rattle.std.proofs.Common.{◌≡◌, ℕ, inl, inr, List, ◌++◌, None, refl}
use Rattle.std.specs.Prelude.{nat_eq}
use Rattle.std.specs.List.{starts_with}
use Rattle.std.proofs.lemmas.Bool.{cases_Bool}
use Rattle.std.proofs.lemmas.Bool.Decides.{Decides-eqb}
use Rattle.std.proofs.lemmas.Slice.Eq.{starts_is}
use Rattle.kube_server.specs.Numbers.{name_term, field_name}

-- a text that doesn't begin with the term asks for no name
pub asks_none : (text : List ℕ) → ((rest : List ℕ) → text ≡ name_term ++ rest → ⊥) → None ≡ field_name text
asks_none text lacks =
    elim (cases_Bool (starts_with nat_eq text name_term)) [
      | inl begins ↦ absurd (lacks _ ((starts_is Decides-eqb text name_term (starts_with nat_eq text name_term) refl).0 begins))
      | inr other ↦ rw other refl
    ]
