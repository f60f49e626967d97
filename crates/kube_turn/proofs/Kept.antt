-- Of a list that grows by one, what is kept grows by what is kept of that one.
use Rattle.std.proofs.Common.{◌≡◌, ◌++◌, ◌∷◌, List, [], Option, Some, None, refl, sym, ap, ◌∙◌, append_assoc}
use Rattle.std.specs.List.{filter_map, cons_option}
use Rattle.std.specs.Option.{option_to_list}
use Rattle.std.proofs.lemmas.List.Elements.{filter_map-append}

listed : {Y : Type 0} (o : Option Y) → cons_option o [] ≡ option_to_list o
listed None = refl
listed (Some y) = refl

pub kept-one : {X Y : Type 0} (keep : X → Option Y) (before now new : List Y) (xs : List X) (x : X) → now ≡ before ++ filter_map keep xs → new ≡ now ++ option_to_list (keep x)
    → new ≡ before ++ filter_map keep (xs ++ x ∷ [])
kept-one keep before now new xs x so more =
    more ∙ (ap (λ ys. ys ++ option_to_list (keep x)) so ∙ (append_assoc before (filter_map keep xs) (option_to_list (keep x))
    ∙ ap (λ ys. before ++ ys) (sym (filter_map-append keep xs (x ∷ []) ∙ ap (λ ys. filter_map keep xs ++ ys) (listed (keep x))))))
