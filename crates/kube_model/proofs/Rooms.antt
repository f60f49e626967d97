-- Which candidates are taken: one is, exactly where fewer than the room are found before it.
use Rattle.std.proofs.Common.{◌≡◌, ℕ, ◌+◌, cond, List, [], ◌∷◌, ◌++◌, if◌then◌else◌, is_some, sym, ap, ◌∙◌, append_assoc, arith}
use Rattle.std.specs.List.{count_by}
use Rattle.std.proofs.lemmas.List.Sums.{sum_by-cons}
use Rattle.kube_model.specs.History.{Taken}
use Rattle.kube_model.specs.Takes.{found_with, has_room, within_room}

module _ {O : Type 0} (limit running : ℕ) where
  -- how many of these were found
  abbrev found_count : List (Taken O) → ℕ
  found_count ts = count_by (λ t. is_some t.object) ts

  counted : (t : Taken O) (ts : List (Taken O)) → found_count (t ∷ ts) ≡ (if is_some t.object then 1 else 0) + found_count ts
  counted t ts = sum_by-cons (λ (u : Taken O). cond (is_some u.object) 1 0) t ts

  pub room-split : (n : ℕ) (before : List (Taken O)) (t : Taken O) (after : List (Taken O))
      → within_room limit running n (before ++ t ∷ after)
      ≡ within_room limit running n before ++ ((if has_room limit running (n + found_count before) then t ∷ [] else []) ++ within_room limit running (found_with (n + found_count before) t.object) after)
  room-split n [] t after = ap (λ k. (if has_room limit running k then t ∷ [] else []) ++ within_room limit running (found_with k t.object) after) (omega arith)
  room-split n (u ∷ before) t after =
      ap (λ ts. (if has_room limit running n then u ∷ [] else []) ++ ts) (room-split (found_with n u.object) before t after)
      ∙ sym (append_assoc (if has_room limit running n then u ∷ [] else []) (within_room limit running (found_with n u.object) before) _)
      ∙ ap (λ k. within_room limit running n (u ∷ before) ++ ((if has_room limit running k then t ∷ [] else []) ++ within_room limit running (found_with k t.object) after))
      (let c = counted u before in omega (arith, c))
