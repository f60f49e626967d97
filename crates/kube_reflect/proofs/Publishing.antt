-- What a publish adds to the list of a book, and what that list tells.
use Rattle.std.proofs.Common.{◌≡◌, ℕ, zero, suc, ◌+◌, ◌-◌, ◌≤◌, true, false, List, [], ◌∷◌, ◌++◌, fold, drop, length, refl, ap, sym, ◌∙◌, append_assoc, length-append, arith}
use Rattle.std.proofs.lemmas.List.{append-nil, length-drop, length-map}
use Rattle.std.proofs.Math.Seq.{drop-append_seam}
use mathlib.Core.List.{IsPrefix}
use Rattle.kube_meta.specs.Reference.{Reference}
use Rattle.kube_watch.specs.declared.event.Event.{Event}
use Rattle.kube_reflect.specs.Cached.{Kept, applied, nothing}
use Rattle.kube_reflect.specs.declared.copies.law.Entry.{Entry}
use Rattle.kube_reflect.specs.declared.copies.law.Entry.TheVariants.{Told, Shown, End}
use Rattle.kube_reflect.specs.Entries.{after_entry, kept_by, has_end, is_shown, is_readable, entry_of, entries_of, told_in, IsPublished, with_publish}
use Rattle.kube_reflect.proofs.Fronts.{prefix_length}

module _ {O : Type 0} where
  pub told_append : (xs ys : List (Entry O)) → told_in (xs ++ ys) ≡ told_in xs ++ told_in ys
  told_append [] ys = refl
  told_append (Told e ∷ xs) ys = ap (λ es. Told e ∷ es) (told_append xs ys)
  told_append (Shown ∷ xs) ys = told_append xs ys
  told_append (End ∷ xs) ys = ap (λ es. End ∷ es) (told_append xs ys)

  -- events tell no publish
  told_entries : (es : List (Event O)) → told_in (entries_of es) ≡ entries_of es
  told_entries [] = refl
  told_entries (e ∷ es) = ap (λ t. Told e ∷ t) (told_entries es)

  told_drop : (n : ℕ) (es : List (Event O)) → told_in (drop n (entries_of es)) ≡ drop n (entries_of es)
  told_drop zero es = told_entries es
  told_drop (suc n) [] = refl
  told_drop (suc n) (e ∷ es) = told_drop n es

  -- nor the end
  pub no_end : (es : List (Event O)) → has_end (entries_of es) ≡ false
  no_end [] = refl
  no_end (e ∷ es) = no_end es

  -- publishes tell no end
  pub ended_told : (es : List (Entry O)) → has_end (told_in es) ≡ has_end es
  ended_told [] = refl
  ended_told (Told e ∷ es) = ended_told es
  ended_told (Shown ∷ es) = ended_told es
  ended_told (End ∷ es) = refl

  -- whether a list is readable is said by its last entry
  last_shown : (xs : List (Entry O)) (e : Entry O) → is_readable (xs ++ e ∷ []) ≡ is_shown e
  last_shown [] e = refl
  last_shown (x ∷ []) e = refl
  last_shown (x ∷ y ∷ xs) e = last_shown (y ∷ xs) e

  filled : (xs ys : List (Entry O)) → IsPrefix xs ys → xs ++ drop (length xs) ys ≡ ys
  filled xs ys p = ap (λ z. xs ++ drop (length xs) z) (sym p.1) ∙ (ap (λ z. xs ++ z) (drop-append_seam xs p.0) ∙ p.1)

  -- the list of a publish tells all events
  pub told_publish : (es : List (Entry O)) (events : List (Event O)) → IsPrefix (told_in es) (entries_of events) → told_in (with_publish es events) ≡ entries_of events
  told_publish es events p =
      let rest : List (Entry O) = drop (length (told_in es)) (entries_of events) in
      told_append es (rest ++ Shown ∷ [])
      ∙ (ap (λ t. told_in es ++ t) (told_append rest (Shown ∷ []) ∙ (append-nil (told_in rest) ∙ told_drop (length (told_in es)) events))
      ∙ filled (told_in es) (entries_of events) p)

  pub publish_readable : (es : List (Entry O)) (events : List (Event O)) → is_readable (with_publish es events) ≡ true
  publish_readable es events =
      let rest : List (Entry O) = drop (length (told_in es)) (entries_of events) in
      ap is_readable (sym (append_assoc es rest (Shown ∷ []))) ∙ last_shown (es ++ rest) Shown

  pub publish_published : (es : List (Entry O)) (events : List (Event O)) → IsPrefix (told_in es) (entries_of events) → IsPublished (with_publish es events) events
  publish_published es events p = (told_publish es events p, publish_readable es events)

  pub publish_lasts : (es : List (Entry O)) (events : List (Event O)) → IsPrefix (told_in es) (entries_of events) → has_end (with_publish es events) ≡ false
  publish_lasts es events p = sym (ended_told (with_publish es events)) ∙ (ap has_end (told_publish es events p) ∙ no_end events)

  pub publish_begun : (es : List (Entry O)) (events : List (Event O)) → IsPrefix es (with_publish es events)
  publish_begun es events = (drop (length (told_in es)) (entries_of events) ++ Shown ∷ [], refl)

  -- the book has no more events than its writer
  pub told_within : (es : List (Entry O)) (events : List (Event O)) → IsPrefix (told_in es) (entries_of events) → length (told_in es) ≤ length events
  told_within es events p =
      let a = prefix_length (told_in es) (entries_of events) p in
      let b = length-map events entry_of in
      omega arith

  pub publish_counted : (es : List (Entry O)) (events : List (Event O)) → IsPrefix (told_in es) (entries_of events) → length (told_in (with_publish es events)) ≡ length events
  publish_counted es events p = ap length (told_publish es events p) ∙ length-map events entry_of

  pub publish_within : (es : List (Entry O)) (events : List (Event O)) → IsPrefix (told_in es) (entries_of events) → IsPrefix (told_in (with_publish es events)) (entries_of events)
  publish_within es events p = ([], append-nil (told_in (with_publish es events)) ∙ told_publish es events p)

  pub publish_length : (es : List (Entry O)) (events : List (Event O)) → length (with_publish es events) ≡ length es + ((length events - length (told_in es)) + 1)
  publish_length es events =
      let rest : List (Entry O) = drop (length (told_in es)) (entries_of events) in
      let a = length-append es (rest ++ Shown ∷ []) in
      let b = length-append rest (Shown ∷ []) in
      let c = length-drop (length (told_in es)) (entries_of events) in
      let d = length-map events entry_of in
      omega arith

  -- the list with the end behind it
  pub told_end : (es : List (Entry O)) → told_in (es ++ End ∷ []) ≡ told_in es ++ End ∷ []
  told_end es = told_append es (End ∷ [])

  pub end_readable : (es : List (Entry O)) → is_readable (es ++ End ∷ []) ≡ true
  end_readable es = last_shown es End

module _ {O : Type 0} (key : O → Reference) where
  told_from : (k : Kept O) (es : List (Entry O)) → fold (after_entry key) k (told_in es) ≡ fold (after_entry key) k es
  told_from k [] = refl
  told_from k (Told e ∷ es) = told_from (applied key k e) es
  told_from k (Shown ∷ es) = told_from k es
  told_from k (End ∷ es) = told_from k es

  -- publishes store nothing
  pub kept_told : (es : List (Entry O)) → kept_by key (told_in es) ≡ kept_by key es
  kept_told es = told_from nothing es

  -- what events make, by the list of their publish
  pub kept_publish : (es : List (Entry O)) (events : List (Event O)) → IsPrefix (told_in es) (entries_of events) → kept_by key (entries_of events) ≡ kept_by key (with_publish es events)
  kept_publish es events p = ap (kept_by key) (sym (told_publish es events p)) ∙ kept_told (with_publish es events)
