-- What the patches of finalizers make of the document of the object of a life.
use Rattle.std.proofs.Common.{◌≡◌, ℕ, ◌^◌, ◌<◌, List, [], ◌∷◌, ◌++◌, map, Option, Some, None, Result, Ok, Err, Bool, true, false, cond, refl, sym, ap, ◌∙◌, true≢false}
use Rattle.std.specs.Prelude.{slice_get, remove, option_map}
use Rattle.serde_json.specs.Data.{Data, null, string}
use Rattle.serde_json.specs.Written.{items_have_float}
use Rattle.serde_json.specs.View.{items_of}
use Rattle.kube_api.specs.declared.patch.PatchRefusal.{PatchRefusal}
use Rattle.kube_api.specs.declared.patch.PatchRefusal.TheVariants.{TestFailed}
use Rattle.kube_api.specs.Patches.{Change, Tests, Changes, Puts, Takes, found_at, changed_at, patched, passes, stays}
use Rattle.kube_final.specs.declared.finalizer.Decision.{Decision}
use Rattle.kube_final.specs.declared.finalizer.Decision.TheVariants.{Apply, Cleanup, AddFirst, AddMore, Nothing, Unnamed}
use Rattle.kube_final.specs.Finalizers.{names_data, list_path, item_path, end_path, removal, first_addition, addition, patch_on}
use Rattle.kube_final.specs.Lives.{same_names, is_at, is_empty, patched_by}
use Rattle.kube_final.specs.Playing.{IsSendable}
use Rattle.kube_final.proofs.EqualTexts.{text-test, list-test}
use Rattle.kube_final.proofs.Documents.{document, list_of, list-found, item-found, list-put, end-put, item-taken, list-stays}

-- ---- tests

no-floats : (names : List (List ℕ)) → items_have_float (items_of (map string names)) ≡ false
no-floats [] = refl
no-floats (n ∷ ns) = no-floats ns

pub null-test : (names : List (List ℕ)) → passes null (list_of names) ≡ is_empty names
null-test [] = refl
null-test (n ∷ ns) = rw (no-floats ns) refl

pub seen-test : (s : List ℕ) (ss names : List (List ℕ)) → passes (names_data (s ∷ ss)) (list_of names) ≡ same_names (s ∷ ss) names
seen-test s ss [] = refl
seen-test s ss (n ∷ ns) = rw (no-floats ns, no-floats ss) (list-test (n ∷ ns) (s ∷ ss))

pub name-test : (name : List ℕ) (found : Option (List ℕ)) → passes (string name) (option_map string found) ≡ is_at name found
name-test name None = refl
name-test name (Some other) = text-test other name

pub found-name : (name : List ℕ) (found : Option (List ℕ)) → is_at name found ≡ true → (n : List ℕ) × (found ≡ Some n)
found-name name None h = absurd (true≢false (sym h))
found-name name (Some n) h = (n, refl)

-- ---- a test and a change

pub two-steps : (b : Bool) (p q : List ℕ) (v : Data) (change : Change) (before after : Data) → passes v (found_at p before) ≡ b
    → (b ≡ true → changed_at change q before ≡ Some after) → (b ≡ true → stays before after ≡ true)
    → patched (Tests p v ∷ Changes q change ∷ []) before ≡ cond b (Ok after) (Err (TestFailed 0))
two-steps true p q v change before after test changes stays = rw (test, changes refl, stays refl) refl
two-steps false p q v change before after test changes stays = rw test refl

-- ---- the patches

module _ (uid version : List ℕ) (deleted : Option (List ℕ)) where
  abbrev pub with : List (List ℕ) → Data
  with names = document uid version deleted (list_of names)

  abbrev pub after : List (List ℕ) → Data
  after names = document uid version deleted (Some (names_data names))

  item-there : (names : List (List ℕ)) (i : ℕ) (n : List ℕ) → slice_get names i ≡ Some n → with names ≡ after names
  item-there [] i n e = cc
  item-there (m ∷ ms) i n e = refl

  take-named : (name : List ℕ) (names : List (List ℕ)) (i : ℕ) → i < 2 ^ 64 → is_at name (slice_get names i) ≡ true → changed_at Takes (item_path i) (with names) ≡ Some (after (remove names i))
  take-named name names i small h =
      let there = found-name name (slice_get names i) h in
      ap (changed_at Takes (item_path i)) (item-there names i there.0 there.1) ∙ item-taken uid version deleted names i there.0 small there.1

  pub removed-by : (name : List ℕ) (names : List (List ℕ)) (i : ℕ) → i < 2 ^ 64
      → patched (removal name i) (with names) ≡ cond (is_at name (slice_get names i)) (Ok (after (remove names i))) (Err (TestFailed 0))
  removed-by name names i small =
      two-steps (is_at name (slice_get names i)) (item_path i) (item_path i) (string name) Takes (with names) (after (remove names i))
      (ap (passes (string name)) (item-found uid version deleted names i small) ∙ name-test name (slice_get names i))
      (take-named name names i small)
      (λ h. list-stays uid version deleted (list_of names) (remove names i))

  pub first-added-by : (name : List ℕ) (names : List (List ℕ)) → patched (first_addition name) (with names) ≡ cond (is_empty names) (Ok (after (name ∷ []))) (Err (TestFailed 0))
  first-added-by name names =
      two-steps (is_empty names) list_path list_path null (Puts (names_data (name ∷ []))) (with names) (after (name ∷ []))
      (ap (passes null) (list-found uid version deleted (list_of names)) ∙ null-test names)
      (λ h. list-put uid version deleted (list_of names) (names_data (name ∷ [])))
      (λ h. list-stays uid version deleted (list_of names) (name ∷ []))

  put-behind : (name s : List ℕ) (ss names : List (List ℕ)) → same_names (s ∷ ss) names ≡ true → changed_at (Puts (string name)) end_path (with names) ≡ Some (after (names ++ name ∷ []))
  put-behind name s ss [] h = absurd (true≢false (sym h))
  put-behind name s ss (n ∷ ns) h = end-put uid version deleted (n ∷ ns) name

  pub added-by : (name s : List ℕ) (ss names : List (List ℕ))
      → patched (addition name (s ∷ ss)) (with names) ≡ cond (same_names (s ∷ ss) names) (Ok (after (names ++ name ∷ []))) (Err (TestFailed 0))
  added-by name s ss names =
      two-steps (same_names (s ∷ ss) names) list_path end_path (names_data (s ∷ ss)) (Puts (string name)) (with names) (after (names ++ name ∷ []))
      (ap (passes (names_data (s ∷ ss))) (list-found uid version deleted (list_of names)) ∙ seen-test s ss names)
      (put-behind name s ss names)
      (λ h. list-stays uid version deleted (list_of names) (names ++ name ∷ []))

  pub put-by : (names new : List (List ℕ)) → patched (Changes list_path (Puts (names_data new)) ∷ []) (with names) ≡ Ok (after new)
  put-by names new = rw (list-put uid version deleted (list_of names) (names_data new), list-stays uid version deleted (list_of names) new) refl

  -- the patch of a decision makes of the finalizers what the life says, or is refused where that leaves them as they were
  pub record IsArrival (name : List ℕ) (decision : Decision) (seen names : List (List ℕ)) : Type 0 where
    pub passes : Bool
    pub comes : patched (patch_on name seen decision) (with names) ≡ cond passes (Ok (after (patched_by name decision seen names))) (Err (TestFailed 0))
    pub refused : passes ≡ false → patched_by name decision seen names ≡ names

  not-chosen : {A : Type 0} (b : Bool) (x y : A) → b ≡ false → cond b x y ≡ y
  not-chosen true x y h = absurd (true≢false h)
  not-chosen false x y h = refl

  abbrev fine : Data → Result Data PatchRefusal
  fine d = Ok d

  -- the result where the test passes, whatever stands in its place where it doesn't
  where-it-passes : (b : Bool) (new names : List (List ℕ)) → cond b (fine (after new)) (Err (TestFailed 0)) ≡ cond b (fine (after (cond b new names))) (Err (TestFailed 0))
  where-it-passes true new names = refl
  where-it-passes false new names = refl

  pub arrives : (name : List ℕ) (decision : Decision) (seen names : List (List ℕ)) → IsSendable decision seen → IsArrival name decision seen names
  arrives name (Cleanup i) seen names small =
      let b = is_at name (slice_get names i) in
      record { passes = b; comes = removed-by name names i small ∙ where-it-passes b (remove names i) names; refused = not-chosen b (remove names i) names }
  arrives name AddFirst seen names h =
      let b = is_empty names in
      record { passes = b; comes = first-added-by name names ∙ where-it-passes b (name ∷ []) names; refused = not-chosen b (name ∷ []) names }
  arrives name AddMore [] names h = absurd h
  arrives name AddMore (s ∷ ss) names h =
      let b = same_names (s ∷ ss) names in
      record { passes = b; comes = added-by name s ss names ∙ where-it-passes b (names ++ name ∷ []) names; refused = not-chosen b (names ++ name ∷ []) names }
  arrives name Apply seen names h = absurd h
  arrives name Nothing seen names h = absurd h
  arrives name Unnamed seen names h = absurd h
