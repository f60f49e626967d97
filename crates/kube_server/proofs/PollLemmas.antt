-- What a poll of the changes after a revision gives, and how the changes between revisions join.
use Rattle.std.proofs.Common.{◌≡◌, ℕ, suc, ◌+◌, ◌-◌, ◌≤◌, ◌<◌, ◌⊎◌, inl, inr, Bool, true, false, List, [], ◌∷◌, ◌++◌, take, drop, length, filter, Some, refl, ◌∙◌, arith, add-zero}
use Rattle.std.proofs.Math.Seq.{take-add}
use Rattle.std.proofs.lemmas.List.{drop-take, drop-drop}
use Rattle.std.proofs.lemmas.List.Elements.{filter-append}
use Rattle.std.proofs.lemmas.Bool.{cases_Bool}
use Rattle.kube_meta.specs.declared.metadata.ObjectMeta.{ObjectMeta}
use Rattle.kube_model.specs.Raw.{Waits}
use Rattle.kube_server.specs.History.{Change, object_of}
use Rattle.kube_server.specs.Numbers.{NameSought, has_name}
use Rattle.kube_server.specs.Honest.{Selection, selected_between}
use Rattle.kube_server.specs.Connections.{Poll, event_of, first_named}

-- ---- the first change of a name

module _ {V : Type 0} (meta : V → ObjectMeta) (name : NameSought) where
  abbrev pub is_named_change : Change V → Bool
  is_named_change c = has_name name (meta (object_of c))

  -- there is none, and all was looked at
  pub record IsQuiet (r : ℕ) (changes : List (Change V)) (p : Poll V) : Type 0 where
    pub poll : p ≡ record { answer = Waits; left = record { name = name; pending = []; follows = Some (r + length changes) } }
    pub none : filter is_named_change changes ≡ []

  -- it comes after so many others
  pub record IsFound (r : ℕ) (changes : List (Change V)) (p : Poll V) : Type 0 where
    pub before : ℕ
    pub change : Change V
    pub within : before < length changes
    pub poll : p ≡ record { answer = event_of change; left = record { name = name; pending = []; follows = Some (r + suc before) } }
    pub alone : filter is_named_change (take (suc before) changes) ≡ change ∷ []

  quiet_more : (r : ℕ) (change : Change V) (changes : List (Change V)) → is_named_change change ≡ false → IsQuiet (suc r) changes (first_named meta name (suc r) changes) → IsQuiet r (change ∷ changes) (first_named meta name r (change ∷ changes))
  quiet_more r change changes other q = record {
    poll =
        rw other (q.poll ∙ (let e : suc r + length changes ≡ r + length (change ∷ changes) = omega arith in rw e));
    none = rw other q.none;
  }

  found_more : (r : ℕ) (change : Change V) (changes : List (Change V)) → is_named_change change ≡ false → IsFound (suc r) changes (first_named meta name (suc r) changes) → IsFound r (change ∷ changes) (first_named meta name r (change ∷ changes))
  found_more r change changes other f = record {
    before = suc f.before;
    change = f.change;
    within = omega (arith, f.within);
    poll =
        rw other (f.poll ∙ (let e : suc r + suc f.before ≡ r + suc (suc f.before) = omega arith in rw e));
    alone = rw other f.alone;
  }

  found_here : (r : ℕ) (change : Change V) (changes : List (Change V)) → is_named_change change ≡ true → IsFound r (change ∷ changes) (first_named meta name r (change ∷ changes))
  found_here r change changes here = record {
    before = 0;
    change = change;
    within = omega arith;
    poll =
        rw here (let e : suc r ≡ r + suc 0 = omega arith in rw e);
    alone = rw here refl;
  }

  first_step : (r : ℕ) (change : Change V) (changes : List (Change V)) → is_named_change change ≡ false → IsQuiet (suc r) changes (first_named meta name (suc r) changes) ⊎ IsFound (suc r) changes (first_named meta name (suc r) changes) → IsQuiet r (change ∷ changes) (first_named meta name r (change ∷ changes)) ⊎ IsFound r (change ∷ changes) (first_named meta name r (change ∷ changes))
  first_step r change changes other (inl q) = inl (quiet_more r change changes other q)
  first_step r change changes other (inr f) = inr (found_more r change changes other f)

  pub first_named-is : (changes : List (Change V)) (r : ℕ) → IsQuiet r changes (first_named meta name r changes) ⊎ IsFound r changes (first_named meta name r changes)
  first_named-is [] r = inl (record { poll = rw add-zero; none = refl })
  first_named-is (change ∷ changes) r =
      elim (cases_Bool (is_named_change change)) [
        | inl here ↦ inr (found_here r change changes here)
        | inr other ↦ first_step r change changes other (first_named-is changes (suc r))
      ]

-- ---- the changes between revisions

module _ {V : Type 0} (meta : V → ObjectMeta) (selects : Selection → V → Bool) (h : List (Change V)) where
  drop-take-join : (m n a : ℕ) → drop a (take (a + (m + n)) h) ≡ drop a (take (a + m) h) ++ drop (a + m) (take ((a + m) + n) h)
  drop-take-join m n a =
      rw (drop-take a (m + n) h, drop-take a m h, drop-take (a + m) n h, take-add m n (drop a h), drop-drop m a h)

  -- the changes between are those up to a revision on the way, and those after it
  pub selected_between-join : (s : Selection) (a b c : ℕ) → a ≤ b → b ≤ c → selected_between meta selects h s a c ≡ selected_between meta selects h s a b ++ selected_between meta selects h s b c
  selected_between-join s a b c ab bc =
      let first : a + (b - a) ≡ b = omega arith in
      let second : b + (c - b) ≡ c = omega arith in
      let whole : a + ((b - a) + (c - b)) ≡ c = omega arith in
      let joined : drop a (take c h) ≡ drop a (take b h) ++ drop b (take c h) = rw (first, second, whole) at (drop-take-join (b - a) (c - b) a) in
      rw joined (filter-append (λ change. selects s (object_of change)) (drop a (take b h)) (drop b (take c h)))

  pub selected_between-after : (s : Selection) (r n : ℕ) → selected_between meta selects h s r (r + n) ≡ filter (λ change. selects s (object_of change)) (take n (drop r h))
  selected_between-after s r n = rw (drop-take r n h)

  pub selected_between-none : (s : Selection) (r : ℕ) → selected_between meta selects h s r r ≡ []
  selected_between-none s r =
      let e : r + 0 ≡ r = omega arith in
      let after = rw e at (selected_between-after s r 0) in
      after
