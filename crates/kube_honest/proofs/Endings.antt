-- What is stored after a root's exchanges is a state; and all of this for the first of them.
use Rattle.std.proofs.Common.{◌≡◌, ℕ, ◌<◌, ◌^◌, Bool, true, false, cond, ◌&&◌, List, [], ◌∷◌, ◌++◌, map, length, Option, Some, None, refl, sym, ap, ap₂, subst, ◌∙◌, append_assoc, append-nil, arith}
use Rattle.std.specs.List.{list_any, AllByRecursion, IsDistinct}
use Rattle.std.specs.Option.{option_eq}
use Rattle.std.specs.Str.{bytes_eq}
use Rattle.std.proofs.lemmas.Bool.{false≢true, and_parts}
use Rattle.std.proofs.lemmas.Slice.Eq.{bytes_eq-Decides}
use Rattle.kube_meta.specs.declared.metadata.ObjectMeta.{ObjectMeta}
use Rattle.kube_meta.specs.Reference.{ObjectType, Reference, same_type, same_reference}
use Rattle.kube_meta.specs.ReferenceLaws.{same_reference_equiv}
use Rattle.kube_meta.specs.Keys.{key_of as reference_to}
use Rattle.kube_model.specs.declared.call.Call.TheVariants.{Next}
use Rattle.kube_model.specs.World.{Settings, Watched}
use Rattle.kube_model.specs.History.{Exchange}
use Rattle.kube_model.specs.Owed.{owed}
use Rattle.kube_model.specs.Raw.{Raw}
use Rattle.kube_model.specs.Recorded.{AreRecorded}
use Rattle.kube_model.specs.Store.{store_of}
use Rattle.kube_model.proofs.Alls.{or-left, or-right}
use Rattle.kube_model.proofs.Listed.{both}
use Rattle.kube_model.proofs.Stores.{AreDistinct, distinct-store}
use Rattle.kube_server.specs.History.{Key, key_of, same_key, Change, IsHistory}
use Rattle.kube_server.specs.Honest.{Selection, list_told, selected_at, IsHonestAfter, IsHonest}
use Rattle.kube_server.proofs.HistoryLemmas.{same-equal}
use Rattle.kube_honest.specs.States.{selection_by, IsStateAt, StoresState}
use Rattle.kube_server.specs.Readers.{IsByKey, IsToldAll}
use Rattle.kube_honest.proofs.Finds.{keys, own, under, Apart, same-objects}
use Rattle.kube_honest.proofs.Follows.{at-apart}
use Rattle.kube_honest.proofs.Newest.{newest-finds}
use Rattle.kube_honest.proofs.Summaries.{summary}
use Rattle.kube_honest.proofs.Walks.{EachOwed, honest-walk}

-- ---- references of one type are the same where the keys are

equal-options : (a b : Option (List ℕ)) → option_eq bytes_eq a b ≡ true → a ≡ b
equal-options None None e = refl
equal-options None (Some b) e = absurd (false≢true e)
equal-options (Some a) None e = absurd (false≢true e)
equal-options (Some a) (Some b) e = ap Some ((bytes_eq-Decides a b).0 e)

abbrev reference_at : ObjectType → Key → Reference
reference_at kind k = record { kind = kind; name = k.name; namespace = k.namespace }

same-keys : (kind : ObjectType) (m n : ObjectMeta) → same_reference (reference_to kind m) (reference_to kind n) ≡ same_key (key_of m) (key_of n)
same-keys kind m n = both (same_reference (reference_to kind m) (reference_to kind n)) (same_key (key_of m) (key_of n)) there back
  where
    there : same_reference (reference_to kind m) (reference_to kind n) ≡ true → same_key (key_of m) (key_of n) ≡ true
    there e =
        let parts = (and_parts (bytes_eq (key_of m).name (key_of n).name && option_eq bytes_eq m.namespace n.namespace) (same_type kind kind) e).0 in
        let names = and_parts (bytes_eq (key_of m).name (key_of n).name) (option_eq bytes_eq m.namespace n.namespace) parts in
        let name : (key_of m).name ≡ (key_of n).name = (bytes_eq-Decides (key_of m).name (key_of n).name).0 names.0 in
        let namespace : m.namespace ≡ n.namespace = equal-options m.namespace n.namespace names.1 in
        let key : key_of m ≡ key_of n = λ i. record { namespace = namespace i; name = name i } in
        ap (same_key (key_of m)) (sym key) ∙ keys.refl (key_of m)

    back : same_key (key_of m) (key_of n) ≡ true → same_reference (reference_to kind m) (reference_to kind n) ≡ true
    back e = ap (λ k. same_reference (reference_to kind m) (reference_at kind k)) (sym (same-equal (key_of m) (key_of n) e)) ∙ same_reference_equiv.refl (reference_to kind m)

pub alike-keys : {V : Type 0} (meta : V → ObjectMeta) (kind : ObjectType) (key : V → Reference) → key ≡ (λ o. reference_to kind (meta o))
    → (a b : V) → same_reference (key a) (key b) ≡ same_key (own meta a) (own meta b)
alike-keys meta kind key e a b = ap₂ same_reference (λ i. e i a) (λ i. e i b) ∙ same-keys kind (meta a) (meta b)

-- ---- the first of these

module _ {V : Type 0} (settings : Settings) (version : V → Option (List ℕ)) where
  pub record FirstRaws (raws : List (Raw V)) (xs : List (Exchange V)) : Type 0 where
    pub first : List (Raw V)
    pub rest : List (Raw V)
    pub is : raws ≡ first ++ rest
    pub recorded : AreRecorded version settings first xs

  pub first-raws : (raws : List (Raw V)) (xs ys : List (Exchange V)) → AreRecorded version settings raws (xs ++ ys) → FirstRaws raws xs
  first-raws raws [] ys r = record { first = []; rest = raws; is = refl; recorded = tt }
  first-raws [] (x ∷ xs) ys r = absurd r
  first-raws (raw ∷ raws) (x ∷ xs) ys r =
      let f = first-raws raws xs ys r.1 in
      record { first = raw ∷ f.first; rest = f.rest; is = ap (λ qs. raw ∷ qs) f.is; recorded = (r.0, f.recorded) }

module _ {V : Type 0} (meta : V → ObjectMeta) (selects : Selection → V → Bool) (history : List (Change V)) where
  pub honest-first : (before raws rest : List (Raw V)) → IsHonestAfter meta selects history before (raws ++ rest) → IsHonestAfter meta selects history before raws
  honest-first before [] rest h = tt
  honest-first before (raw ∷ raws) rest h = (h.0, honest-first (before ++ raw ∷ []) raws rest h.1)

  pub honest-later : (before raws rest : List (Raw V)) → IsHonestAfter meta selects history before (raws ++ rest) → IsHonestAfter meta selects history (before ++ raws) rest
  honest-later before [] rest h = subst (λ b. IsHonestAfter meta selects history b rest) (sym (append-nil before)) h
  honest-later before (raw ∷ raws) rest h = subst (λ b. IsHonestAfter meta selects history b rest) (append_assoc before (raw ∷ []) raws) (honest-later (before ++ raw ∷ []) raws rest h.1)

module _ {V : Type 0} (meta : V → ObjectMeta) (selects : Selection → V → Bool) (history : List (Change V)) (settings : Settings)
    (by_key : IsByKey meta (selects (selection_by settings))) (is_history : IsHistory meta history) (small : length history < 2 ^ 64)
    (key : V → Reference) (alike : (a b : V) → same_reference (key a) (key b) ≡ same_key (own meta a) (own meta b))
    (version : V → Option (List ℕ)) (versions : (o : V) → version o ≡ (meta o).resource_version) where
  abbrev pub EachIsOwed : List (Exchange V) → List (Exchange V) → Type 0
  EachIsOwed = EachOwed meta selects history settings by_key is_history small key alike version versions

  pub owed-first : (done xs ys : List (Exchange V)) → EachIsOwed done (xs ++ ys) → EachIsOwed done xs
  owed-first done [] ys o = tt
  owed-first done (x ∷ xs) ys o = (o.0, o.1, owed-first (done ++ x ∷ []) xs ys o.2)

  -- ---- stores

  none-under : (o : V) (os : List V) → list_any (λ p. same_reference (key p) (key o)) os ≡ false → under meta (own meta o) os ≡ None
  none-under o [] h = refl
  none-under o (p ∷ ps) h =
      ap (λ c. cond c (Some p) (under meta (own meta o) ps))
      (sym (alike o p) ∙ (same_reference_equiv.symm (key o) (key p) ∙ or-left (same_reference (key p) (key o)) (list_any (λ q. same_reference (key q) (key o)) ps) h))
      ∙ none-under o ps (or-right (same_reference (key p) (key o)) (list_any (λ q. same_reference (key q) (key o)) ps) h)

  apart-store : (os : List V) → AreDistinct key os → Apart meta os
  apart-store [] d = tt
  apart-store (o ∷ os) d = (none-under o os d.0, apart-store os d.1)

  others-differ : (o : V) (os : List V) → list_any (λ p. same_reference (key p) (key o)) os ≡ false → AllByRecursion (λ r. same_reference (key o) r ≡ false) (map key os)
  others-differ o [] h = tt
  others-differ o (p ∷ ps) h = (
    same_reference_equiv.symm (key o) (key p) ∙ or-left (same_reference (key p) (key o)) (list_any (λ q. same_reference (key q) (key o)) ps) h,
    others-differ o ps (or-right (same_reference (key p) (key o)) (list_any (λ q. same_reference (key q) (key o)) ps) h),
  )

  once-store : (os : List V) → AreDistinct key os → IsDistinct same_reference (map key os)
  unfolding IsDistinct
  once-store [] d = tt
  once-store (o ∷ os) d = (others-differ o os d.0, once-store os d.1)

  -- what is stored after exchanges that are recorded from an honest talk
  pub stores-state : (before raws : List (Raw V)) (xs : List (Exchange V)) → AreRecorded version settings raws xs → EachIsOwed [] xs → IsHonest meta selects history (before ++ raws)
      → StoresState key meta selects history (selection_by settings) xs
  stores-state before raws xs r o n =
      let h = honest-walk meta selects history settings by_key is_history small key alike version versions before raws xs r o (honest-later meta selects history [] before raws n) in
      record {
        empty = h.empty;
        state = λ ready.
            let at = h.stored ready in (
              at.revision,
              at.is,
              record {
                known = at.known;
                same =
                    same-objects meta (store_of key xs) (selected_at meta selects history (selection_by settings) at.revision)
                    (apart-store (store_of key xs) (distinct-store key xs)) (at-apart meta selects history (selection_by settings) by_key is_history at.revision) at.finds;
                once = once-store (store_of key xs) (distinct-store key xs);
              },
            );
      }

  -- and after the first of them
  pub stores-first : (before raws : List (Raw V)) (xs ys : List (Exchange V)) → AreRecorded version settings raws (xs ++ ys) → EachIsOwed [] (xs ++ ys) → IsHonest meta selects history (before ++ raws)
      → StoresState key meta selects history (selection_by settings) xs
  stores-first before raws xs ys r o n =
      let f = first-raws settings version raws xs ys r in
      stores-state before f.first xs f.recorded (owed-first [] xs ys o)
      (honest-first meta selects history [] (before ++ f.first) f.rest (subst (IsHonest meta selects history) (ap (λ qs. before ++ qs) f.is ∙ sym (append_assoc before f.first f.rest)) n))

  -- where the open watch has told all it is the newest state
  pub stores-newest : (before raws : List (Raw V)) (xs : List (Exchange V)) → AreRecorded version settings raws xs → EachIsOwed [] xs → IsHonest meta selects history (before ++ raws)
      → owed (Watched settings) xs ≡ Next → IsToldAll meta selects history (before ++ raws) → IsStateAt key meta selects history (selection_by settings) (length history) (store_of key xs)
  stores-newest before raws xs r o n owes all =
      let h = honest-walk meta selects history settings by_key is_history small key alike version versions before raws xs r o (honest-later meta selects history [] before raws n) in
      record {
        known = omega arith;
        same =
            same-objects meta (store_of key xs) (selected_at meta selects history (selection_by settings) (length history))
            (apart-store (store_of key xs) (distinct-store key xs)) (at-apart meta selects history (selection_by settings) by_key is_history (length history))
            (newest-finds meta selects history settings by_key is_history small (list_told (before ++ raws)) (before ++ raws) (summary settings key xs) h owes all);
        once = once-store (store_of key xs) (distinct-store key xs);
      }
