-- What the definitions say of a root's exchanges, in one place, and what one more exchange makes of it.
use Rattle.std.proofs.Common.{◌≡◌, ℕ, Bool, true, false, List, [], ◌∷◌, ◌++◌, map, fold, if◌then◌else◌, refl, sym, ap, ◌∙◌, append-nil}
use Rattle.std.specs.List.{flat_map, list_any}
use Rattle.std.proofs.lemmas.Grind.{flat_map-append}
use Rattle.kube_meta.specs.Reference.{Reference}
use Rattle.kube_model.specs.declared.call.Call.{Call}
use Rattle.kube_model.specs.World.{Settings, Watched}
use Rattle.kube_model.specs.History.{Exchange}
use Rattle.kube_model.specs.Cuts.{up_to_last, from_last}
use Rattle.kube_model.specs.Owed.{Marked, mark, marks, marks_after, is_initial, is_opened, owed, seen}
use Rattle.kube_model.specs.Store.{Change, completes, is_ready, is_page, is_list_start, paged, arrived, paged_since_start, arrived_since_opened, listed, listed_to, listed_by, changes_of, put, changed, store_of}
use Rattle.kube_model.specs.SecondForms.{initial_after}
use Rattle.kube_model.proofs.Lasts.{last-push, any-hit, up_to_last-hit, from_last-hit, from_last-miss}
use Rattle.kube_model.proofs.Marks.{initial-push, marks-push}
use Rattle.kube_model.proofs.Stores.{ready-push, store-push, store-completed}
use Rattle.kube_watch.proofs.Pushes.{seen_after, owed_next, seen-push, owed-push}

pub record Summary (V : Type 0) : Type 0 where
  pub ready : Bool
  pub initial : Bool
  pub seen : List ℕ
  pub owed : Call
  pub store : List V
  pub paged : List V
  pub arrived : List V

module _ {V : Type 0} (settings : Settings) (key : V → Reference) where
  abbrev pub summary : List (Exchange V) → Summary V
  summary xs = record {
    ready = is_ready xs;
    initial = is_initial xs;
    seen = seen xs;
    owed = owed (Watched settings) xs;
    store = store_of key xs;
    paged = paged_since_start xs;
    arrived = arrived_since_opened xs;
  }

  abbrev pub paged_next : List V → Exchange V → List V
  paged_next before x = if is_list_start x.call then paged x else before ++ paged x

  abbrev pub arrived_next : List V → Exchange V → List V
  arrived_next before x = if is_opened x.answer then arrived x else before ++ arrived x

  -- changes count once a list was complete
  abbrev pub store_with : Bool → List V → List (Change V) → List V
  store_with ready store [] = store
  store_with true store (c ∷ cs) = fold (changed key) store (c ∷ cs)
  store_with false store (c ∷ cs) = store

  abbrev pub next_store : Bool → List V → List V → List V → Marked V → List V
  next_store ready store pages arrivals m =
      if completes m then fold (put key) [] (if is_page m.exchange.answer then pages else arrivals)
      else store_with ready store (changes_of m)

  abbrev pub next : Summary V → Exchange V → Summary V
  next s x =
      let m : Marked V = record { initial = s.initial; exchange = x } in
      record {
        ready = if completes m then true else s.ready;
        initial = initial_after s.initial x;
        seen = seen_after s.initial s.seen x;
        owed = owed_next settings s.initial s.seen s.owed x;
        store = next_store s.ready s.store (paged_next s.paged x) (arrived_next s.arrived x) m;
        paged = paged_next s.paged x;
        arrived = arrived_next s.arrived x;
      }

  -- ---- pages and arrivals

  paged-push : (xs : List (Exchange V)) (x : Exchange V) → paged_since_start (xs ++ x ∷ []) ≡ paged_next (paged_since_start xs) x
  paged-push xs x = go (is_list_start x.call) refl
    where
      go : (b : Bool) → is_list_start x.call ≡ b → paged_since_start (xs ++ x ∷ []) ≡ (if b then paged x else paged_since_start xs ++ paged x)
      go true e = ap (flat_map paged) (from_last-hit (λ y. is_list_start y.call) xs x e) ∙ append-nil (paged x)
      go false e =
          ap (flat_map paged) (from_last-miss (λ y. is_list_start y.call) xs x e)
          ∙ (flat_map-append paged (from_last (λ y. is_list_start y.call) xs) (x ∷ []) ∙ ap (λ ys. paged_since_start xs ++ ys) (append-nil (paged x)))

  arrived-push : (xs : List (Exchange V)) (x : Exchange V) → arrived_since_opened (xs ++ x ∷ []) ≡ arrived_next (arrived_since_opened xs) x
  arrived-push xs x = go (is_opened x.answer) refl
    where
      go : (b : Bool) → is_opened x.answer ≡ b → arrived_since_opened (xs ++ x ∷ []) ≡ (if b then arrived x else arrived_since_opened xs ++ arrived x)
      go true e = ap (flat_map arrived) (from_last-hit (λ y. is_opened y.answer) xs x e) ∙ append-nil (arrived x)
      go false e =
          ap (flat_map arrived) (from_last-miss (λ y. is_opened y.answer) xs x e)
          ∙ (flat_map-append arrived (from_last (λ y. is_opened y.answer) xs) (x ∷ []) ∙ ap (λ ys. arrived_since_opened xs ++ ys) (append-nil (arrived x)))

  -- ---- the store

  unmarked : (before xs : List (Exchange V)) → map (λ m. m.exchange) (marks_after before xs) ≡ xs
  unmarked before [] = refl
  unmarked before (x ∷ xs) = ap (λ ys. x ∷ ys) (unmarked (before ++ x ∷ []) xs)

  -- the list that an exchange completes
  listed-completed : (xs : List (Exchange V)) (x : Exchange V) → completes (mark xs x) ≡ true
      → listed (xs ++ x ∷ []) ≡ (if is_page x.answer then paged_next (paged_since_start xs) x else arrived_next (arrived_since_opened xs) x)
  listed-completed xs x h =
      ap (λ ms. listed_to (map (λ m. m.exchange) (up_to_last completes ms))) (marks-push xs x)
      ∙ (ap (λ ms. listed_to (map (λ m. m.exchange) ms)) (up_to_last-hit completes (marks xs) (mark xs x) h)
      ∙ (ap (λ ms. listed_to (map (λ m. m.exchange) ms)) (sym (marks-push xs x))
      ∙ (ap listed_to (unmarked [] (xs ++ x ∷ []))
      ∙ (ap (λ o. listed_by o (xs ++ x ∷ [])) (last-push xs x)
      ∙ (ap (λ ys. if is_page x.answer then ys else arrived_since_opened (xs ++ x ∷ [])) (paged-push xs x)
      ∙ ap (λ ys. if is_page x.answer then paged_next (paged_since_start xs) x else ys) (arrived-push xs x))))))

  with-if : (ready : Bool) (store : List V) (cs : List (Change V)) → fold (changed key) store (if ready then cs else []) ≡ store_with ready store cs
  with-if true store [] = refl
  with-if false store [] = refl
  with-if true store (c ∷ cs) = refl
  with-if false store (c ∷ cs) = refl

  store-next : (xs : List (Exchange V)) (x : Exchange V)
      → store_of key (xs ++ x ∷ []) ≡ next_store (is_ready xs) (store_of key xs) (paged_next (paged_since_start xs) x) (arrived_next (arrived_since_opened xs) x) (mark xs x)
  store-next xs x = go (completes (mark xs x)) refl
    where
      go : (b : Bool) → completes (mark xs x) ≡ b → store_of key (xs ++ x ∷ [])
          ≡ (if b then fold (put key) [] (if is_page x.answer then paged_next (paged_since_start xs) x else arrived_next (arrived_since_opened xs) x)
          else store_with (is_ready xs) (store_of key xs) (changes_of (mark xs x)))
      go true e = store-completed key xs x e ∙ ap (fold (put key) []) (listed-completed xs x e)
      go false e = store-push key xs x e ∙ with-if (is_ready xs) (store_of key xs) (changes_of (mark xs x))

  ready-next : (xs : List (Exchange V)) (x : Exchange V) → is_ready (xs ++ x ∷ []) ≡ (if completes (mark xs x) then true else is_ready xs)
  ready-next xs x = go (completes (mark xs x)) refl
    where
      go : (b : Bool) → completes (mark xs x) ≡ b → is_ready (xs ++ x ∷ []) ≡ (if b then true else is_ready xs)
      go true e = ap (list_any completes) (marks-push xs x) ∙ any-hit completes (marks xs) (mark xs x) e
      go false e = ready-push key xs x e

  pub summary-push : (xs : List (Exchange V)) (x : Exchange V) → summary (xs ++ x ∷ []) ≡ next (summary xs) x
  summary-push xs x =
      let ready = ready-next xs x in
      let initial = initial-push xs x in
      let versions = seen-push xs x in
      let calls = owed-push settings xs x in
      let store = store-next xs x in
      let pages = paged-push xs x in
      let arrivals = arrived-push xs x in
      λ i. record { ready = ready i; initial = initial i; seen = versions i; owed = calls i; store = store i; paged = pages i; arrived = arrivals i }
