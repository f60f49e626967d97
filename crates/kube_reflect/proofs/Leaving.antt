-- What one more exchange leaves: it completes a list, changes what is stored, or leaves it as it was.
use Rattle.std.proofs.Common.{◌≡◌, ℕ, Bool, true, false, List, [], ◌∷◌, ◌++◌, map, Some, if◌then◌else◌, refl, sym, ap, subst, ◌∙◌, append-nil}
use Rattle.std.specs.List.{fold, flat_map, list_any}
use Rattle.std.proofs.lemmas.Grind.{flat_map-append}
use Rattle.kube_meta.specs.Reference.{Reference}
use Rattle.kube_model.specs.declared.call.Call.{Call}
use Rattle.kube_model.specs.declared.call.Call.TheVariants.{List as ListCall, Next}
use Rattle.kube_model.specs.World.{Settings, Watched, start_by}
use Rattle.kube_model.specs.History.{Exchange}
use Rattle.kube_model.specs.Cuts.{from_last, up_to_last}
use Rattle.kube_model.specs.Owed.{owed, is_initial, is_opened, mark, marks, marks_after, Marked}
use Rattle.kube_model.specs.Store.{put, changed, Change, completes, changes_of, is_ready, is_list_start, store_of, listed, listed_to, listed_by, paged, arrived, paged_since_start, arrived_since_opened, under_way}
use Rattle.kube_model.proofs.Lasts.{any-hit, up_to_last-hit, from_last-hit, from_last-miss, last-push}
use Rattle.kube_model.proofs.Marks.{marks-push}
use Rattle.kube_model.proofs.Stores.{ready-push, store-push, store-completed}
use Rattle.kube_reflect.specs.Cached.{Kept}
use Rattle.kube_reflect.specs.Exchanged.{IsUnderWay, IsLater, IsLeftBy, all_keyed}
use Rattle.kube_reflect.proofs.Owing.{not-start-under, not-start-later}

module _ {O : Type 0} where
  -- the objects of a page, after those of the pages before it
  pub paged-first : (xs : List (Exchange O)) (x : Exchange O) → is_list_start x.call ≡ true → paged_since_start (xs ++ x ∷ []) ≡ paged x
  paged-first xs x h = ap (flat_map paged) (from_last-hit (λ y. is_list_start y.call) xs x h) ∙ append-nil (paged x)

  pub paged-next : (xs : List (Exchange O)) (x : Exchange O) → is_list_start x.call ≡ false → paged_since_start (xs ++ x ∷ []) ≡ paged_since_start xs ++ paged x
  paged-next xs x h =
      ap (flat_map paged) (from_last-miss (λ y. is_list_start y.call) xs x h)
      ∙ (flat_map-append paged (from_last (λ y. is_list_start y.call) xs) (x ∷ []) ∙ ap (λ os. paged_since_start xs ++ os) (append-nil (paged x)))

  pub arrived-first : (xs : List (Exchange O)) (x : Exchange O) → is_opened x.answer ≡ true → arrived_since_opened (xs ++ x ∷ []) ≡ arrived x
  arrived-first xs x h = ap (flat_map arrived) (from_last-hit (λ y. is_opened y.answer) xs x h) ∙ append-nil (arrived x)

  pub arrived-next : (xs : List (Exchange O)) (x : Exchange O) → is_opened x.answer ≡ false → arrived_since_opened (xs ++ x ∷ []) ≡ arrived_since_opened xs ++ arrived x
  arrived-next xs x h =
      ap (flat_map arrived) (from_last-miss (λ y. is_opened y.answer) xs x h)
      ∙ (flat_map-append arrived (from_last (λ y. is_opened y.answer) xs) (x ∷ []) ∙ ap (λ os. arrived_since_opened xs ++ os) (append-nil (arrived x)))

  unmarked-after : (before xs : List (Exchange O)) → map (λ (m : Marked O). m.exchange) (marks_after before xs) ≡ xs
  unmarked-after before [] = refl
  unmarked-after before (x ∷ xs) = ap (λ ys. x ∷ ys) (unmarked-after (before ++ x ∷ []) xs)

  -- what a completion lists
  pub listed-now : (xs : List (Exchange O)) (x : Exchange O) → completes (mark xs x) ≡ true → listed (xs ++ x ∷ []) ≡ listed_by (Some x) (xs ++ x ∷ [])
  listed-now xs x h =
      ap (λ ms. listed_to (map (λ (m : Marked O). m.exchange) (up_to_last completes ms))) (marks-push xs x)
      ∙ (ap (λ ms. listed_to (map (λ (m : Marked O). m.exchange) ms)) (up_to_last-hit completes (marks xs) (mark xs x) h)
      ∙ (ap (λ ms. listed_to (map (λ (m : Marked O). m.exchange) ms)) (sym (marks-push xs x))
      ∙ (ap listed_to (unmarked-after [] (xs ++ x ∷ []))
      ∙ ap (λ o. listed_by o (xs ++ x ∷ [])) (last-push xs x))))

module _ {O : Type 0} (key : O → Reference) where
  -- these objects, put one after another
  abbrev pub put_all : List O → List (Reference × O)
  put_all os = all_keyed key (fold (put key) [] os)

  if-none : (b : Bool) (store : List O) → fold (changed key) store (if b then [] else []) ≡ store
  if-none true store = refl
  if-none false store = refl

  -- a completion: what was put together is stored
  pub completed : (xs : List (Exchange O)) (x : Exchange O) (k : Kept O) (d : Call) → completes (mark xs x) ≡ true → k.cache ≡ put_all (listed_by (Some x) (xs ++ x ∷ [])) → k.is_ready ≡ true
      → ((s : Settings) → owed (Watched s) (xs ++ x ∷ []) ≡ d) → (IsUnderWay d (is_initial (xs ++ x ∷ [])) → ⊥) → IsLeftBy key (xs ++ x ∷ []) k
  completed xs x k d h c r o n =
      let now : is_ready (xs ++ x ∷ []) ≡ true = ap (list_any completes) (marks-push xs x) ∙ any-hit completes (marks xs) (mark xs x) h in
      record {
        stored = c ∙ ap (all_keyed key) (ap (fold (put key) []) (sym (listed-now xs x h)) ∙ sym (store-completed key xs x h));
        ready = r ∙ sym now;
        listing = λ s u. absurd (n (subst (λ e. IsUnderWay e (is_initial (xs ++ x ∷ []))) (o s) u));
        later = λ s u. now;
      }

  module _ (xs : List (Exchange O)) (k : Kept O) (left : IsLeftBy key xs k) (x : Exchange O) where
    -- changes at a later watch: a list was complete, so they count
    pub changing : (k' : Kept O) (cs : List (Change O)) → completes (mark xs x) ≡ false → changes_of (mark xs x) ≡ cs
        → k'.cache ≡ all_keyed key (fold (changed key) (store_of key xs) cs) → k'.is_ready ≡ k.is_ready → is_ready xs ≡ true
        → ((s : Settings) → owed (Watched s) (xs ++ x ∷ []) ≡ Next) → is_initial (xs ++ x ∷ []) ≡ false → IsLeftBy key (xs ++ x ∷ []) k'
    changing k' cs h e c r was o j = record {
      stored =
          c ∙ ap (all_keyed key) (sym (store-push key xs x h ∙ (ap (λ b. fold (changed key) (store_of key xs) (if b then changes_of (mark xs x) else [])) was
          ∙ ap (fold (changed key) (store_of key xs)) e)));
      ready = r ∙ (left.ready ∙ sym (ready-push key xs x h));
      listing = λ s u. absurd (subst (IsUnderWay Next) j (subst (λ d. IsUnderWay d (is_initial (xs ++ x ∷ []))) (o s) u));
      later = λ s u. ready-push key xs x h ∙ was;
    }

    -- It completes and changes nothing.
    module _ (k' : Kept O) (h : completes (mark xs x) ≡ false) (e : changes_of (mark xs x) ≡ []) (c : k'.cache ≡ k.cache) (r : k'.is_ready ≡ k.is_ready) where
      pub quiet : ((s : Settings) → IsUnderWay (owed (Watched s) (xs ++ x ∷ [])) (is_initial (xs ++ x ∷ [])) → k'.buffer ≡ put_all (under_way (owed (Watched s) (xs ++ x ∷ [])) (xs ++ x ∷ [])))
          → ((s : Settings) → IsLater (owed (Watched s) (xs ++ x ∷ [])) (is_initial (xs ++ x ∷ [])) → is_ready xs ≡ true)
          → IsLeftBy key (xs ++ x ∷ []) k'
      quiet b l = record {
        stored =
            c ∙ (left.stored ∙ ap (all_keyed key) (sym (store-push key xs x h
            ∙ (ap (λ cs. fold (changed key) (store_of key xs) (if is_ready xs then cs else [])) e ∙ if-none (is_ready xs) (store_of key xs)))));
        ready = r ∙ (left.ready ∙ sym (ready-push key xs x h));
        listing = b;
        later = λ s u. ready-push key xs x h ∙ l s u;
      }

      -- it begins anew
      pub anew : ((s : Settings) → owed (Watched s) (xs ++ x ∷ []) ≡ start_by s) → IsLeftBy key (xs ++ x ∷ []) k'
      anew o = quiet
          (λ s u. absurd (not-start-under s (is_initial (xs ++ x ∷ [])) (subst (λ d. IsUnderWay d (is_initial (xs ++ x ∷ []))) (o s) u)))
          (λ s u. absurd (not-start-later s (is_initial (xs ++ x ∷ [])) (subst (λ d. IsLater d (is_initial (xs ++ x ∷ []))) (o s) u)))

      -- pages are to come
      pub paging : (token : List ℕ) → ((s : Settings) → owed (Watched s) (xs ++ x ∷ []) ≡ ListCall (Some token)) → k'.buffer ≡ put_all (paged_since_start (xs ++ x ∷ []))
          → IsLeftBy key (xs ++ x ∷ []) k'
      paging token o b = quiet
          (λ s u. b ∙ ap (λ d. put_all (under_way d (xs ++ x ∷ []))) (sym (o s)))
          (λ s u. absurd (subst (λ d. IsLater d (is_initial (xs ++ x ∷ []))) (o s) u))

      -- an initial watch is open
      pub looking : ((s : Settings) → owed (Watched s) (xs ++ x ∷ []) ≡ Next) → is_initial (xs ++ x ∷ []) ≡ true → k'.buffer ≡ put_all (arrived_since_opened (xs ++ x ∷ []))
          → IsLeftBy key (xs ++ x ∷ []) k'
      looking o j b = quiet
          (λ s u. b ∙ sym (ap (λ d. put_all (under_way d (xs ++ x ∷ []))) (o s) ∙ ap (λ z. put_all (if z then arrived_since_opened (xs ++ x ∷ []) else [])) j))
          (λ s u. absurd (subst (IsLater Next) j (subst (λ d. IsLater d (is_initial (xs ++ x ∷ []))) (o s) u)))

      -- a later watch goes on, or is to be opened
      pub watching : (d : Call) → ((s : Settings) → owed (Watched s) (xs ++ x ∷ []) ≡ d) → (IsUnderWay d (is_initial (xs ++ x ∷ [])) → ⊥) → is_ready xs ≡ true
          → IsLeftBy key (xs ++ x ∷ []) k'
      watching d o n was = quiet (λ s u. absurd (n (subst (λ e. IsUnderWay e (is_initial (xs ++ x ∷ []))) (o s) u))) (λ s u. was)
