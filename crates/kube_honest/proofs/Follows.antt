-- What events of a later watch make of the selected objects, from one revision to another.
use Rattle.std.proofs.Common.{◌≡◌, ℕ, ◌≤◌, Bool, cond, List, [], ◌∷◌, ◌++◌, length, take, drop, Option, Some, None, refl, sym, ap, subst, ◌∙◌, arith, append_assoc, length-append}
use Rattle.std.specs.Prelude.{decimal}
use Rattle.std.proofs.lemmas.List.{take-append-drop, take-append-le, take-take}
use Rattle.kube_meta.specs.declared.metadata.ObjectMeta.{ObjectMeta}
use Rattle.kube_model.specs.Raw.{RawAnswer}
use Rattle.kube_server.specs.History.{Key, same_key, Change, Adds, Modifies, Removes, object_of, state_at, IsHistory}
use Rattle.kube_server.specs.Honest.{Selection, PutsAlone, RemovesAlone, selected_at, selected_between, Tells, Follow}
use Rattle.kube_server.proofs.HistoryLemmas.{keyed-state}
use Rattle.kube_server.proofs.OrderLemmas.{states-ascend}
use Rattle.kube_server.specs.Readers.{IsByKey}
use Rattle.kube_honest.proofs.Finds.{own, under, Apart}
use Rattle.kube_honest.proofs.Changes.{told_under, under-selected, selected-apart, history-front, view, quiet, one}

module _ {V : Type 0} (meta : V → ObjectMeta) (selects : Selection → V → Bool) (history : List (Change V)) (selection : Selection)
    (by_key : IsByKey meta (selects selection)) (is_history : IsHistory meta history) where
  -- the selected object under a key, at a revision
  abbrev pub at_revision : ℕ → Key → Option V
  at_revision r k = under meta k (selected_at meta selects history selection r)

  history-at : (r : ℕ) → IsHistory meta (take r history)
  history-at r = history-front meta (selects selection) by_key (take r history) (drop r history) (subst (IsHistory meta) (sym (take-append-drop r history)) is_history)

  pub at-apart : (r : ℕ) → Apart meta (selected_at meta selects history selection r)
  at-apart r = selected-apart meta (selects selection) by_key (state_at meta history r) (keyed-state meta (take r history) (history-at r)) (states-ascend meta (take r history))

  at-view : (r : ℕ) (k : Key) → at_revision r k ≡ view meta (selects selection) by_key (take r history) k
  at-view r k = under-selected meta (selects selection) by_key k (state_at meta history r) (keyed-state meta (take r history) (history-at r))

  -- the changes up to a revision, cut at another
  cut : (from to : ℕ) → from ≤ to → take from history ++ drop from (take to history) ≡ take to history
  cut from to l = ap (λ cs. cs ++ drop from (take to history)) (sym (take-take from to history l)) ∙ take-append-drop from (take to history)

  -- one change of what is selected lies between: it is seen, and the state is the one of its own revision, which is its object's version
  pub record Moves (from to : ℕ) (c : Change V) : Type 0 where
    pub reached : ℕ
    pub known : reached ≤ length history
    pub versioned : (meta (object_of c)).resource_version ≡ Some (decimal reached)
    pub told : (k : Key) → at_revision to k ≡ told_under meta c k (at_revision from k)
    pub same : (k : Key) → at_revision reached k ≡ at_revision to k

  pub moves : (from to : ℕ) → from ≤ to → (c : Change V) → selected_between meta selects history selection from to ≡ c ∷ [] → Moves from to c
  moves from to l c e =
      let before = take from history in
      let cs = drop from (take to history) in
      let joined : before ++ cs ≡ take to history = cut from to l in
      let o = one meta (selects selection) by_key before cs c (subst (IsHistory meta) (sym joined) (history-at to)) e in
      let reached = (before ++ o.front) ++ c ∷ [] in
      let whole : history ≡ reached ++ (o.rest ++ drop to history) =
      sym (take-append-drop to history)
      ∙ (ap (λ xs. xs ++ drop to history) (sym joined ∙ ap (λ ys. before ++ ys) o.is)
      ∙ regroup before o.front c o.rest (drop to history)) in
      let at : take (length reached) history ≡ reached = ap (take (length reached)) whole ∙ (take-append-le (length reached) reached (o.rest ++ drop to history) (omega arith) ∙ take-all reached) in
      let viewed : (k : Key) → at_revision (length reached) k ≡ view meta (selects selection) by_key reached k = λ k. at-view (length reached) k ∙ ap (λ xs. view meta (selects selection) by_key xs k) at in
      let ended : (k : Key) → view meta (selects selection) by_key (before ++ cs) k ≡ at_revision to k = λ k. ap (λ xs. view meta (selects selection) by_key xs k) joined ∙ sym (at-view to k) in
      record {
        reached = length reached;
        known = let e = ap length whole ∙ length-append reached (o.rest ++ drop to history) in omega (arith, e);
        versioned = o.next.versioned ∙ ap (λ n. Some (decimal n)) (sym (length-append (before ++ o.front) (c ∷ [])));
        told = λ k. sym (ended k) ∙ (o.told k ∙ ap (told_under meta c k) (sym (at-view from k)));
        same = λ k. viewed k ∙ (o.same k ∙ ended k);
      }
    where
      take-all : (xs : List (Change V)) → take (length xs) xs ≡ xs
      take-all [] = refl
      take-all (x ∷ xs) = ap (λ ys. x ∷ ys) (take-all xs)

      regroup : (es bs : List (Change V)) (x : Change V) (cs ds : List (Change V)) → (es ++ (bs ++ x ∷ cs)) ++ ds ≡ ((es ++ bs) ++ x ∷ []) ++ (cs ++ ds)
      regroup es bs x cs ds =
          append_assoc es (bs ++ x ∷ cs) ds
          ∙ (ap (λ ys. es ++ ys) (append_assoc bs (x ∷ cs) ds)
          ∙ (sym (append_assoc es bs (x ∷ (cs ++ ds)))
          ∙ sym (append_assoc (es ++ bs) (x ∷ []) (cs ++ ds))))

  pub stays : (from to : ℕ) → from ≤ to → selected_between meta selects history selection from to ≡ [] → (k : Key) → at_revision to k ≡ at_revision from k
  stays from to l e k =
      let joined : take from history ++ drop from (take to history) ≡ take to history = cut from to l in
      at-view to k
      ∙ (ap (λ xs. view meta (selects selection) by_key xs k) (sym joined)
      ∙ (quiet meta (selects selection) by_key (take from history) (drop from (take to history)) (subst (IsHistory meta) (sym joined) (history-at to)) e k
      ∙ sym (at-view from k)))

  -- ---- events

  -- an item of a later watch: where it leads, and the version that it has
  pub record Told (from to : ℕ) (object : V) (now : Option V) : Type 0 where
    pub reached : ℕ
    pub known : reached ≤ length history
    pub versioned : (meta object).resource_version ≡ Some (decimal reached)
    pub told : (k : Key) → at_revision reached k ≡ cond (same_key k (own meta object)) now (at_revision from k)
    pub same : (k : Key) → at_revision reached k ≡ at_revision to k

  told-by : (from to : ℕ) (object : V) (now : Option V) (c : Change V) → object_of c ≡ object
      → ((k : Key) (x : Option V) → told_under meta c k x ≡ cond (same_key k (own meta object)) now x) → Moves from to c → Told from to object now
  told-by from to object now c e f m = record {
    reached = m.reached;
    known = m.known;
    versioned = ap (λ o. (meta o).resource_version) (sym e) ∙ m.versioned;
    told = λ k. m.same k ∙ (m.told k ∙ f k (at_revision from k));
    same = m.same;
  }

  pub puts : (from to : ℕ) → from ≤ to → (object : V) → PutsAlone object (selected_between meta selects history selection from to) → Told from to object (Some object)
  puts from to l object p = go (selected_between meta selects history selection from to) refl p
    where
      go : (cs : List (Change V)) → selected_between meta selects history selection from to ≡ cs → PutsAlone object cs → Told from to object (Some object)
      go [] e p = absurd p
      go (Adds o ∷ []) e p = told-by from to object (Some object) (Adds o) p (λ k x. ap (λ y. cond (same_key k (own meta y)) (Some y) x) p) (moves from to l (Adds o) e)
      go (Modifies o ∷ []) e p = told-by from to object (Some object) (Modifies o) p (λ k x. ap (λ y. cond (same_key k (own meta y)) (Some y) x) p) (moves from to l (Modifies o) e)
      go (Removes o ∷ []) e p = absurd p
      go (Adds o ∷ d ∷ cs) e p = absurd p
      go (Modifies o ∷ d ∷ cs) e p = absurd p
      go (Removes o ∷ d ∷ cs) e p = absurd p

  pub removes : (from to : ℕ) → from ≤ to → (object : V) → RemovesAlone object (selected_between meta selects history selection from to) → Told from to object None
  removes from to l object p = go (selected_between meta selects history selection from to) refl p
    where
      go : (cs : List (Change V)) → selected_between meta selects history selection from to ≡ cs → RemovesAlone object cs → Told from to object None
      go [] e p = absurd p
      go (Removes o ∷ []) e p = told-by from to object None (Removes o) p (λ k x. ap (λ y. cond (same_key k (own meta y)) None x) p) (moves from to l (Removes o) e)
      go (Adds o ∷ []) e p = absurd p
      go (Modifies o ∷ []) e p = absurd p
      go (Adds o ∷ d ∷ cs) e p = absurd p
      go (Modifies o ∷ d ∷ cs) e p = absurd p
      go (Removes o ∷ d ∷ cs) e p = absurd p

  -- the last of events that follow
  pub record Last (from : ℕ) (events : List (RawAnswer V)) (event : RawAnswer V) (to : ℕ) : Type 0 where
    pub middle : ℕ
    pub follow : Follow meta selects history selection from events middle
    pub rises : middle ≤ to
    pub known : to ≤ length history
    pub tells : Tells meta selects history selection middle event to

  pub last-of : (from : ℕ) (events : List (RawAnswer V)) (event : RawAnswer V) (to : ℕ) → Follow meta selects history selection from (events ++ event ∷ []) to → Last from events event to
  last-of from [] event to f = record {
    middle = from;
    follow = refl;
    rises = subst (λ n. from ≤ n) (sym f.4) f.1;
    known = subst (λ n. n ≤ length history) (sym f.4) f.2;
    tells = subst (λ n. Tells meta selects history selection from event n) (sym f.4) f.3;
  }
  last-of from (e ∷ events) event to f =
      let last = last-of f.0 events event to f.4 in
      record {
        middle = last.middle;
        follow = (f.0, f.1, f.2, f.3, last.follow);
        rises = last.rises;
        known = last.known;
        tells = last.tells;
      }
