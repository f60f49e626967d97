-- What changes make of the selected objects under a key.
use Rattle.std.proofs.Common.{◌≡◌, Bool, true, false, cond, List, [], ◌∷◌, ◌++◌, Option, Some, None, if◌then◌else◌, refl, sym, ap, subst, ◌∙◌, append_assoc, append-nil}
use Rattle.std.specs.List.{filter, AllByRecursion}
use Rattle.std.specs.declared.cmp.Ordering.{Ordering}
use Rattle.std.specs.declared.cmp.Ordering.TheVariants.{Less, Equal, Greater}
use Rattle.std.specs.Ordering.{match_ordering, is_eq}
use Rattle.std.specs.List.Sorted.{IsStrictlySortedBy}
use Rattle.kube_meta.specs.declared.metadata.ObjectMeta.{ObjectMeta}
use Rattle.kube_meta.specs.Keys.{is_named}
use Rattle.kube_server.specs.History.{Key, key_cmp, same_key, State, object_at, with_object, without_object, objects_of, Change, Adds, Modifies, Removes, object_of, changed, state_of, IsNextChange, IsHistoryAfter, IsHistory}
use Rattle.kube_server.proofs.HistoryLemmas.{state-more, same-equal, keys-equal, IsKeyed, AllKeyed, keyed-state}
use Rattle.kube_server.proofs.OrderLemmas.{keys_of, IsAscending, states-ascend}
use Rattle.kube_server.specs.Readers.{IsByKey}
use Rattle.kube_honest.proofs.Finds.{both-keys, cond-none, cond-swap, own, under, Apart}

module _ {V : Type 0} (meta : V → ObjectMeta) where
  -- ---- the object of a key in a state with one more, and with one less

  equal-same : (a b : Key) → key_cmp a b ≡ Equal → same_key a b ≡ true
  equal-same a b e = ap is_eq e

  greater-other : (a b : Key) → key_cmp a b ≡ Greater → same_key a b ≡ false
  greater-other a b e = ap is_eq e

  less-other : (a b : Key) → key_cmp a b ≡ Less → same_key a b ≡ false
  less-other a b e = ap is_eq e

  cond-over : (b : Bool) (x y z : Option V) → cond b x z ≡ cond b x (cond b y z)
  cond-over true x y z = refl
  cond-over false x y z = refl

  object-with : (k key : Key) (o : V) (state : State V) → object_at k (with_object key o state) ≡ cond (same_key k key) (Some o) (object_at k state)
  object-with k key o [] = refl
  object-with k key o (p ∷ ps) = go (key_cmp key p.0) refl (object-with k key o ps)
    where
      go : (c : Ordering) → key_cmp key p.0 ≡ c → object_at k (with_object key o ps) ≡ cond (same_key k key) (Some o) (object_at k ps)
          → object_at k (match_ordering c ((key, o) ∷ p ∷ ps) ((p.0, o) ∷ ps) (p ∷ with_object key o ps)) ≡ cond (same_key k key) (Some o) (object_at k (p ∷ ps))
      go Less e r = refl
      go Equal e r =
          let same : p.0 ≡ key = sym (keys-equal key p.0 e) in
          ap (λ j. cond (same_key k j) (Some o) (object_at k ps)) same
          ∙ (cond-over (same_key k key) (Some o) (Some p.1) (object_at k ps)
          ∙ ap (λ j. cond (same_key k key) (Some o) (cond (same_key k j) (Some p.1) (object_at k ps))) (sym same))
      go Greater e r =
          ap (cond (same_key k p.0) (Some p.1)) r
          ∙ cond-swap (same_key k p.0) (same_key k key) (Some p.1) (Some o) (object_at k ps) (λ s t. both-keys k key p.0 (greater-other key p.0 e) t s)

  -- no key of these is this one
  above-none : (k : Key) (state : State V) → AllByRecursion (λ q. key_cmp k q ≡ Less) (keys_of state) → object_at k state ≡ None
  above-none k [] h = refl
  above-none k (p ∷ ps) h = ap (λ c. cond c (Some p.1) (object_at k ps)) (less-other k p.0 h.0) ∙ above-none k ps h.1

  object-without : (k key : Key) (state : State V) → IsAscending state → object_at k (without_object key state) ≡ cond (same_key k key) None (object_at k state)
  unfolding IsStrictlySortedBy
  object-without k key [] a = sym (cond-none (same_key k key))
  object-without k key (p ∷ ps) a = go (same_key key p.0) refl (object-without k key ps a.1)
    where
      here : (c : Bool) → same_key k key ≡ c → key ≡ p.0 → object_at k ps ≡ cond c None (cond (same_key k p.0) (Some p.1) (object_at k ps))
      here true e same = ap (λ j. object_at j ps) (same-equal k key e ∙ same) ∙ above-none p.0 ps a.0
      here false e same = ap (λ c. cond c (Some p.1) (object_at k ps)) (sym e ∙ ap (λ j. same_key k j) same)

      go : (b : Bool) → same_key key p.0 ≡ b → object_at k (without_object key ps) ≡ cond (same_key k key) None (object_at k ps)
          → object_at k (cond b ps (p ∷ without_object key ps)) ≡ cond (same_key k key) None (object_at k (p ∷ ps))
      go true e r = here (same_key k key) refl (same-equal key p.0 e)
      go false e r =
          ap (cond (same_key k p.0) (Some p.1)) r
          ∙ cond-swap (same_key k p.0) (same_key k key) (Some p.1) None (object_at k ps) (λ s t. both-keys k key p.0 e t s)

  -- what is found under a key has it, and a name
  found-keyed : (k : Key) (o : V) (state : State V) → AllKeyed meta state → object_at k state ≡ Some o → IsKeyed meta (k, o)
  found-keyed k o [] h e = absurd (cc)
  found-keyed k o (p ∷ ps) h e = go (same_key k p.0) refl e (found-keyed k o ps h.1)
    where
      go : (b : Bool) → same_key k p.0 ≡ b → cond b (Some p.1) (object_at k ps) ≡ Some o → (object_at k ps ≡ Some o → IsKeyed meta (k, o)) → IsKeyed meta (k, o)
      go true s e r =
          let one : p.1 ≡ o = cc in
          subst (λ y. IsKeyed meta (k, y)) one (record { key = same-equal k p.0 s ∙ h.0.key; named = h.0.named })
      go false s e r = r e

  -- ---- what is selected

  -- how a change is seen under a key
  abbrev pub told_under : Change V → Key → Option V → Option V
  told_under (Adds o) k x = cond (same_key k (own meta o)) (Some o) x
  told_under (Modifies o) k x = cond (same_key k (own meta o)) (Some o) x
  told_under (Removes o) k x = cond (same_key k (own meta o)) None x

  module _ (selected : V → Bool) (by_key : IsByKey meta selected) where
    abbrev pub kept : Option V → Option V
    kept None = None
    kept (Some o) = if selected o then Some o else None

    abbrev pub seen_under : Key → State V → Option V
    seen_under k state = kept (object_at k state)

    kept-yes : (o : V) → selected o ≡ true → kept (Some o) ≡ Some o
    kept-yes o t = ap (λ c. if c then Some o else None) t

    kept-no : (o : V) → selected o ≡ false → kept (Some o) ≡ None
    kept-no o t = ap (λ c. if c then Some o else None) t

    -- where an object of a key is not selected, none of that key is
    unselected : (k : Key) (o : V) (state : State V) → AllKeyed meta state → is_named (meta o) ≡ true → k ≡ own meta o → selected o ≡ false → seen_under k state ≡ None
    unselected k o state h n e t = go (object_at k state) refl
      where
        go : (x : Option V) → object_at k state ≡ x → kept x ≡ None
        go None f = refl
        go (Some q) f =
            let found = found-keyed k q state h f in
            kept-no q (by_key q o found.named n (sym found.key ∙ e) ∙ t)

    pub under-selected : (k : Key) (state : State V) → AllKeyed meta state → under meta k (filter selected (objects_of state)) ≡ seen_under k state
    under-selected k [] h = refl
    under-selected k (p ∷ ps) h = go (same_key k p.0) refl (selected p.1) refl (under-selected k ps h.1)
      where
        go : (b : Bool) → same_key k p.0 ≡ b → (t : Bool) → selected p.1 ≡ t → under meta k (filter selected (objects_of ps)) ≡ seen_under k ps
            → under meta k (if t then p.1 ∷ filter selected (objects_of ps) else filter selected (objects_of ps)) ≡ kept (cond b (Some p.1) (object_at k ps))
        go true e true f r =
            ap (λ j. cond (same_key k j) (Some p.1) (under meta k (filter selected (objects_of ps)))) (sym h.0.key)
            ∙ (ap (λ c. cond c (Some p.1) (under meta k (filter selected (objects_of ps)))) e ∙ sym (kept-yes p.1 f))
        go true e false f r = r ∙ (unselected k p.1 ps h.1 h.0.named (same-equal k p.0 e ∙ h.0.key) f ∙ sym (kept-no p.1 f))
        go false e true f r =
            ap (λ j. cond (same_key k j) (Some p.1) (under meta k (filter selected (objects_of ps)))) (sym h.0.key)
            ∙ (ap (λ c. cond c (Some p.1) (under meta k (filter selected (objects_of ps)))) e ∙ r)
        go false e false f r = r

    -- the selected objects of a state have each key once
    pub selected-apart : (state : State V) → AllKeyed meta state → IsAscending state → Apart meta (filter selected (objects_of state))
    unfolding IsStrictlySortedBy
    selected-apart [] h a = tt
    selected-apart (p ∷ ps) h a = go (selected p.1) (selected-apart ps h.1 a.1)
      where
        go : (t : Bool) → Apart meta (filter selected (objects_of ps)) → Apart meta (if t then p.1 ∷ filter selected (objects_of ps) else filter selected (objects_of ps))
        go true r = (under-selected (own meta p.1) ps h.1 ∙ ap kept (ap (λ j. object_at j ps) (sym h.0.key) ∙ above-none p.0 ps a.0), r)
        go false r = r

    -- a change is seen where its object is selected, and not where it isn't
    put-seen : (k : Key) (o : V) (state : State V) → AllKeyed meta state → is_named (meta o) ≡ true → (t : Bool) → selected o ≡ t
        → kept (cond (same_key k (own meta o)) (Some o) (object_at k state)) ≡ (if t then cond (same_key k (own meta o)) (Some o) (seen_under k state) else seen_under k state)
    put-seen k o state h n true e = go (same_key k (own meta o))
      where
        go : (b : Bool) → kept (cond b (Some o) (object_at k state)) ≡ cond b (Some o) (seen_under k state)
        go true = kept-yes o e
        go false = refl
    put-seen k o state h n false e = go (same_key k (own meta o)) refl
      where
        go : (b : Bool) → same_key k (own meta o) ≡ b → kept (cond b (Some o) (object_at k state)) ≡ seen_under k state
        go true s = kept-no o e ∙ sym (unselected k o state h n (same-equal k (own meta o) s) e)
        go false s = refl

    removed-seen : (k : Key) (o : V) (state : State V) → AllKeyed meta state → is_named (meta o) ≡ true → (t : Bool) → selected o ≡ t
        → kept (cond (same_key k (own meta o)) None (object_at k state)) ≡ (if t then cond (same_key k (own meta o)) None (seen_under k state) else seen_under k state)
    removed-seen k o state h n true e = go (same_key k (own meta o))
      where
        go : (b : Bool) → kept (cond b None (object_at k state)) ≡ cond b None (seen_under k state)
        go true = refl
        go false = refl
    removed-seen k o state h n false e = go (same_key k (own meta o)) refl
      where
        go : (b : Bool) → same_key k (own meta o) ≡ b → kept (cond b None (object_at k state)) ≡ seen_under k state
        go true s = sym (unselected k o state h n (same-equal k (own meta o) s) e)
        go false s = refl

    abbrev told_if : Bool → Change V → Key → Option V → Option V
    told_if t c k x = if t then told_under c k x else x

    changed-seen : (k : Key) (state : State V) (c : Change V) → AllKeyed meta state → IsAscending state → is_named (meta (object_of c)) ≡ true
        → seen_under k (changed meta state c) ≡ told_if (selected (object_of c)) c k (seen_under k state)
    changed-seen k state (Adds o) h a n = ap kept (object-with k (own meta o) o state) ∙ put-seen k o state h n (selected o) refl
    changed-seen k state (Modifies o) h a n = ap kept (object-with k (own meta o) o state) ∙ put-seen k o state h n (selected o) refl
    changed-seen k state (Removes o) h a n = ap kept (object-without k (own meta o) state a) ∙ removed-seen k o state h n (selected o) refl

    -- ---- histories

    after-front : (before cs ds : List (Change V)) → IsHistoryAfter meta before (cs ++ ds) → IsHistoryAfter meta before cs
    after-front before [] ds h = tt
    after-front before (c ∷ cs) ds h = (h.0, after-front (before ++ c ∷ []) cs ds h.1)

    pub history-front : (cs ds : List (Change V)) → IsHistory meta (cs ++ ds) → IsHistory meta cs
    history-front cs ds h = after-front [] cs ds h

    after-next : (before cs : List (Change V)) (c : Change V) (ds : List (Change V)) → IsHistoryAfter meta before (cs ++ c ∷ ds) → IsNextChange meta (before ++ cs) c
    after-next before [] c ds h = subst (λ es. IsNextChange meta es c) (sym (append-nil before)) h.0
    after-next before (d ∷ cs) c ds h = subst (λ es. IsNextChange meta es c) (append_assoc before (d ∷ []) cs) (after-next (before ++ d ∷ []) cs c ds h.1)

    pub history-next : (cs : List (Change V)) (c : Change V) (ds : List (Change V)) → IsHistory meta (cs ++ c ∷ ds) → IsNextChange meta cs c
    history-next cs c ds h = after-next [] cs c ds h

    -- what is selected under a key after these changes
    abbrev pub view : List (Change V) → Key → Option V
    view cs k = seen_under k (state_of meta cs)

    view-next : (before : List (Change V)) (c : Change V) (rest : List (Change V)) (k : Key) → IsHistory meta (before ++ c ∷ rest)
        → view (before ++ c ∷ []) k ≡ told_if (selected (object_of c)) c k (view before k)
    view-next before c rest k h =
        ap (λ s. seen_under k s) (state-more meta before c)
        ∙ changed-seen k (state_of meta before) c (keyed-state meta before (history-front before (c ∷ rest) h)) (states-ascend meta before) (history-next before c rest h).named

    abbrev pub selected_of : List (Change V) → List (Change V)
    selected_of cs = filter (λ c. selected (object_of c)) cs

    -- changes of what isn't selected are not seen
    pub quiet : (before cs : List (Change V)) → IsHistory meta (before ++ cs) → selected_of cs ≡ [] → (k : Key) → view (before ++ cs) k ≡ view before k
    quiet before [] h e k = ap (λ ds. view ds k) (append-nil before)
    quiet before (c ∷ cs) h e k =
        go (selected (object_of c)) refl e (λ f. quiet (before ++ c ∷ []) cs (subst (IsHistory meta) (sym (append_assoc before (c ∷ []) cs)) h) f k)
      where
        go : (t : Bool) → selected (object_of c) ≡ t → (if t then c ∷ selected_of cs else selected_of cs) ≡ []
            → (selected_of cs ≡ [] → view ((before ++ c ∷ []) ++ cs) k ≡ view (before ++ c ∷ []) k) → view (before ++ c ∷ cs) k ≡ view before k
        go true s f rest = absurd (cc)
        go false s f rest =
            ap (λ ds. view ds k) (sym (append_assoc before (c ∷ []) cs))
            ∙ (rest f ∙ (view-next before c cs k h ∙ ap (λ t. told_if t c k (view before k)) s))

    -- one change of these is of what is selected
    pub record IsOne (before cs : List (Change V)) (c : Change V) : Type 0 where
      pub front : List (Change V)
      pub rest : List (Change V)
      pub is : cs ≡ front ++ c ∷ rest
      pub told : (k : Key) → view (before ++ cs) k ≡ told_under c k (view before k)
      pub same : (k : Key) → view ((before ++ front) ++ c ∷ []) k ≡ view (before ++ cs) k
      pub next : IsNextChange meta (before ++ front) c

    one-first : (before cs : List (Change V)) (c : Change V) → IsHistory meta (before ++ c ∷ cs) → selected (object_of c) ≡ true → selected_of cs ≡ [] → IsOne before (c ∷ cs) c
    one-first before cs c h s e =
        let assoc = append_assoc before (c ∷ []) cs in
        let after : (k : Key) → view (before ++ c ∷ cs) k ≡ view (before ++ c ∷ []) k =
        λ k. ap (λ ds. view ds k) (sym assoc) ∙ quiet (before ++ c ∷ []) cs (subst (IsHistory meta) (sym assoc) h) e k in
        record {
          front = [];
          rest = cs;
          is = refl;
          told = λ k. after k ∙ (view-next before c cs k h ∙ ap (λ t. told_if t c k (view before k)) s);
          same = λ k. ap (λ ds. view (ds ++ c ∷ []) k) (append-nil before) ∙ sym (after k);
          next = subst (λ ds. IsNextChange meta ds c) (sym (append-nil before)) (history-next before c cs h);
        }

    one-later : (before cs : List (Change V)) (d c : Change V) → IsHistory meta (before ++ d ∷ cs) → selected (object_of d) ≡ false → IsOne (before ++ d ∷ []) cs c → IsOne before (d ∷ cs) c
    one-later before cs d c h s one =
        let first : (k : Key) → view (before ++ d ∷ []) k ≡ view before k = λ k. view-next before d cs k h ∙ ap (λ t. told_if t d k (view before k)) s in
        record {
          front = d ∷ one.front;
          rest = one.rest;
          is = ap (λ ds. d ∷ ds) one.is;
          told = λ k. ap (λ ds. view ds k) (sym (append_assoc before (d ∷ []) cs)) ∙ (one.told k ∙ ap (told_under c k) (first k));
          same = λ k.
              ap (λ ds. view (ds ++ c ∷ []) k) (sym (append_assoc before (d ∷ []) one.front))
              ∙ (one.same k ∙ ap (λ ds. view ds k) (append_assoc before (d ∷ []) cs));
          next = subst (λ ds. IsNextChange meta ds c) (append_assoc before (d ∷ []) one.front) one.next;
        }

    pub one : (before cs : List (Change V)) (c : Change V) → IsHistory meta (before ++ cs) → selected_of cs ≡ c ∷ [] → IsOne before cs c
    one before [] c h e = absurd (cc)
    one before (d ∷ cs) c h e =
        go (selected (object_of d)) refl e (λ f. one (before ++ d ∷ []) cs c (subst (IsHistory meta) (sym (append_assoc before (d ∷ []) cs)) h) f)
      where
        go : (t : Bool) → selected (object_of d) ≡ t → (if t then d ∷ selected_of cs else selected_of cs) ≡ c ∷ []
            → (selected_of cs ≡ c ∷ [] → IsOne (before ++ d ∷ []) cs c) → IsOne before (d ∷ cs) c
        go true s f later =
            let same : d ≡ c = cc in
            let none : selected_of cs ≡ [] = cc in
            subst (λ y. IsOne before (d ∷ cs) y) same (one-first before cs d h s none)
        go false s f later = one-later before cs d c h s (later f)
