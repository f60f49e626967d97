-- What a reader makes of a watch is what the history makes of the objects that it selects.
use Rattle.std.proofs.Common.{◌≡◌, ℕ, zero, suc, ◌≤◌, Bool, true, false, List, [], ◌∷◌, ◌++◌, take, drop, length, map, fold, filter, cond, refl, sym, ap, ◌∙◌, subst, arith, append_assoc}
use Rattle.std.specs.declared.cmp.Ordering.{Ordering}
use Rattle.std.specs.declared.cmp.Ordering.TheVariants.{Less, Equal, Greater}
use Rattle.std.specs.Ordering.{match_ordering, is_eq}
use Rattle.std.specs.List.{AllByRecursion}
use Rattle.std.proofs.lemmas.List.{take-take, take-append-drop}
use Rattle.std.proofs.lemmas.List.Sums.{fold-append}
use Rattle.std.specs.List.Sorted.{IsStrictlySortedBy}
use Rattle.kube_meta.specs.declared.metadata.ObjectMeta.{ObjectMeta}
use Rattle.kube_meta.specs.Keys.{is_named}
use Rattle.kube_model.specs.Raw.{RawAnswer, Waits, Fails, GivesPage, Opens, GivesAdded, GivesModified, GivesDeleted, GivesBookmark, GivesError, Ends}
use Rattle.kube_server.specs.History.{Key, key_of, key_cmp, same_key, State, with_object, without_object, Change, Adds, Modifies, Removes, object_of, changed, state_of, state_at, IsNextChange, IsHistoryAfter, IsHistory}
use Rattle.kube_server.specs.Honest.{Selection, PutsAlone, RemovesAlone, selected_between, Tells, Follow}
use Rattle.kube_server.specs.Readers.{after_event, after_events, selected_in, IsByKey, TellsChange, TellEach, selected_state}
use Rattle.kube_server.proofs.HistoryLemmas.{keys-equal, same-equal, IsKeyed, AllKeyed, keyed-changed, keyed-state}
use Rattle.kube_server.proofs.OrderLemmas.{keys_of, IsBelow, below-all, IsAscending, ascending-changed, states-ascend}
use Rattle.kube_server.proofs.PollLemmas.{selected_between-join, selected_between-none}

abbrev pub AllNamed : {V : Type 0} → (V → ObjectMeta) → List (Change V) → Type 0
AllNamed meta changes = AllByRecursion (λ c. is_named (meta (object_of c)) ≡ true) changes

-- ---- one change, of what is selected

module _ {V : Type 0} (meta : V → ObjectMeta) (p : V → Bool) where
  -- whatever stands under this key is selected, or nothing is
  abbrev IsAgreed : Key → Bool → State V → Type 0
  IsAgreed key b state = AllByRecursion (λ e. key_cmp key e.0 ≡ Equal → p e.1 ≡ b) state

  agreed : (object : V) → IsByKey meta p → is_named (meta object) ≡ true → (state : State V) → AllKeyed meta state → IsAgreed (key_of (meta object)) (p object) state
  agreed object by named [] k = tt
  agreed object by named (e ∷ es) k =
      ((λ same. by e.1 object k.0.named named (sym k.0.key ∙ sym (keys-equal (key_of (meta object)) e.0 same))), agreed object by named es k.1)

  below-selected : (key : Key) (e : Key × V) (es : State V) (b : Bool) → p e.1 ≡ b → key_cmp key e.0 ≡ Less → IsBelow key (keys_of (selected_in p es)) → IsBelow key (keys_of (selected_in p (e ∷ es)))
  below-selected key e es true is less h = rw is (less, h)
  below-selected key e es false is less h = rw is h

  below-selected-all : (key : Key) (state : State V) → IsBelow key (keys_of state) → IsBelow key (keys_of (selected_in p state))
  below-selected-all key [] h = tt
  below-selected-all key (e ∷ es) h = below-selected key e es (p e.1) refl h.0 (below-selected-all key es h.1)

  -- what comes before all goes first
  with-first : (key : Key) (object : V) (state : State V) → IsBelow key (keys_of state) → with_object key object state ≡ (key, object) ∷ state
  with-first key object [] h = refl
  with-first key object (e ∷ es) h = rw h.0 refl

  ascending-selected-here : (e : Key × V) (es : State V) (b : Bool) → p e.1 ≡ b → IsBelow e.0 (keys_of es) → IsAscending (selected_in p es) → IsAscending (selected_in p (e ∷ es))
  unfolding IsStrictlySortedBy
  ascending-selected-here e es true is below more = rw is (below-selected-all e.0 es below, more)
  ascending-selected-here e es false is below more = rw is more

  pub ascending-selected : (state : State V) → IsAscending state → IsAscending (selected_in p state)
  unfolding IsStrictlySortedBy
  ascending-selected [] up = tt
  ascending-selected (e ∷ es) up = ascending-selected-here e es (p e.1) refl up.0 (ascending-selected es up.1)

  keyed-selected-here : (e : Key × V) (es : State V) (b : Bool) → p e.1 ≡ b → IsKeyed meta e → AllKeyed meta (selected_in p es) → AllKeyed meta (selected_in p (e ∷ es))
  keyed-selected-here e es true is k more = rw is (k, more)
  keyed-selected-here e es false is k more = rw is more

  pub keyed-selected : (state : State V) → AllKeyed meta state → AllKeyed meta (selected_in p state)
  keyed-selected [] k = tt
  keyed-selected (e ∷ es) k = keyed-selected-here e es (p e.1) refl k.0 (keyed-selected es k.1)

  -- ---- a selected object

  with-selected-here : (key : Key) (object : V) (e : Key × V) (es : State V) (r : Ordering) (b : Bool) → key_cmp key e.0 ≡ r → p e.1 ≡ b → p object ≡ true → (key_cmp key e.0 ≡ Equal → p e.1 ≡ true)
      → IsBelow e.0 (keys_of es) → selected_in p (with_object key object es) ≡ with_object key object (selected_in p es)
      → selected_in p (match_ordering r ((key, object) ∷ e ∷ es) ((e.0, object) ∷ es) (e ∷ with_object key object es)) ≡ with_object key object (selected_in p (e ∷ es))
  with-selected-here key object e es Less b er eb po same below more =
      let first = with-first key object (selected_in p (e ∷ es)) (below-selected-all key (e ∷ es) (er, below-all key e.0 (keys_of es) er below)) in
      rw po (sym first)
  with-selected-here key object e es Equal true er eb po same below more = rw (po, eb, er) refl
  with-selected-here key object e es Equal false er eb po same below more =
      let other : true ≡ false = sym (same er) ∙ eb in
      cc
  with-selected-here key object e es Greater true er eb po same below more = rw (eb, er) (ap (λ xs. e ∷ xs) more)
  with-selected-here key object e es Greater false er eb po same below more = rw eb more

  with-selected : (key : Key) (object : V) (state : State V) → p object ≡ true → IsAgreed key true state → IsAscending state → selected_in p (with_object key object state) ≡ with_object key object (selected_in p state)
  unfolding IsStrictlySortedBy
  with-selected key object [] po same up = rw po refl
  with-selected key object (e ∷ es) po same up =
      with-selected-here key object e es (key_cmp key e.0) (p e.1) refl refl po same.0 up.0 (with-selected key object es po same.1 up.1)

  without-selected-here : (key : Key) (e : Key × V) (es : State V) (r : Ordering) (b : Bool) → key_cmp key e.0 ≡ r → p e.1 ≡ b → (key_cmp key e.0 ≡ Equal → p e.1 ≡ true)
      → selected_in p (without_object key es) ≡ without_object key (selected_in p es)
      → selected_in p (without_object key (e ∷ es)) ≡ without_object key (selected_in p (e ∷ es))
  without-selected-here key e es Less true er eb same more = rw (er, eb, er) (ap (λ xs. e ∷ xs) more)
  without-selected-here key e es Less false er eb same more = rw (er, eb) more
  without-selected-here key e es Equal true er eb same more = rw (er, eb, er) refl
  without-selected-here key e es Equal false er eb same more =
      let other : true ≡ false = sym (same er) ∙ eb in
      cc
  without-selected-here key e es Greater true er eb same more = rw (er, eb, er) (ap (λ xs. e ∷ xs) more)
  without-selected-here key e es Greater false er eb same more = rw (er, eb) more

  without-selected : (key : Key) (state : State V) → IsAgreed key true state → selected_in p (without_object key state) ≡ without_object key (selected_in p state)
  without-selected key [] same = refl
  without-selected key (e ∷ es) same =
      without-selected-here key e es (key_cmp key e.0) (p e.1) refl refl same.0 (without-selected key es same.1)

  -- ---- an object that isn't selected

  with-other-here : (key : Key) (object : V) (e : Key × V) (es : State V) (r : Ordering) (b : Bool) → key_cmp key e.0 ≡ r → p e.1 ≡ b → p object ≡ false → (key_cmp key e.0 ≡ Equal → p e.1 ≡ false)
      → selected_in p (with_object key object es) ≡ selected_in p es
      → selected_in p (match_ordering r ((key, object) ∷ e ∷ es) ((e.0, object) ∷ es) (e ∷ with_object key object es)) ≡ selected_in p (e ∷ es)
  with-other-here key object e es Less b er eb po same more = rw po refl
  with-other-here key object e es Equal true er eb po same more =
      let other : false ≡ true = sym (same er) ∙ eb in
      cc
  with-other-here key object e es Equal false er eb po same more = rw (po, eb) refl
  with-other-here key object e es Greater b er eb po same more = ap (λ xs. cond (p e.1) (e ∷ xs) xs) more

  with-other : (key : Key) (object : V) (state : State V) → p object ≡ false → IsAgreed key false state → selected_in p (with_object key object state) ≡ selected_in p state
  with-other key object [] po same = rw po refl
  with-other key object (e ∷ es) po same =
      with-other-here key object e es (key_cmp key e.0) (p e.1) refl refl po same.0 (with-other key object es po same.1)

  without-other-here : (key : Key) (e : Key × V) (es : State V) (r : Ordering) (b : Bool) → key_cmp key e.0 ≡ r → p e.1 ≡ b → (key_cmp key e.0 ≡ Equal → p e.1 ≡ false)
      → selected_in p (without_object key es) ≡ selected_in p es
      → selected_in p (without_object key (e ∷ es)) ≡ selected_in p (e ∷ es)
  without-other-here key e es Less b er eb same more = rw er (ap (λ xs. cond (p e.1) (e ∷ xs) xs) more)
  without-other-here key e es Equal true er eb same more =
      let other : false ≡ true = sym (same er) ∙ eb in
      cc
  without-other-here key e es Equal false er eb same more = rw (er, eb) refl
  without-other-here key e es Greater b er eb same more = rw er (ap (λ xs. cond (p e.1) (e ∷ xs) xs) more)

  without-other : (key : Key) (state : State V) → IsAgreed key false state → selected_in p (without_object key state) ≡ selected_in p state
  without-other key [] same = refl
  without-other key (e ∷ es) same =
      without-other-here key e es (key_cmp key e.0) (p e.1) refl refl same.0 (without-other key es same.1)

  -- ---- a change

  agreed-as : (object : V) (b : Bool) → p object ≡ b → IsByKey meta p → is_named (meta object) ≡ true → (state : State V) → AllKeyed meta state → IsAgreed (key_of (meta object)) b state
  agreed-as object b is by named state k = subst (λ x. IsAgreed (key_of (meta object)) x state) is (agreed object by named state k)

  changed-selected : (state : State V) (change : Change V) → p (object_of change) ≡ true → IsByKey meta p → is_named (meta (object_of change)) ≡ true → AllKeyed meta state → IsAscending state
      → selected_in p (changed meta state change) ≡ changed meta (selected_in p state) change
  changed-selected state (Adds o) is by named k up = with-selected (key_of (meta o)) o state is (agreed-as o true is by named state k) up
  changed-selected state (Modifies o) is by named k up = with-selected (key_of (meta o)) o state is (agreed-as o true is by named state k) up
  changed-selected state (Removes o) is by named k up = without-selected (key_of (meta o)) state (agreed-as o true is by named state k)

  changed-other : (state : State V) (change : Change V) → p (object_of change) ≡ false → IsByKey meta p → is_named (meta (object_of change)) ≡ true → AllKeyed meta state
      → selected_in p (changed meta state change) ≡ selected_in p state
  changed-other state (Adds o) is by named k = with-other (key_of (meta o)) o state is (agreed-as o false is by named state k)
  changed-other state (Modifies o) is by named k = with-other (key_of (meta o)) o state is (agreed-as o false is by named state k)
  changed-other state (Removes o) is by named k = without-other (key_of (meta o)) state (agreed-as o false is by named state k)

  -- ---- changes, one after another

  abbrev is_selected : Change V → Bool
  is_selected c = p (object_of c)

  changes-selected-here : (state : State V) (change : Change V) (changes : List (Change V)) (b : Bool) → p (object_of change) ≡ b → IsByKey meta p → is_named (meta (object_of change)) ≡ true → AllKeyed meta state → IsAscending state
      → fold (changed meta) (selected_in p (changed meta state change)) (filter is_selected changes) ≡ selected_in p (fold (changed meta) (changed meta state change) changes)
      → fold (changed meta) (selected_in p state) (filter is_selected (change ∷ changes)) ≡ selected_in p (fold (changed meta) (changed meta state change) changes)
  changes-selected-here state change changes true is by named k up more =
      rw is (ap (λ s. fold (changed meta) s (filter is_selected changes)) (sym (changed-selected state change is by named k up)) ∙ more)
  changes-selected-here state change changes false is by named k up more =
      rw is (ap (λ s. fold (changed meta) s (filter is_selected changes)) (sym (changed-other state change is by named k)) ∙ more)

  -- the selected changes make of the selected objects what all changes make of all, as far as it is selected
  pub changes-selected : (state : State V) (changes : List (Change V)) → IsByKey meta p → AllNamed meta changes → AllKeyed meta state → IsAscending state
      → fold (changed meta) (selected_in p state) (filter is_selected changes) ≡ selected_in p (fold (changed meta) state changes)
  changes-selected state [] by named k up = refl
  changes-selected state (change ∷ changes) by named k up =
      changes-selected-here state change changes (p (object_of change)) refl by named.0 k up
      (changes-selected (changed meta state change) changes by named.1 (keyed-changed meta state change named.0 k) (ascending-changed meta state change up))

-- ---- a history

module _ {V : Type 0} (meta : V → ObjectMeta) where
  pub history-named : (before changes : List (Change V)) → IsHistoryAfter meta before changes → AllNamed meta changes
  history-named before [] h = tt
  history-named before (c ∷ cs) h = (h.0.named, history-named (before ++ c ∷ []) cs h.1)

  named-drop : (from : ℕ) (changes : List (Change V)) → AllNamed meta changes → AllNamed meta (drop from changes)
  named-drop zero cs h = h
  named-drop (suc n) [] h = tt
  named-drop (suc n) (c ∷ cs) h = named-drop n cs h.1

  pub named-take : (to : ℕ) (changes : List (Change V)) → AllNamed meta changes → AllNamed meta (take to changes)
  named-take zero cs h = tt
  named-take (suc n) [] h = tt
  named-take (suc n) (c ∷ cs) h = (h.0, named-take n cs h.1)

  pub keyed-named : (changes : List (Change V)) (state : State V) → AllNamed meta changes → AllKeyed meta state → AllKeyed meta (fold (changed meta) state changes)
  keyed-named [] state n k = k
  keyed-named (c ∷ cs) state n k = keyed-named cs (changed meta state c) n.1 (keyed-changed meta state c n.0 k)

  -- the state at a revision, from that at an earlier one
  state_at-later : (history : List (Change V)) (from to : ℕ) → from ≤ to → state_at meta history to ≡ fold (changed meta) (state_at meta history from) (drop from (take to history))
  state_at-later history from to le =
      let first : take from (take to history) ≡ take from history = take-take from to history le in
      let whole : take from (take to history) ++ drop from (take to history) ≡ take to history = take-append-drop from (take to history) in
      ap (state_of meta) (sym whole) ∙ (fold-append (changed meta) [] (take from (take to history)) (drop from (take to history)) ∙ ap (λ cs. fold (changed meta) (state_of meta cs) (drop from (take to history))) first)

module _ {V : Type 0} (meta : V → ObjectMeta) (selects : Selection → V → Bool) (history : List (Change V)) where
  -- the selected changes between two revisions bring the selected state at the one to that at the other
  pub states-selected : (s : Selection) (from to : ℕ) → IsHistory meta history → IsByKey meta (selects s) → from ≤ to
      → fold (changed meta) (selected_state meta selects history s from) (selected_between meta selects history s from to) ≡ selected_state meta selects history s to
  states-selected s from to h by le =
      let named = history-named meta [] history h in
      changes-selected meta (selects s) (state_at meta history from) (drop from (take to history)) by
      (named-drop meta from (take to history) (named-take meta to history named))
      (keyed-named meta (take from history) [] (named-take meta from history named) tt)
      (states-ascend meta (take from history))
      ∙ ap (selected_in (selects s)) (sym (state_at-later meta history from to le))

  -- ---- events

  tells-put : (o : V) (cs rest : List (Change V)) (events : List (RawAnswer V)) → PutsAlone o cs → TellEach events rest → TellEach (GivesAdded o ∷ events) (cs ++ rest)
  tells-put o [] rest events t e = absurd t
  tells-put o (Adds x ∷ []) rest events t e = (t, e)
  tells-put o (Adds x ∷ c ∷ cs) rest events t e = absurd t
  tells-put o (Modifies x ∷ []) rest events t e = (t, e)
  tells-put o (Modifies x ∷ c ∷ cs) rest events t e = absurd t
  tells-put o (Removes x ∷ cs) rest events t e = absurd t

  tells-modified : (o : V) (cs rest : List (Change V)) (events : List (RawAnswer V)) → PutsAlone o cs → TellEach events rest → TellEach (GivesModified o ∷ events) (cs ++ rest)
  tells-modified o [] rest events t e = absurd t
  tells-modified o (Adds x ∷ []) rest events t e = (t, e)
  tells-modified o (Adds x ∷ c ∷ cs) rest events t e = absurd t
  tells-modified o (Modifies x ∷ []) rest events t e = (t, e)
  tells-modified o (Modifies x ∷ c ∷ cs) rest events t e = absurd t
  tells-modified o (Removes x ∷ cs) rest events t e = absurd t

  tells-removal : (o : V) (cs rest : List (Change V)) (events : List (RawAnswer V)) → RemovesAlone o cs → TellEach events rest → TellEach (GivesDeleted o ∷ events) (cs ++ rest)
  tells-removal o [] rest events t e = absurd t
  tells-removal o (Adds x ∷ cs) rest events t e = absurd t
  tells-removal o (Modifies x ∷ cs) rest events t e = absurd t
  tells-removal o (Removes x ∷ []) rest events t e = (t, e)
  tells-removal o (Removes x ∷ c ∷ cs) rest events t e = absurd t

  tells-first : (s : Selection) (from : ℕ) (event : RawAnswer V) (reached : ℕ) (rest : List (Change V)) (events : List (RawAnswer V)) → Tells meta selects history s from event reached → TellEach events rest
      → TellEach (event ∷ events) (selected_between meta selects history s from reached ++ rest)
  tells-first s from Waits reached rest events t e = absurd t
  tells-first s from (Fails error) reached rest events t e = absurd t
  tells-first s from (GivesPage items token version) reached rest events t e = absurd t
  tells-first s from Opens reached rest events t e = absurd t
  tells-first s from (GivesAdded o) reached rest events t e = tells-put o (selected_between meta selects history s from reached) rest events t e
  tells-first s from (GivesModified o) reached rest events t e = tells-modified o (selected_between meta selects history s from reached) rest events t e
  tells-first s from (GivesDeleted o) reached rest events t e = tells-removal o (selected_between meta selects history s from reached) rest events t e
  tells-first s from (GivesBookmark version annotations) reached rest events t e = rw t.1 e
  tells-first s from (GivesError status) reached rest events t e = absurd t
  tells-first s from Ends reached rest events t e = absurd t

  -- events that follow a revision go up to a later one
  pub Follow-rises : (s : Selection) (from : ℕ) (events : List (RawAnswer V)) (to : ℕ) → Follow meta selects history s from events to → from ≤ to
  Follow-rises s from [] to f = omega (arith, f)
  Follow-rises s from (event ∷ events) to f = omega (arith, f.1, Follow-rises s f.0 events to f.4)

  pub Follow-within : (s : Selection) (from : ℕ) (events : List (RawAnswer V)) (to : ℕ) → Follow meta selects history s from events to → from ≤ length history → to ≤ length history
  Follow-within s from [] to f within = omega (arith, f)
  Follow-within s from (event ∷ events) to f within = Follow-within s f.0 events to f.4 f.2

  -- they tell each selected change between, once and in order
  pub Follow-tells : (s : Selection) (from : ℕ) (events : List (RawAnswer V)) (to : ℕ) → Follow meta selects history s from events to → TellEach events (selected_between meta selects history s from to)
  Follow-tells s from [] to f = rw f (selected_between-none meta selects history s from)
  Follow-tells s from (event ∷ events) to f =
      rw (selected_between-join meta selects history s from f.0 to f.1 (Follow-rises s f.0 events to f.4))
      (tells-first s from event f.0 (selected_between meta selects history s f.0 to) events f.3 (Follow-tells s f.0 events to f.4))

-- ---- what a reader makes of them

module _ {V : Type 0} (meta : V → ObjectMeta) where
  put-made : (o : V) (change : Change V) (state : State V) → PutsAlone o (change ∷ []) → with_object (key_of (meta o)) o state ≡ changed meta state change
  put-made o (Adds x) state t = ap (λ y. with_object (key_of (meta y)) y state) (sym t)
  put-made o (Modifies x) state t = ap (λ y. with_object (key_of (meta y)) y state) (sym t)
  put-made o (Removes x) state t = absurd t

  removal-made : (o : V) (change : Change V) (state : State V) → RemovesAlone o (change ∷ []) → without_object (key_of (meta o)) state ≡ changed meta state change
  removal-made o (Adds x) state t = absurd t
  removal-made o (Modifies x) state t = absurd t
  removal-made o (Removes x) state t = ap (λ y. without_object (key_of (meta y)) state) (sym t)

  -- what tells changes makes of a state what they make of it
  pub told-made : (events : List (RawAnswer V)) (changes : List (Change V)) (state : State V) → TellEach events changes → after_events meta state events ≡ fold (changed meta) state changes
  told-made [] changes state t = rw t refl
  told-made (Waits ∷ events) [] state t = absurd t
  told-made (Waits ∷ events) (c ∷ cs) state t = absurd t.0
  told-made (Fails error ∷ events) [] state t = absurd t
  told-made (Fails error ∷ events) (c ∷ cs) state t = absurd t.0
  told-made (GivesPage items token version ∷ events) [] state t = absurd t
  told-made (GivesPage items token version ∷ events) (c ∷ cs) state t = absurd t.0
  told-made (Opens ∷ events) [] state t = absurd t
  told-made (Opens ∷ events) (c ∷ cs) state t = absurd t.0
  told-made (GivesAdded o ∷ events) [] state t = absurd t
  told-made (GivesAdded o ∷ events) (c ∷ cs) state t = rw (put-made o c state t.0) (told-made events cs (changed meta state c) t.1)
  told-made (GivesModified o ∷ events) [] state t = absurd t
  told-made (GivesModified o ∷ events) (c ∷ cs) state t = rw (put-made o c state t.0) (told-made events cs (changed meta state c) t.1)
  told-made (GivesDeleted o ∷ events) [] state t = absurd t
  told-made (GivesDeleted o ∷ events) (c ∷ cs) state t = rw (removal-made o c state t.0) (told-made events cs (changed meta state c) t.1)
  told-made (GivesBookmark version annotations ∷ events) changes state t = told-made events changes state t
  told-made (GivesError status ∷ events) [] state t = absurd t
  told-made (GivesError status ∷ events) (c ∷ cs) state t = absurd t.0
  told-made (Ends ∷ events) [] state t = absurd t
  told-made (Ends ∷ events) (c ∷ cs) state t = absurd t.0

  -- a later watch brings a reader from the selected state at a revision to that at a later one
  pub Follow-states : (selects : Selection → V → Bool) (history : List (Change V)) (s : Selection) (from to : ℕ) (events : List (RawAnswer V)) → IsHistory meta history → IsByKey meta (selects s) → Follow meta selects history s from events to
      → after_events meta (selected_state meta selects history s from) events ≡ selected_state meta selects history s to
  Follow-states selects history s from to events h by f =
      told-made events (selected_between meta selects history s from to) (selected_state meta selects history s from) (Follow-tells meta selects history s from events to f)
      ∙ states-selected meta selects history s from to h by (Follow-rises meta selects history s from events to f)
