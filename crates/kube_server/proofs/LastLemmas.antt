-- From the version of what a watch told last, a watch goes on without gaps.
use Rattle.std.proofs.Common.{◌≡◌, ℕ, suc, ◌+◌, ◌-◌, ◌≤◌, ◌<◌, inl, inr, Bool, true, false, List, [], ◌∷◌, ◌++◌, take, drop, length, filter, fold, Some, refl, sym, ap, ◌∙◌, subst, arith, append_assoc, length-append}
use Rattle.std.specs.Prelude.{decimal}
use Rattle.std.proofs.Math.Seq.{drop-append_seam}
use Rattle.std.proofs.lemmas.List.{take-take, take-append-drop, length-take}
use Rattle.kube_meta.specs.declared.metadata.ObjectMeta.{ObjectMeta}
use Rattle.kube_model.specs.Raw.{RawAnswer, Waits, Fails, GivesPage, Opens, GivesAdded, GivesModified, GivesDeleted, GivesBookmark, GivesError, Ends}
use Rattle.kube_server.specs.History.{Change, Adds, Modifies, Removes, object_of, changed, IsHistory}
use Rattle.kube_server.specs.Honest.{Selection, PutsAlone, RemovesAlone, selected_between, Tells, Follow}
use Rattle.kube_server.specs.Readers.{IsTold, selected_state, GoesOnFrom}
use Rattle.kube_server.proofs.ReaderLemmas.{states-selected}
use Rattle.kube_server.proofs.HistoryLemmas.{history-next}

-- the one that passes, with those before and after it
record IsAlone {X : Type 0} (p : X → Bool) (xs : List X) (x : X) : Type 0 where
  before : List X
  after : List X
  parts : xs ≡ before ++ x ∷ after
  rest : filter p after ≡ []

alone-here : {X : Type 0} (p : X → Bool) (y : X) (ys : List X) (x : X) (b : Bool) → p y ≡ b → filter p (y ∷ ys) ≡ x ∷ [] → (filter p ys ≡ x ∷ [] → IsAlone p ys x) → IsAlone p (y ∷ ys) x
alone-here p y ys x true is one more =
    let all : y ∷ filter p ys ≡ x ∷ [] = rw is at one in
    let same : y ≡ x = cc in
    record { before = []; after = ys; parts = ap (λ z. z ∷ ys) same; rest = cc }
alone-here p y ys x false is one more =
    let rest : filter p ys ≡ x ∷ [] = rw is at one in
    let m = more rest in
    record { before = y ∷ m.before; after = m.after; parts = ap (λ zs. y ∷ zs) m.parts; rest = m.rest }

alone : {X : Type 0} (p : X → Bool) (xs : List X) (x : X) → filter p xs ≡ x ∷ [] → IsAlone p xs x
alone p [] x one = absurd (cc)
alone p (y ∷ ys) x one = alone-here p y ys x (p y) refl one (alone p ys x)

module _ {V : Type 0} (meta : V → ObjectMeta) (selects : Selection → V → Bool) (h : List (Change V)) where
  -- the change that is told alone has its revision as version, and after it none was to be told
  told-alone : (s : Selection) (from to : ℕ) (c : Change V) → IsHistory meta h → from ≤ to → to ≤ length h → selected_between meta selects h s from to ≡ c ∷ [] → GoesOnFrom meta selects h s (object_of c) from to
  told-alone s from to c is rises within one =
      let a = alone (λ x. selects s (object_of x)) (drop from (take to h)) c one in
      let front : List (Change V) = take from (take to h) ++ a.before in
      let counted : length (take from (take to h)) ≡ from = simp (length-take, length-take) (omega arith) in
      let upto : take to h ≡ front ++ c ∷ a.after = sym (take-append-drop from (take to h)) ∙ (ap (λ xs. take from (take to h) ++ xs) a.parts ∙ sym (append_assoc (take from (take to h)) a.before (c ∷ a.after))) in
      let whole : h ≡ front ++ c ∷ (a.after ++ drop to h) = sym (take-append-drop to h) ∙ (ap (λ xs. xs ++ drop to h) upto ∙ append_assoc front (c ∷ a.after) (drop to h)) in
      let next = history-next meta front (a.after ++ drop to h) c (subst (λ xs. IsHistory meta xs) whole is) in
      let ends : take to h ≡ (front ++ c ∷ []) ++ a.after = upto ∙ sym (append_assoc front (c ∷ []) a.after) in
      let r : length (front ++ c ∷ []) ≡ length front + 1 = length-append front (c ∷ []) in
      let behind : drop (length front + 1) (take to h) ≡ a.after = subst (λ n. drop n (take to h) ≡ a.after) r (ap (λ xs. drop (length (front ++ c ∷ [])) xs) ends ∙ drop-append_seam (front ++ c ∷ []) a.after) in
      let size : length (take to h) ≡ length front + suc (length a.after) = ap length upto ∙ length-append front (c ∷ a.after) in
      let front-size = length-append (take from (take to h)) a.before in
      let quiet : selected_between meta selects h s (length front + 1) to ≡ [] = ap (filter (λ x. selects s (object_of x))) behind ∙ a.rest in
      let within : length front + 1 ≤ to = omega (arith, size, length-take to h) in
      record {
        revision = length front + 1;
        versioned = next.versioned;
        after = omega (arith, counted, front-size);
        within = within;
        quiet = quiet;
        same = λ by. sym (ap (fold (changed meta) (selected_state meta selects h s (length front + 1))) quiet) ∙ states-selected meta selects h s (length front + 1) to is by within;
      }

  record IsOne (object : V) (cs : List (Change V)) : Type 0 where
    change : Change V
    one : cs ≡ change ∷ []
    is : object_of change ≡ object

  put-one : (o : V) (cs : List (Change V)) → PutsAlone o cs → IsOne o cs
  put-one o [] t = absurd t
  put-one o (Adds x ∷ []) t = record { change = Adds x; one = refl; is = t }
  put-one o (Adds x ∷ c ∷ cs) t = absurd t
  put-one o (Modifies x ∷ []) t = record { change = Modifies x; one = refl; is = t }
  put-one o (Modifies x ∷ c ∷ cs) t = absurd t
  put-one o (Removes x ∷ cs) t = absurd t

  removal-one : (o : V) (cs : List (Change V)) → RemovesAlone o cs → IsOne o cs
  removal-one o [] t = absurd t
  removal-one o (Adds x ∷ cs) t = absurd t
  removal-one o (Modifies x ∷ cs) t = absurd t
  removal-one o (Removes x ∷ []) t = record { change = Removes x; one = refl; is = t }
  removal-one o (Removes x ∷ c ∷ cs) t = absurd t

  of-one : (s : Selection) (from to : ℕ) (o p : V) → IsHistory meta h → from ≤ to → to ≤ length h → o ≡ p → IsOne o (selected_between meta selects h s from to) → GoesOnFrom meta selects h s p from to
  of-one s from to o p is rises within same i = subst (λ x. GoesOnFrom meta selects h s x from to) (i.is ∙ same) (told-alone s from to i.change is rises within i.one)

  event-one : (s : Selection) (from to : ℕ) (event : RawAnswer V) (p : V) → IsHistory meta h → from ≤ to → to ≤ length h → IsTold p event → Tells meta selects h s from event to → GoesOnFrom meta selects h s p from to
  event-one s from to Waits p is rises within told t = absurd told
  event-one s from to (Fails error) p is rises within told t = absurd told
  event-one s from to (GivesPage items token version) p is rises within told t = absurd told
  event-one s from to Opens p is rises within told t = absurd told
  event-one s from to (GivesAdded o) p is rises within told t = of-one s from to o p is rises within told (put-one o (selected_between meta selects h s from to) t)
  event-one s from to (GivesModified o) p is rises within told t = of-one s from to o p is rises within told (put-one o (selected_between meta selects h s from to) t)
  event-one s from to (GivesDeleted o) p is rises within told t = of-one s from to o p is rises within told (removal-one o (selected_between meta selects h s from to) t)
  event-one s from to (GivesBookmark version annotations) p is rises within told t = absurd told
  event-one s from to (GivesError status) p is rises within told t = absurd told
  event-one s from to Ends p is rises within told t = absurd told

  -- what events told last names the revision from which they go on
  pub last-told : (s : Selection) (from : ℕ) (events : List (RawAnswer V)) (event : RawAnswer V) (to : ℕ) (p : V) → IsHistory meta h → IsTold p event → Follow meta selects h s from (events ++ event ∷ []) to → GoesOnFrom meta selects h s p from to
  last-told s from [] event to p is told f =
      subst (λ r. GoesOnFrom meta selects h s p from r) (sym f.4) (event-one s from f.0 event p is f.1 f.2 told f.3)
  last-told s from (first ∷ events) event to p is told f =
      let g = last-told s f.0 events event to p is told f.4 in
      record { revision = g.revision; versioned = g.versioned; after = omega (arith, g.after, f.1); within = g.within; quiet = g.quiet; same = g.same }
