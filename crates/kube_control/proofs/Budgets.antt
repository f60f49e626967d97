-- Turns keep to their budgets.
use Rattle.std.proofs.Common.{◌≡◌, ◌==◌, ◌<◌, ◌≤◌, ◌+◌, ℕ, Bool, true, false, not, ◌||◌, ◌&&◌, List, [], ◌∷◌, ◌++◌, map, length, Option, Some, None, slice_index, unwrap_or, is_some, IsTrue, inl, inr, if◌then◌else◌, refl, sym, ap, subst, ◌∙◌, append_assoc, append-nil, arith}
use Rattle.std.specs.List.{find, list_any}
use Rattle.std.proofs.lemmas.Bool.{eqb-true, ltb-true}
use Rattle.std.proofs.lemmas.List.{map-append, length-append}
use Rattle.std.proofs.lemmas.List.Elements.{filter-append}
use Rattle.std.proofs.lemmas.List.Folds.{list_any-append}
use Rattle.kube_model.specs.declared.call.Call.{Call}
use Rattle.kube_model.specs.declared.call.Call.TheVariants.{List as ListCall, Watch, Next, Stream}
use Rattle.kube_model.specs.declared.call.Answer.{Answer}
use Rattle.kube_model.specs.declared.call.Answer.TheVariants.{Page, Opened, Added, Modified, Deleted, Bookmark, ErrorItem, Fault, End, NotReady, Idle, Item, Spent}
use Rattle.kube_model.specs.World.{World, Settings, Watched, feed_of, start_by, version_zero, window_of}
use Rattle.kube_model.specs.Cuts.{last}
use Rattle.kube_model.specs.Fits.{answers, error_of, idle_fits, is_window_over, silent_since, ErrorFits, IsAnswered, IsFitting}
use Rattle.kube_model.specs.History.{Dated, Exchange, Turn, Step, dated, dated_of, exchanges, exchanges_of, exchanges_with}
use Rattle.kube_model.specs.Asks.{told_not_ready, has_budget, is_quiet, may_be_asked, in_turn}
use Rattle.kube_model.specs.Owed.{answered, is_initial, is_next, is_not_ready, mark, owed, owed_after, owed_by, seen}
use Rattle.kube_model.specs.Pause.{gave_up, is_paused}
use Rattle.kube_model.specs.Turns.{next_source, was_asked}
use Rattle.kube_model.specs.Traces.{EachIsNext, IsTrace, Made, step, steps}
use Rattle.kube_watch.specs.Agrees.{asks_api}
use Rattle.kube_watch.specs.Polls.{IsNext, AreNext}
use Rattle.kube_watch.proofs.Idling.{idles-once}
use Rattle.kube_watch.proofs.Rows.{agrees}
use Rattle.kube_control.specs.Budgets.{KeepsBudget, EachKeepsBudget}

find-holds : {A : Type 0} (p : A → Bool) (xs : List A) (x : A) → find p xs ≡ Some x → p x ≡ true
find-holds p [] x e = absurd (cc)
find-holds p (y ∷ ys) x e = go (p y) refl e (find-holds p ys x)
  where
    go : (b : Bool) → p y ≡ b → (if b then Some y else find p ys) ≡ Some x → (find p ys ≡ Some x → p x ≡ true) → p x ≡ true
    go true h k rest = subst (λ z. p z ≡ true) (let same : y ≡ x = ap (λ o. unwrap_or o y) k in same) h
    go false h k rest = rest k

both-hold : (a b : Bool) → (a && b) ≡ true → (a ≡ true) × (b ≡ true)
both-hold true b e = (refl, e)
both-hold false b e = absurd (cc)

neither-holds : (a b : Bool) → not (a || b) ≡ true → a ≡ false
neither-holds true b e = absurd (cc)
neither-holds false b e = refl

dated-more : {O : Type 0} (at : ℕ) (xs ys : List (Exchange O)) → dated at (xs ++ ys) ≡ dated at xs ++ dated at ys
dated-more at xs ys = map-append (λ x. record { at = at; exchange = x }) xs ys

of-more : {O : Type 0} (source at : ℕ) (xs ys : List (Exchange O)) → dated_of source (dated at (xs ++ ys)) ≡ dated_of source (dated at xs) ++ dated_of source (dated at ys)
of-more source at xs ys = ap (dated_of source) (dated-more at xs ys) ∙ filter-append (λ d. d.exchange.source == source) (dated at xs) (dated at ys)

of-one : {O : Type 0} (source at : ℕ) (x : Exchange O) (b : Bool) → (x.source == source) ≡ b → dated_of source (dated at (x ∷ [])) ≡ (if b then record { at = at; exchange = x } ∷ [] else [])
of-one source at x b e = ap (λ c. if c then record { at = at; exchange = x } ∷ [] else []) e

told-more : {O : Type 0} (source at : ℕ) (xs ys : List (Exchange O)) → told_not_ready source (dated at xs) ≡ true → told_not_ready source (dated at (xs ++ ys)) ≡ true
told-more source at xs ys e =
    ap (list_any (λ (d : Dated _). is_not_ready d.exchange.answer)) (of-more source at xs ys)
    ∙ (list_any-append (λ (d : Dated _). is_not_ready d.exchange.answer) (dated_of source (dated at xs)) (dated_of source (dated at ys))
    ∙ ap (λ b. b || list_any (λ (d : Dated _). is_not_ready d.exchange.answer) (dated_of source (dated at ys))) e)

-- a source that lists and watches never owes a look at a stream
start-asks : (b : Bool) → asks_api (if b then Watch version_zero true else ListCall None) ≡ true
start-asks true = refl
start-asks false = refl

or-start : (s : Settings) (b : Bool) → asks_api (if b then Next else start_by s) ≡ true
or-start s true = refl
or-start s false = start-asks s.streaming

start-or : (s : Settings) (b : Bool) (c : Call) → asks_api c ≡ true → asks_api (if b then start_by s else c) ≡ true
start-or s true c e = start-asks s.streaming
start-or s false c e = e

token-asks : (s : Settings) (token version : Option (List ℕ)) → asks_api (if is_some token then ListCall token else elim version [ Some v ↦ Watch v false | None ↦ start_by s ]) ≡ true
token-asks s (Some t) version = refl
token-asks s None (Some v) = refl
token-asks s None None = start-asks s.streaming

fault-asks : (s : Settings) (v : List ℕ) (c : Call) → asks_api (elim c [ Watch version first ↦ if first then start_by s else Watch v false | ListCall token ↦ start_by s | _ ↦ Next ]) ≡ true
fault-asks s v (Watch version first) = start-or s first (Watch v false) refl
fault-asks s v (ListCall token) = start-asks s.streaming
fault-asks s v Next = refl
fault-asks s v Stream = refl

owed-asks : {O : Type 0} (s : Settings) (i : Bool) (v : List ℕ) (o : Option (Exchange O)) → asks_api (owed_by s i v o) ≡ true
owed-asks s i v None = start-asks s.streaming
owed-asks {O} s i v (Some x) = go x.answer
  where
    go : (a : Answer) → asks_api (owed_after s i v (record x { answer = a })) ≡ true
    go (Page token version) = token-asks s token version
    go Opened = refl
    go (Added version) = or-start s (i || is_some version)
    go (Modified version) = or-start s (i || is_some version)
    go (Deleted version) = or-start s (i || is_some version)
    go (Bookmark version ending) = refl
    go (ErrorItem status) = start-or s (status.code == 410) Next refl
    go (Fault error) = fault-asks s v x.call
    go End = start-or s i (Watch v false) refl
    go NotReady = refl
    go Idle = start-or s i (Watch v false) refl
    go Item = refl
    go Spent = refl

-- nor is it answered by an item of one
error-is : {O : Type 0} (own : List (Exchange O)) (x : Exchange O) → asks_api x.call ≡ true → IsAnswered own x → x.error ≡ error_of (mark own x)
error-is {O} own x asks k = go k.error
  where
    no-item : (c : Call) → asks_api c ≡ true → IsTrue (answers c Item) → ⊥
    no-item (ListCall token) e h = cc
    no-item (Watch version initial) e h = cc
    no-item Next e h = cc
    no-item Stream e h = cc

    go : ErrorFits (mark own x) → x.error ≡ error_of (mark own x)
    go (inl item) = absurd (no-item x.call asks (subst (λ a. IsTrue (answers x.call a)) item k.answered))
    go (inr e) = e

module _ {O B : Type 0} (w : World O B) (h : List (Step O)) (t : Turn) where
  -- the source that is asked next may be
  next-may : (xs : List (Exchange O)) (source : ℕ) → next_source w h t xs ≡ Some source → may_be_asked w t.budget (exchanges h) (dated t.at xs) source ≡ true
  next-may xs source e = go (was_asked w h t) (gave_up w (exchanges_with h t xs) || is_paused w t.at (exchanges_with h t xs)) e
    where
      go : (a b : Bool) → (if a then None else if b then None else find (may_be_asked w t.budget (exchanges h) (dated t.at xs)) (in_turn w (exchanges_with h t xs))) ≡ Some source
          → may_be_asked w t.budget (exchanges h) (dated t.at xs) source ≡ true
      go true b k = absurd (cc)
      go false true k = absurd (cc)
      go false false k = find-holds (may_be_asked w t.budget (exchanges h) (dated t.at xs)) (in_turn w (exchanges_with h t xs)) source k

  at-most : (source : ℕ) (before xs : List (Exchange O)) → EachIsNext w h t before xs → length (dated_of source (dated t.at before)) ≤ slice_index t.budget source
      → length (dated_of source (dated t.at (before ++ xs))) ≤ slice_index t.budget source
  at-most source before [] k l = subst (λ ys. length (dated_of source (dated t.at ys)) ≤ slice_index t.budget source) (sym (append-nil before)) l
  at-most source before (x ∷ xs) k l =
      subst (λ ys. length (dated_of source (dated t.at ys)) ≤ slice_index t.budget source) (append_assoc before (x ∷ []) xs)
      (at-most source (before ++ x ∷ []) xs k.1
      (go (x.source == source) refl))
    where
      go : (b : Bool) → (x.source == source) ≡ b → length (dated_of source (dated t.at (before ++ x ∷ []))) ≤ slice_index t.budget source
      go true e =
          let may = both-hold (has_budget t.budget (dated t.at before) x.source) (not (is_quiet w t.budget (exchanges h) (dated t.at before) x.source)) (next-may before x.source k.0.source) in
          let below = ltb-true (length (dated_of x.source (dated t.at before))) (slice_index t.budget x.source) may.0 in
          let same : x.source ≡ source = eqb-true x.source source e in
          let room = subst (λ s. length (dated_of s (dated t.at before)) < slice_index t.budget s) same below in
          let long = ap (length {A = Dated O}) (of-more source t.at before (x ∷ []) ∙ ap (λ ds. dated_of source (dated t.at before) ++ ds) (of-one source t.at x true e)) in
          omega (arith, room, long, length-append (dated_of source (dated t.at before)) (record { at = t.at; exchange = x } ∷ []))
      go false e =
          subst (λ ds. length ds ≤ slice_index t.budget source) (sym (of-more source t.at before (x ∷ []) ∙ (ap (λ ds. dated_of source (dated t.at before) ++ ds) (of-one source t.at x false e) ∙ append-nil (dated_of source (dated t.at before))))) l

  quiet-after : (source : ℕ) (before xs : List (Exchange O)) → EachIsNext w h t before xs → told_not_ready source (dated t.at before) ≡ true → dated_of source (dated t.at xs) ≡ []
  quiet-after source before [] k e = refl
  quiet-after source before (x ∷ xs) k e = go (x.source == source) refl (quiet-after source (before ++ x ∷ []) xs k.1 (told-more source t.at before (x ∷ []) e))
    where
      go : (b : Bool) → (x.source == source) ≡ b → dated_of source (dated t.at xs) ≡ [] → dated_of source (dated t.at (x ∷ xs)) ≡ []
      go true m rest =
          let may = both-hold (has_budget t.budget (dated t.at before) x.source) (not (is_quiet w t.budget (exchanges h) (dated t.at before) x.source)) (next-may before x.source k.0.source) in
          let told = neither-holds (told_not_ready x.source (dated t.at before)) _ may.1 in
          let same : x.source ≡ source = eqb-true x.source source m in
          absurd (let z : true ≡ false = sym e ∙ subst (λ s. told_not_ready s (dated t.at before) ≡ false) same told in cc)
      go false m rest = of-more source t.at (x ∷ []) xs ∙ (ap (λ ds. ds ++ dated_of source (dated t.at xs)) (of-one source t.at x false m) ∙ rest)

  split : (before front rest : List (Exchange O)) → EachIsNext w h t before (front ++ rest) → EachIsNext w h t (before ++ front) rest
  split before [] rest k = subst (λ ys. EachIsNext w h t ys rest) (sym (append-nil before)) k
  split before (x ∷ front) rest k = subst (λ ys. EachIsNext w h t ys rest) (append_assoc before (x ∷ []) front) (split (before ++ x ∷ []) front rest k.1)

  module _ (source : ℕ) (settings : Settings) (watched : feed_of w source ≡ Watched settings) where
    -- an exchange of the source is one that a watcher makes
    watcher-next : (before : List (Exchange O)) (x : Exchange O) → x.source ≡ source → IsFitting w (exchanges_with h t before) t.at x → IsNext settings (dated_of source (exchanges_with h t before)) t.at x
    watcher-next before x same fits =
        let own = exchanges_of source (exchanges_with h t before) in
        let owes : x.call ≡ owed (Watched settings) own =
        subst (λ s. x.call ≡ owed (feed_of w s) (exchanges_of s (exchanges_with h t before))) same fits.owes ∙ ap (λ f. owed f own) watched in
        let answer = subst (λ s. IsAnswered (exchanges_of s (exchanges_with h t before)) x) same fits.answer in
        let asks : asks_api x.call ≡ true = ap asks_api owes ∙ owed-asks settings (is_initial own) (seen own) (last (answered own)) in
        record {
          owes = owes;
          answered = answer.answered;
          texts = answer.texts;
          idle =
              subst (λ f. IsTrue (is_next x.call) → IsTrue (idle_fits (is_window_over (window_of f) (silent_since (dated_of source (exchanges_with h t before))) t.at) x.answer)) watched
              (subst (λ s. IsTrue (is_next x.call) → IsTrue (idle_fits (is_window_over (window_of (feed_of w s)) (silent_since (dated_of s (exchanges_with h t before))) t.at) x.answer)) same fits.idle);
          error = error-is own x asks answer ∙ sym (agrees settings own x owes asks answer.answered).error;
        }

    with-one : (before : List (Exchange O)) (x : Exchange O) → dated_of source (exchanges_with h t (before ++ x ∷ [])) ≡ dated_of source (exchanges_with h t before) ++ dated_of source (dated t.at (x ∷ []))
    with-one before x =
        ap (dated_of source) (ap (λ ds. exchanges h ++ ds) (dated-more t.at before (x ∷ [])) ∙ sym (append_assoc (exchanges h) (dated t.at before) (dated t.at (x ∷ []))))
        ∙ filter-append (λ d. d.exchange.source == source) (exchanges_with h t before) (dated t.at (x ∷ []))

    watcher-are : (before xs : List (Exchange O)) → EachIsNext w h t before xs → AreNext settings (dated_of source (exchanges_with h t before)) t.at (exchanges_of source (dated t.at xs))
    watcher-are before [] k = tt
    watcher-are before (x ∷ xs) k = go (x.source == source) refl (watcher-are (before ++ x ∷ []) xs k.1)
      where
        go : (b : Bool) → (x.source == source) ≡ b → AreNext settings (dated_of source (exchanges_with h t (before ++ x ∷ []))) t.at (exchanges_of source (dated t.at xs))
            → AreNext settings (dated_of source (exchanges_with h t before)) t.at (exchanges_of source (dated t.at (x ∷ xs)))
        go true m rest =
            let one = of-one source t.at x true m in
            subst (λ zs. AreNext settings (dated_of source (exchanges_with h t before)) t.at zs)
            (sym (ap (map (λ (d : Dated O). d.exchange)) (of-more source t.at (x ∷ []) xs ∙ ap (λ ds. ds ++ dated_of source (dated t.at xs)) one))) (
              watcher-next before x (eqb-true x.source source m) k.0.fits,
              subst (λ ds. AreNext settings ds t.at (exchanges_of source (dated t.at xs))) (with-one before x ∙ ap (λ ds. dated_of source (exchanges_with h t before) ++ ds) one) rest,
            )
        go false m rest =
            let none = of-one source t.at x false m in
            subst (λ zs. AreNext settings (dated_of source (exchanges_with h t before)) t.at zs)
            (sym (ap (map (λ (d : Dated O). d.exchange)) (of-more source t.at (x ∷ []) xs ∙ ap (λ ds. ds ++ dated_of source (dated t.at xs)) none)))
            (subst (λ ds. AreNext settings ds t.at (exchanges_of source (dated t.at xs)))
            (with-one before x ∙ (ap (λ ds. dated_of source (exchanges_with h t before) ++ ds) none ∙ append-nil (dated_of source (exchanges_with h t before)))) rest)

  pub keeps-budget : (xs : List (Exchange O)) → EachIsNext w h t [] xs → KeepsBudget w t xs
  keeps-budget xs k = record {
    at_most = λ source. at-most source [] xs k (omega arith);
    quiet = λ source front rest e told. quiet-after source front rest (split [] front rest (subst (EachIsNext w h t []) e k)) told;
    idle = λ source settings watched. idles-once settings t.at (dated_of source (exchanges_with h t [])) (exchanges_of source (dated t.at xs)) (watcher-are source settings watched [] xs k);
  }

module _ {O B : Type 0} (w : World O B) where
  pub each-keeps : (policies : ℕ → ℕ → O → Option ℕ) (h : List (Step O)) (ts : List Turn) (ms : List (Made O)) → IsTrace w policies h ts ms → EachKeepsBudget w (steps ts ms)
  each-keeps policies h [] ms k = tt
  each-keeps policies h (t ∷ ts) [] k = tt
  each-keeps policies h (t ∷ ts) (m ∷ ms) k = (keeps-budget w h t m.0.exchanges k.1.asked, each-keeps (λ n. policies (n + 1)) (h ++ step t m ∷ []) ts ms k.2)
