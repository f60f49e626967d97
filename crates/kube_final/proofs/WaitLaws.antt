-- Waits, by the exchanges of their watch.
use Rattle.std.proofs.Common.{◌≡◌, ◌⊎◌, inl, inr, ℕ, zero, suc, ◌+◌, ◌≤◌, Bool, true, false, List, [], ◌∷◌, ◌++◌, map, length, Option, Some, None, Result, Global, refl, sym, ap, subst, ◌∙◌, arith, append-nil, append_assoc}
use Rattle.std.proofs.Math.Logic.{∥∥₁_elim, ∥∥₁_map}
use Rattle.std.specs.declared.sync.Arc.{Arc}
use Rattle.kube_model.specs.declared.error.Error.{Error as WatcherError}
use Rattle.kube_meta.specs.declared.poll.Next.{Next}
use Rattle.kube_meta.specs.declared.poll.Next.TheVariants.{Item, NotReady, Spent, End}
use Rattle.kube_model.specs.World.{Settings}
use Rattle.kube_model.specs.History.{Dated, Exchange}
use Rattle.kube_watch.specs.Stands.{StandsFor, exchanges_in, is_spent, row_of, settings_in}
use Rattle.kube_watch.specs.Configs.{settings_of}
use Rattle.kube_watch.specs.Polls.{Api, AreCalls, AreNext, Exchanged, Look, Tells, Waits, Quiet, answered_by, dated_now, look_of, polled, told_by}
use Rattle.kube_watch.specs.Objects.{Found, Observing, PolledObject, answers_in, answers_to, held_by, held_through, is_held, next_found, object_looks}
use Rattle.std.proofs.Math.Bridge.{le_prop}
use Rattle.std.specs.Coded.{Coded-set, coded_ℕ}
use Rattle.kube_final.specs.Waiting.{IsLive, Stands}
use Rattle.kube_final.specs.Waits.{Awaited, FirstEnd, IsAskedOnce, IsEnd, IsFirstTaken, IsPassed, IsTaken, Says, Waited, next_probed}
use Rattle.kube_final.specs.declared.wait.Error.{Error}

-- ---- a poll without fuel makes no exchange

pub looks_none : {T : Type 0} (ws : List T) (ls : List (Look T)) (answer : Next T) (left : List T) → polled ws 0 ls ≡ Some (answer, left) → ls ≡ []
looks_none [] [] answer left e = refl
looks_none [] (l ∷ ls) answer left e = cc
looks_none (w ∷ ws) [] answer left e = refl
looks_none (w ∷ ws) (l ∷ ls) answer left e = cc

exchanges_none : {V : Type 0} (settings : Settings) (held : Bool) (before xs : List (Exchange V)) → object_looks settings held before xs ≡ [] → xs ≡ []
exchanges_none settings held before [] e = refl
exchanges_none settings held before (x ∷ xs) e = cc

pub nil_of : {X : Type 0} (xs : List X) → length xs ≡ 0 → xs ≡ []
nil_of [] e = refl
nil_of (x ∷ xs) e = absurd (omega arith)

no_exchange : {A V : Type 0} (api : Api A V) (now : ℕ) (old : Observing A V) (answer : Next (Found V)) (new : Observing A V) → ∥ Stands old ∥₁ → (p : PolledObject api now 0 old answer new) → p.exchanges ≡ []
no_exchange api now old answer new live p =
    nil_of p.exchanges (∥∥₁_elim live (Coded-set coded_ℕ _ _) (λ s. ap length (exchanges_none (settings_in old.watcher) (is_held old) (exchanges_in s.exchanges) p.exchanges
    (looks_none (answers_in old) (object_looks (settings_in old.watcher) (is_held old) (exchanges_in s.exchanges) p.exchanges) answer (answers_in new) (p.answered s.exchanges s.stands)))))

left_of : {X Y : Type 0} → X → Option (X × Y) → X
left_of d None = d
left_of d (Some p) = p.0

right_of : {X Y : Type 0} → Y → Option (X × Y) → Y
right_of d None = d
right_of d (Some p) = p.1

pair_parts : {X Y : Type 0} (x z : X) (y w : Y) → ◌≡◌ {A = Option (X × Y)} (Some (x, y)) (Some (z, w)) → (x ≡ z) × (y ≡ w)
unfolding left_of right_of
pair_parts x z y w e = (ap (left_of x) e, ap (right_of y) e)

pub no_pair : {X : Type 0} (x : X) → None ≡ Some x → ⊥
no_pair x e = cc

first_item : {V : Type 0} (ws : List (Found V)) (found : Found V) (left : List (Found V)) → polled ws 0 [] ≡ Some (Item found, left) → ws ≡ found ∷ left
first_item [] found left e = let same = pair_parts Spent (Item found) [] left e in let item : Spent ≡ Item found = same.0 in cc
first_item (w ∷ ws) found left e = let same = pair_parts (Item w) (Item found) ws left e in let item : Item w ≡ Item found = same.0 in let rest : ws ≡ left = same.1 in cc

calls_none : {A V : Type 0} (api : Api A V) (settings : Settings) (now : ℕ) (old : A) (xs : List (Exchange V)) (new : A) → xs ≡ [] → AreCalls api settings now old xs new → new ≡ old
calls_none api settings now old [] new e h = h
calls_none api settings now old (x ∷ xs) new e h = cc

stands_none : {A V : Type 0} (ds more : List (Dated V)) (new : Observing A V) → more ≡ [] → StandsFor (ds ++ more) new.watcher → StandsFor ds new.watcher
stands_none ds [] new e h = let P : List (Dated _) → Type 0 = λ all. StandsFor all new.watcher in subst P (append-nil ds) h
stands_none ds (d ∷ more) new e h = absurd (cc)

held_none : {V : Type 0} (settings : Settings) (held : Bool) (before xs : List (Exchange V)) → xs ≡ [] → held_through settings held before xs ≡ held
held_none settings held before [] e = refl
held_none settings held before (x ∷ xs) e = cc

-- an answer that is no item
abbrev pub IsQuiet : {V : Type 0} → Next (Found V) → Type 0
IsQuiet (Item found) = ⊥
IsQuiet NotReady = Unit {0}
IsQuiet Spent = Unit {0}
IsQuiet End = Unit {0}

nothing_left : {V : Type 0} (ws : List (Found V)) (answer : Next (Found V)) (left : List (Found V)) → IsQuiet answer → polled ws 0 [] ≡ Some (answer, left) → (ws ≡ []) × (left ≡ [])
nothing_left [] answer left q e = (refl, sym (pair_parts Spent answer [] left e).1)
nothing_left (w ∷ ws) answer left q e = let P : Next (Found _) → Type 0 = IsQuiet in absurd (subst P (sym (pair_parts (Item w) answer ws left e).0) q)

-- ---- what is left of a poll without fuel

pub taken_item : {A V : Type 0} (api : Api A V) (now : ℕ) (old : Observing A V) (found : Found V) (new : Observing A V) → ∥ Stands old ∥₁ → PolledObject api now 0 old (Item found) new → IsFirstTaken old (Some found) new
taken_item api now old found new live p =
    let none : p.exchanges ≡ [] = no_exchange api now old (Item found) new live p in
    record {
      api = calls_none api (settings_in old.watcher) now old.watcher.api p.exchanges new.watcher.api none p.exchanged.calls;
      config = p.exchanged.config;
      stands = λ ds s. stands_none ds (map (dated_now now) p.exchanges) new (ap (map (dated_now now)) none) (p.exchanged.stands ds s);
      held = λ ds s. p.held ds s ∙ held_none (settings_in old.watcher) (is_held old) (exchanges_in ds) p.exchanges none;
      first = λ ds s. first_item (answers_in old) found (answers_in new) (let P : List (Exchange _) → Type 0 = λ xs. polled (answers_in old) 0 (object_looks (settings_in old.watcher) (is_held old) (exchanges_in ds) xs) ≡ Some (Item found, answers_in new) in subst P none (p.answered ds s));
    }

pub taken_none : {A V : Type 0} (api : Api A V) (now : ℕ) (old : Observing A V) (answer : Next (Found V)) (new : Observing A V) → IsQuiet answer → ∥ Stands old ∥₁ → PolledObject api now 0 old answer new → IsFirstTaken old None new
taken_none api now old answer new quiet live p =
    let none : p.exchanges ≡ [] = no_exchange api now old answer new live p in
    record {
      api = calls_none api (settings_in old.watcher) now old.watcher.api p.exchanges new.watcher.api none p.exchanged.calls;
      config = p.exchanged.config;
      stands = λ ds s. stands_none ds (map (dated_now now) p.exchanges) new (ap (map (dated_now now)) none) (p.exchanged.stands ds s);
      held = λ ds s. p.held ds s ∙ held_none (settings_in old.watcher) (is_held old) (exchanges_in ds) p.exchanges none;
      first = λ ds s. nothing_left (answers_in old) answer (answers_in new) quiet (let P : List (Exchange _) → Type 0 = λ xs. polled (answers_in old) 0 (object_looks (settings_in old.watcher) (is_held old) (exchanges_in ds) xs) ≡ Some (answer, answers_in new) in subst P none (p.answered ds s));
    }

-- a watch that is not spent stands for its exchanges
live_stands : {A V : Type 0} (w : Observing A V) → is_spent w.watcher ≡ false → IsLive w → Stands w
live_stands w u (inl s) = absurd (cc)
live_stands w u (inr s) = s

pub standing : {A V : Type 0} (w : Observing A V) → is_spent w.watcher ≡ false → ∥ IsLive w ∥₁ → ∥ Stands w ∥₁
standing w u live = ∥∥₁_map live (live_stands w u)

-- what a poll leaves stands for its exchanges too
pub stands_on : {A V : Type 0} (old new : Observing A V) (more : List (Dated V)) → ((ds : List (Dated V)) → StandsFor ds old.watcher → StandsFor (ds ++ more) new.watcher) → ∥ Stands old ∥₁ → ∥ IsLive new ∥₁
stands_on old new more on live = ∥∥₁_map live (λ s. inr (record { exchanges = s.exchanges ++ more; stands = on s.exchanges s.stands }))

pub stands_still : {A V : Type 0} (old new : Observing A V) → ((ds : List (Dated V)) → StandsFor ds old.watcher → StandsFor ds new.watcher) → ∥ Stands old ∥₁ → ∥ IsLive new ∥₁
stands_still old new on live = ∥∥₁_map live (λ s. inr (record { exchanges = s.exchanges; stands = on s.exchanges s.stands }))

-- the measure: one that waited less
pub fewer : {A V : Type 0} (old : Observing A V) (found : Found V) (new : Observing A V) → ∥ Stands old ∥₁ → IsFirstTaken old (Some found) new → suc (length (answers_in new)) ≤ length (answers_in old)
fewer old found new live t = ∥∥₁_elim live le_prop (λ s. let same : length (answers_in old) ≡ length (found ∷ answers_in new) = ap length (t.first s.exchanges s.stands) in omega arith)

-- an answer that is no item
pub quiet_next : {V : Type 0} (answer : Next (Result (Option (Arc V Global)) WatcherError)) → (answer ≡ NotReady) ⊎ ((answer ≡ Spent) ⊎ (answer ≡ End)) → IsQuiet (next_found answer)
quiet_next (Item found) (inl e) = absurd (cc)
quiet_next (Item found) (inr (inl e)) = absurd (cc)
quiet_next (Item found) (inr (inr e)) = absurd (cc)
quiet_next NotReady h = tt
quiet_next Spent h = tt
quiet_next End h = tt

pub not_spent : (b : Bool) → (b ≡ true → false ≡ true) → b ≡ false
not_spent true h = sym (h refl)
not_spent false h = refl

pub never : {X : Type 0} → false ≡ true → X
never e = cc

-- ---- one exchange

once : {V : Type 0} (says : Says V) (ls : List (Look (Found V))) (answer : Next (Found V)) (left : List (Found V)) → answered_by 1 ls ≡ Some (answer, left) → ((f : Found V) → answer ≡ Item f → IsEnd says f) → Waited says [] 1 ls answer left
once says [] answer left e h = absurd (no_pair (answer, left) e)
once says (Quiet ∷ []) answer left e h =
    let same = pair_parts Spent answer [] left e in
    let P : Next (Found _) → Type 0 = λ a. Waited says [] 1 (Quiet ∷ []) a left in
    subst P same.0 (refl, sym same.1)
once says (Quiet ∷ l ∷ ls) answer left e h = absurd (no_pair (answer, left) e)
once says (Tells b bs ∷ []) answer left e h =
    let same = pair_parts (Item b) answer bs left e in
    let P : Next (Found _) → Type 0 = λ a. Waited says [] 1 (Tells b bs ∷ []) a left in
    subst P same.0 (refl, inl (refl, h b (sym same.0), same.1))
once says (Tells b bs ∷ l ∷ ls) answer left e h = absurd (no_pair (answer, left) e)
once says (Waits ∷ []) answer left e h = let same = pair_parts NotReady answer [] left e in (refl, refl, sym same.0, sym same.1)
once says (Waits ∷ l ∷ ls) answer left e h = absurd (no_pair (answer, left) e)

asked_by : {T : Type 0} (ws : List T) (ls : List (Look T)) (answer : Next T) (left : List T) → ws ≡ [] → polled ws 1 ls ≡ Some (answer, left) → answered_by 1 ls ≡ Some (answer, left)
asked_by [] ls answer left n e = e
asked_by (w ∷ ws) ls answer left n e = cc

pub asked_once : {A V : Type 0} (api : Api A V) (says : Says V) (now : ℕ) (old : Observing A V) (answer : Next (Found V)) (new : Observing A V) → ((f : Found V) → answer ≡ Item f → IsEnd says f) → PolledObject api now 1 old answer new → IsAskedOnce api says now old answer new
asked_once api says now old answer new h p = record {
  exchanges = p.exchanges;
  exchanged = p.exchanged;
  answered = λ ds s n. once says (object_looks (settings_in old.watcher) (is_held old) (exchanges_in ds) p.exchanges) answer (answers_in new) (asked_by (answers_in old) _ answer (answers_in new) n (p.answered ds s)) h;
  held = p.held;
}

item_end : {V : Type 0} (says : Says V) (f g : Found V) → Item f ≡ Item g → IsEnd says f → IsEnd says g
item_end says f g e h = let same : f ≡ g = cc in let P : Found _ → Type 0 = IsEnd says in subst P same h

pub asked_item : {A V : Type 0} (api : Api A V) (says : Says V) (now : ℕ) (old : Observing A V) (f : Found V) (new : Observing A V) → IsEnd says f → PolledObject api now 1 old (Item f) new → IsAskedOnce api says now old (Item f) new
asked_item api says now old f new h p = asked_once api says now old (Item f) new (λ g e. item_end says f g e h) p

pub asked_not_ready : {A V : Type 0} (api : Api A V) (says : Says V) (now : ℕ) (old new : Observing A V) → PolledObject api now 1 old NotReady new → IsAskedOnce api says now old NotReady new
asked_not_ready api says now old new p = asked_once api says now old NotReady new (λ f e. absurd (cc)) p

pub asked_spent : {A V : Type 0} (api : Api A V) (says : Says V) (now : ℕ) (old new : Observing A V) → PolledObject api now 1 old Spent new → IsAskedOnce api says now old Spent new
asked_spent api says now old new p = asked_once api says now old Spent new (λ f e. absurd (cc)) p

pub asked_over : {A V : Type 0} (api : Api A V) (says : Says V) (now : ℕ) (old new : Observing A V) → PolledObject api now 1 old End new → IsAskedOnce api says now old End new
asked_over api says now old new p = asked_once api says now old End new (λ f e. absurd (cc)) p

-- the answer of what was taken
abbrev pub next_of : {V : Type 0} → Option (Found V) → Next (Found V)
next_of None = Spent
next_of (Some found) = Item found

end_passed : {V : Type 0} (says : Says V) (f : Found V) (ws : List (Found V)) (o : Option (Found V)) (left : List (Found V)) → IsPassed says f → FirstEnd says ws o left → Waited says (f ∷ ws) 0 [] (next_of o) left
end_passed says f ws None left p h = (p, h)
end_passed says f ws (Some g) left p h = inr (p, h)

once_then : {V : Type 0} (says : Says V) (ls : List (Look (Found V))) (f : Found V) (middle : List (Found V)) (o : Option (Found V)) (left : List (Found V)) → answered_by 1 ls ≡ Some (Item f, middle) → IsPassed says f → FirstEnd says middle o left → Waited says [] 1 ls (next_of o) left
once_then says [] f middle o left e p h = absurd (no_pair (Item f, middle) e)
once_then says (Quiet ∷ []) f middle o left e p h = let same : Spent ≡ Item f = (pair_parts Spent (Item f) [] middle e).0 in absurd (cc)
once_then says (Quiet ∷ l ∷ ls) f middle o left e p h = absurd (no_pair (Item f, middle) e)
once_then says (Tells b bs ∷ []) f middle o left e p h =
    let same = pair_parts (Item b) (Item f) bs middle e in
    let first : f ≡ b = let item : Item b ≡ Item f = same.0 in cc in
    let P : Found _ → List (Found _) → Type 0 = λ c cs. Waited says [] 1 (Tells c cs ∷ []) (next_of o) left in
    subst (λ c. P c bs) first (subst (λ cs. P f cs) (sym same.1) (refl, end_passed says f middle o left p h))
once_then says (Tells b bs ∷ l ∷ ls) f middle o left e p h = absurd (no_pair (Item f, middle) e)
once_then says (Waits ∷ []) f middle o left e p h = let same : NotReady ≡ Item f = (pair_parts NotReady (Item f) [] middle e).0 in absurd (cc)
once_then says (Waits ∷ l ∷ ls) f middle o left e p h = absurd (no_pair (Item f, middle) e)

-- an exchange whose first answer doesn't end the wait, and what was taken of those behind it
pub asked_then : {A V : Type 0} (api : Api A V) (says : Says V) (now : ℕ) (old middle : Observing A V) (f : Found V) (o : Option (Found V)) (new : Observing A V) → IsPassed says f → PolledObject api now 1 old (Item f) middle → IsTaken says middle o new → IsAskedOnce api says now old (next_of o) new
asked_then api says now old middle f o new passed p t = record {
  exchanges = p.exchanges;
  exchanged = record {
    calls = let P : _ → Type 0 = λ a. AreCalls api (settings_in old.watcher) now old.watcher.api p.exchanges a in subst P (sym t.api) p.exchanged.calls;
    made = p.exchanged.made;
    stands = λ ds s. t.stands (ds ++ map (dated_now now) p.exchanges) (p.exchanged.stands ds s);
    config = t.config ∙ p.exchanged.config;
  };
  answered = λ ds s n. once_then says (object_looks (settings_in old.watcher) (is_held old) (exchanges_in ds) p.exchanges) f (answers_in middle) o (answers_in new)
      (asked_by (answers_in old) _ (Item f) (answers_in middle) n (p.answered ds s)) passed (t.first (ds ++ map (dated_now now) p.exchanges) (p.exchanged.stands ds s));
  held = λ ds s. t.held (ds ++ map (dated_now now) p.exchanges) (p.exchanged.stands ds s) ∙ p.held ds s;
}

-- ---- exchanges, one after another

pub calls_append : {A V : Type 0} (api : Api A V) (settings : Settings) (now : ℕ) (old middle new : A) (xs ys : List (Exchange V)) → AreCalls api settings now old xs middle → AreCalls api settings now middle ys new → AreCalls api settings now old (xs ++ ys) new
calls_append api settings now old middle new [] ys h k = let P : _ → Type 0 = λ a. AreCalls api settings now a ys new in subst P h k
calls_append api settings now old middle new (x ∷ xs) ys h k = (h.0, h.1, calls_append api settings now h.0 middle new xs ys h.2 k)

pub next_append : {V : Type 0} (settings : Settings) (ds : List (Dated V)) (now : ℕ) (xs ys : List (Exchange V)) → AreNext settings ds now xs → AreNext settings (ds ++ map (dated_now now) xs) now ys → AreNext settings ds now (xs ++ ys)
next_append settings ds now [] ys h k = let P : List (Dated _) → Type 0 = λ es. AreNext settings es now ys in subst P (append-nil ds) k
next_append settings ds now (x ∷ xs) ys h k =
    let P : List (Dated _) → Type 0 = λ es. AreNext settings es now ys in
    (h.0, next_append settings (ds ++ dated_now now x ∷ []) now xs ys h.1 (subst P (sym (append_assoc ds (dated_now now x ∷ []) (map (dated_now now) xs))) k))

looks_append : {V : Type 0} (settings : Settings) (held : Bool) (before xs ys : List (Exchange V)) → object_looks settings held before (xs ++ ys) ≡ object_looks settings held before xs ++ object_looks settings (held_through settings held before xs) (before ++ xs) ys
looks_append settings held before [] ys = ap (λ b. object_looks settings held b ys) (sym (append-nil before))
looks_append settings held before (x ∷ xs) ys =
    let k = held_by held (told_by (row_of settings before x)) in
    ap (λ ls. look_of (answers_to held (told_by (row_of settings before x))) x.answer ∷ ls) (looks_append settings k (before ++ x ∷ []) xs ys
    ∙ ap (λ b. object_looks settings k (before ++ x ∷ []) xs ++ object_looks settings (held_through settings k (before ++ x ∷ []) xs) b ys) (append_assoc before (x ∷ []) xs))

held_append : {V : Type 0} (settings : Settings) (held : Bool) (before xs ys : List (Exchange V)) → held_through settings held before (xs ++ ys) ≡ held_through settings (held_through settings held before xs) (before ++ xs) ys
held_append settings held before [] ys = ap (λ b. held_through settings held b ys) (sym (append-nil before))
held_append settings held before (x ∷ xs) ys =
    let k = held_by held (told_by (row_of settings before x)) in
    held_append settings k (before ++ x ∷ []) xs ys ∙ ap (λ b. held_through settings (held_through settings k (before ++ x ∷ []) xs) b ys) (append_assoc before (x ∷ []) xs)

exchanges_of_dated : {V : Type 0} (now : ℕ) (xs : List (Exchange V)) → exchanges_in (map (dated_now now) xs) ≡ xs
exchanges_of_dated now [] = refl
exchanges_of_dated now (x ∷ xs) = ap (λ ys. x ∷ ys) (exchanges_of_dated now xs)

pub exchanges_after : {V : Type 0} (now : ℕ) (ds : List (Dated V)) (xs : List (Exchange V)) → exchanges_in (ds ++ map (dated_now now) xs) ≡ exchanges_in ds ++ xs
exchanges_after now [] xs = exchanges_of_dated now xs
exchanges_after now (d ∷ ds) xs = ap (λ ys. d.exchange ∷ ys) (exchanges_after now ds xs)

dated_append : {V : Type 0} (now : ℕ) (xs ys : List (Exchange V)) → map (dated_now now) (xs ++ ys) ≡ map (dated_now now) xs ++ map (dated_now now) ys
dated_append now [] ys = refl
dated_append now (x ∷ xs) ys = ap (λ es. dated_now now x ∷ es) (dated_append now xs ys)

exchanged_append : {A V : Type 0} (api : Api A V) (now : ℕ) (old middle new : Observing A V) (xs ys : List (Exchange V)) → Exchanged api now old.watcher xs middle.watcher → Exchanged api now middle.watcher ys new.watcher → Exchanged api now old.watcher (xs ++ ys) new.watcher
exchanged_append api now old middle new xs ys h k =
    let same : settings_in middle.watcher ≡ settings_in old.watcher = ap settings_of h.config in
    record {
      calls = calls_append api (settings_in old.watcher) now old.watcher.api middle.watcher.api new.watcher.api xs ys h.calls
          (let P : Settings → Type 0 = λ s. AreCalls api s now middle.watcher.api ys new.watcher.api in subst P same k.calls);
      made = λ ds s. next_append (settings_in old.watcher) ds now xs ys (h.made ds s)
          (let P : Settings → Type 0 = λ t. AreNext t (ds ++ map (dated_now now) xs) now ys in subst P same (k.made (ds ++ map (dated_now now) xs) (h.stands ds s)));
      stands = λ ds s. let P : List (Dated _) → Type 0 = λ es. StandsFor es new.watcher in
          subst P (append_assoc ds (map (dated_now now) xs) (map (dated_now now) ys) ∙ ap (λ es. ds ++ es) (sym (dated_append now xs ys))) (k.stands (ds ++ map (dated_now now) xs) (h.stands ds s));
      config = k.config ∙ h.config;
    }

-- ---- a wait goes on

pub spent_leaves : {V : Type 0} (says : Says V) (ws : List (Found V)) (n : ℕ) (ls : List (Look (Found V))) (left : List (Found V)) → Waited says ws n ls Spent left → left ≡ []
spent_leaves says [] zero [] left h = h
spent_leaves says (w ∷ ws) zero [] left h = spent_leaves says ws zero [] left h.1
spent_leaves says ws (suc n) [] left h = absurd h
spent_leaves says ws zero (l ∷ ls) left h = absurd h
spent_leaves says ws (suc n) (Tells b bs ∷ ls) left h = spent_leaves says (b ∷ bs) n ls left h.1
spent_leaves says ws (suc n) (Quiet ∷ ls) left h = spent_leaves says [] n ls left h.1
spent_leaves says ws (suc n) (Waits ∷ ls) left h = h.3

first_none : {V : Type 0} (says : Says V) (ws : List (Found V)) (left : List (Found V)) → FirstEnd says ws None left → FirstEnd says ws None []
first_none says [] left h = refl
first_none says (w ∷ ws) left h = (h.0, first_none says ws left h.1)

-- none of those that waited ends it, and then the rest goes on
goes_on : {V : Type 0} (says : Says V) (ws : List (Found V)) (m : ℕ) (ls : List (Look (Found V))) (answer : Next (Found V)) (left : List (Found V)) → FirstEnd says ws None [] → Waited says [] m ls answer left → Waited says ws m ls answer left
goes_on says ws m [] (Item f) left h k = absurd k
goes_on says ws zero [] Spent left h k = let P : List (Found _) → Type 0 = λ l. FirstEnd says ws None l in subst P (sym k) h
goes_on says ws (suc m) [] Spent left h k = absurd k
goes_on says ws m [] NotReady left h k = absurd k
goes_on says ws m [] End left h k = absurd k
goes_on says ws zero (l ∷ ls) answer left h k = absurd k
goes_on says ws (suc m) (Tells b bs ∷ ls) answer left h k = (h, k.1)
goes_on says ws (suc m) (Quiet ∷ ls) answer left h k = (h, k.1)
goes_on says ws (suc m) (Waits ∷ ls) answer left h k = (h, k.1, k.2, k.3)

waited_on : {V : Type 0} (says : Says V) (ws : List (Found V)) (n : ℕ) (ls : List (Look (Found V))) (middle : List (Found V)) (ms : List (Look (Found V))) (answer : Next (Found V)) (left : List (Found V)) → Waited says ws n ls Spent middle → Waited says [] 1 ms answer left → Waited says ws (n + 1) (ls ++ ms) answer left
waited_on says ws zero [] middle ms answer left h k = goes_on says ws 1 ms answer left (first_none says ws middle h) k
waited_on says ws (suc n) [] middle ms answer left h k = absurd h
waited_on says ws zero (l ∷ ls) middle ms answer left h k = absurd h
waited_on says ws (suc n) (Tells b bs ∷ ls) middle ms answer left h k =
    let P : ℕ → Type 0 = λ m. Waited says ws m (Tells b bs ∷ (ls ++ ms)) answer left in
    let e : suc (n + 1) ≡ suc n + 1 = omega arith in subst P e (h.0, waited_on says (b ∷ bs) n ls middle ms answer left h.1 k)
waited_on says ws (suc n) (Quiet ∷ ls) middle ms answer left h k =
    let P : ℕ → Type 0 = λ m. Waited says ws m (Quiet ∷ (ls ++ ms)) answer left in
    let e : suc (n + 1) ≡ suc n + 1 = omega arith in subst P e (h.0, waited_on says [] n ls middle ms answer left h.1 k)
waited_on says ws (suc n) (Waits ∷ ls) middle ms answer left h k = let never : Spent ≡ NotReady = h.2 in absurd (cc)

-- an answer that is not that the fuel is spent
abbrev pub IsNotSpent : {V : Type 0} → Next (Found V) → Type 0
IsNotSpent Spent = ⊥
IsNotSpent (Item f) = Unit {0}
IsNotSpent NotReady = Unit {0}
IsNotSpent End = Unit {0}

more_fuel : {V : Type 0} (says : Says V) (ws : List (Found V)) (n m : ℕ) (ls : List (Look (Found V))) (answer : Next (Found V)) (left : List (Found V)) → IsNotSpent answer → n ≤ m → Waited says ws n ls answer left → Waited says ws m ls answer left
more_fuel says ws n m [] (Item f) left q le h = h
more_fuel says ws n m [] Spent left q le h = absurd q
more_fuel says ws n m [] NotReady left q le h = absurd h
more_fuel says ws n m [] End left q le h = absurd h
more_fuel says ws zero m (l ∷ ls) answer left q le h = absurd h
more_fuel says ws (suc n) zero (l ∷ ls) answer left q le h = absurd (omega arith)
more_fuel says ws (suc n) (suc m) (Tells b bs ∷ ls) answer left q le h = (h.0, more_fuel says (b ∷ bs) n m ls answer left q (omega arith) h.1)
more_fuel says ws (suc n) (suc m) (Quiet ∷ ls) answer left q le h = (h.0, more_fuel says [] n m ls answer left q (omega arith) h.1)
more_fuel says ws (suc n) (suc m) (Waits ∷ ls) answer left q le h = h

pub enough : {A V : Type 0} (api : Api A V) (says : Says V) (now n m : ℕ) (old : Observing A V) (answer : Next (Found V)) (new : Observing A V) → IsNotSpent answer → n ≤ m → Awaited api says now n old answer new → Awaited api says now m old answer new
enough api says now n m old answer new q le w = record {
  exchanges = w.exchanges;
  exchanged = w.exchanged;
  answered = λ ds s. more_fuel says (answers_in old) n m (object_looks (settings_in old.watcher) (is_held old) (exchanges_in ds) w.exchanges) answer (answers_in new) q le (w.answered ds s);
  held = w.held;
}

taken_waited : {V : Type 0} (says : Says V) (ws : List (Found V)) (o : Option (Found V)) (left : List (Found V)) → FirstEnd says ws o left → Waited says ws 0 [] (next_of o) left
taken_waited says ws None left h = h
taken_waited says ws (Some f) left h = h

-- nothing was asked
pub from_taken : {A V : Type 0} (api : Api A V) (says : Says V) (now : ℕ) (old : Observing A V) (o : Option (Found V)) (new : Observing A V) → IsTaken says old o new → Awaited api says now 0 old (next_of o) new
from_taken api says now old o new t = record {
  exchanges = [];
  exchanged = record {
    calls = t.api;
    made = λ ds s. tt;
    stands = λ ds s. let P : List (Dated _) → Type 0 = λ es. StandsFor es new.watcher in subst P (sym (append-nil ds)) (t.stands ds s);
    config = t.config;
  };
  answered = λ ds s. taken_waited says (answers_in old) o (answers_in new) (t.first ds s);
  held = t.held;
}

-- one exchange more
pub asks_on : {A V : Type 0} (api : Api A V) (says : Says V) (now n : ℕ) (old middle : Observing A V) (answer : Next (Found V)) (new : Observing A V) → Awaited api says now n old Spent middle → IsAskedOnce api says now middle answer new → Awaited api says now (n + 1) old answer new
asks_on api says now n old middle answer new w a =
    let same : settings_in middle.watcher ≡ settings_in old.watcher = ap settings_of w.exchanged.config in
    record {
      exchanges = w.exchanges ++ a.exchanges;
      exchanged = exchanged_append api now old middle new w.exchanges a.exchanges w.exchanged a.exchanged;
      answered = λ ds s.
          let es = ds ++ map (dated_now now) w.exchanges in
          let t = w.exchanged.stands ds s in
          let looks : object_looks (settings_in middle.watcher) (is_held middle) (exchanges_in es) a.exchanges
          ≡ object_looks (settings_in old.watcher) (held_through (settings_in old.watcher) (is_held old) (exchanges_in ds) w.exchanges) (exchanges_in ds ++ w.exchanges) a.exchanges
          = rw (same, w.held ds s, exchanges_after now ds w.exchanges) refl in
          let first = w.answered ds s in
          let nothing : answers_in middle ≡ [] = spent_leaves says (answers_in old) n _ (answers_in middle) first in
          let P : List (Look (Found _)) → Type 0 = λ ls. Waited says [] 1 ls answer (answers_in new) in
          let Q : List (Look (Found _)) → Type 0 = λ ls. Waited says (answers_in old) (n + 1) ls answer (answers_in new) in
          subst Q (sym (looks_append (settings_in old.watcher) (is_held old) (exchanges_in ds) w.exchanges a.exchanges))
          (waited_on says (answers_in old) n (object_looks (settings_in old.watcher) (is_held old) (exchanges_in ds) w.exchanges) (answers_in middle) _ answer (answers_in new) first (subst P looks (a.answered es t nothing)));
      held = λ ds s.
          let es = ds ++ map (dated_now now) w.exchanges in
          a.held es (w.exchanged.stands ds s)
          ∙ rw (same, w.held ds s, exchanges_after now ds w.exchanges) (sym (held_append (settings_in old.watcher) (is_held old) (exchanges_in ds) w.exchanges a.exchanges));
    }

pub unspent_next : {V : Type 0} (answer : Next (Result (Option (Arc V Global)) Error)) → (answer ≡ Spent → ⊥) → IsNotSpent (next_probed answer)
unspent_next (Item x) h = tt
unspent_next NotReady h = tt
unspent_next Spent h = h refl
unspent_next End h = tt
