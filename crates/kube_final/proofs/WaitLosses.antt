-- What a wait asked where memory could not be had.
use Rattle.std.proofs.Common.{◌≡◌, inl, inr, ℕ, zero, suc, ◌+◌, ◌<◌, ◌≤◌, List, [], ◌∷◌, ◌++◌, map, length, Result, Ok, Err, OnErr, refl, sym, ap, subst, ◌∙◌, arith, append-nil, append_assoc, Bool, true, false}
use Rattle.std.proofs.Math.Logic.{∥∥₁_elim}
use Rattle.std.proofs.Math.Bridge.{le_prop}
use Rattle.std.proofs.lemmas.List.{length-append}
use Rattle.std.specs.Coded.{Coded-set, coded_bool}
use Rattle.kube_meta.specs.declared.poll.Next.{Next}
use Rattle.kube_meta.specs.declared.poll.Next.TheVariants.{Spent}
use Rattle.kube_model.specs.World.{Settings, Watched}
use Rattle.kube_model.specs.History.{Dated, Exchange}
use Rattle.kube_model.specs.Owed.{owed}
use Rattle.kube_watch.specs.Calls.{IsAskedOnce}
use Rattle.kube_watch.specs.Configs.{settings_of}
use Rattle.kube_watch.specs.Stands.{StandsFor, exchanges_in, is_spent, row_of, settings_in}
use Rattle.kube_watch.specs.Polls.{Api, AreCalls, AreNext, Look, LostAfter, Tells, Waits, Quiet, dated_now, told_by}
use Rattle.kube_watch.specs.Objects.{Found, LostObject, Observing, answers_in, held_by, is_held, object_looks}
use Rattle.kube_final.specs.Waiting.{IsLive, Stands}
use Rattle.kube_final.specs.Waits.{Awaited, GoOn, LostWait, Says, Waited}
use Rattle.kube_final.proofs.WaitLaws.{calls_append, exchanges_after, never, next_append, nil_of, spent_leaves, standing}
use Rattle.kube_final.proofs.WaitLoops.{IsTaking}

pub whatever_came : {A E : Type 0} (r : Result A E) (P : Type 0) → P → OnErr r P
whatever_came (Ok a) P p = tt
whatever_came (Err e) P p = p

-- ---- how many exchanges were made

waited_few : {V : Type 0} (says : Says V) (ws : List (Found V)) (n : ℕ) (ls : List (Look (Found V))) (answer : Next (Found V)) (left : List (Found V)) → Waited says ws n ls answer left → length ls ≤ n
waited_few says ws n [] answer left h = omega arith
waited_few says ws zero (l ∷ ls) answer left h = absurd h
waited_few says ws (suc n) (Tells b bs ∷ ls) answer left h = let few : length ls ≤ n = waited_few says (b ∷ bs) n ls answer left h.1 in omega (arith, few)
waited_few says ws (suc n) (Quiet ∷ ls) answer left h = let few : length ls ≤ n = waited_few says [] n ls answer left h.1 in omega (arith, few)
waited_few says ws (suc n) (Waits ∷ ls) answer left h = let none : length ls ≡ 0 = ap length h.1 in omega (arith, none)

-- a wait that goes on made all of them
waited_all : {V : Type 0} (says : Says V) (ws : List (Found V)) (n : ℕ) (ls : List (Look (Found V))) (left : List (Found V)) → Waited says ws n ls Spent left → length ls ≡ n
waited_all says ws zero [] left h = refl
waited_all says ws (suc n) [] left h = absurd h
waited_all says ws zero (l ∷ ls) left h = absurd h
waited_all says ws (suc n) (Tells b bs ∷ ls) left h = ap suc (waited_all says (b ∷ bs) n ls left h.1)
waited_all says ws (suc n) (Quiet ∷ ls) left h = ap suc (waited_all says [] n ls left h.1)
waited_all says ws (suc n) (Waits ∷ ls) left h = absurd (cc)

looks_length : {V : Type 0} (settings : Settings) (held : Bool) (before xs : List (Exchange V)) → length (object_looks settings held before xs) ≡ length xs
looks_length settings held before [] = refl
looks_length settings held before (x ∷ xs) = ap suc (looks_length settings (held_by held (told_by (row_of settings before x))) (before ++ x ∷ []) xs)

-- ---- a watch that is spent

-- what stands for its exchanges is not spent
not_standing : {A V : Type 0} (w : Observing A V) → ∥ Stands w ∥₁ → is_spent w.watcher ≡ true → false ≡ true
not_standing w live spent = ∥∥₁_elim live (Coded-set coded_bool _ _) (λ s. sym s.stands.unspent ∙ spent)

-- nor is what a poll of it leaves
pub left_standing : {A V : Type 0} (old new : Observing A V) (more : List (Dated V)) → ((ds : List (Dated V)) → StandsFor ds old.watcher → StandsFor (ds ++ more) new.watcher) → ∥ Stands old ∥₁ → is_spent new.watcher ≡ true → false ≡ true
left_standing old new more on live spent = ∥∥₁_elim live (Coded-set coded_bool _ _) (λ s. sym (on s.exchanges s.stands).unspent ∙ spent)

-- without fuel memory is wanting only for a watch that was spent
pub lost_spent : {A V : Type 0} (api : Api A V) (now : ℕ) (old new : Observing A V) → is_spent new.watcher ≡ true → LostObject api now 0 old new → is_spent old.watcher ≡ true
lost_spent api now old new spent (inl same) = let P : Observing _ _ → Type 0 = λ w. is_spent w.watcher ≡ true in subst P same spent
lost_spent api now old new spent (inr l) = let few : length l.1.exchanges < 0 = l.1.few in absurd (omega (arith, few))

taken_spent : {A V : Type 0} (says : Says V) (first middle : Observing A V) (b : Bool) → is_spent first.watcher ≡ b → ∥ IsLive first ∥₁ → IsTaking says first middle → is_spent middle.watcher ≡ true → is_spent first.watcher ≡ true
taken_spent says first middle true e live t spent = e
taken_spent says first middle false e live t spent = never (∥∥₁_elim (standing first e live) (Coded-set coded_bool _ _) (λ s. sym (t.stands s.exchanges s.stands).unspent ∙ spent))

-- answers were taken before
pub lost_taking : {A V : Type 0} (says : Says V) (first middle : Observing A V) → ∥ IsLive first ∥₁ → IsTaking says first middle → is_spent middle.watcher ≡ true → is_spent first.watcher ≡ true
lost_taking says first middle live t spent = taken_spent says first middle (is_spent first.watcher) refl live t spent

-- ---- what was asked before counts too

-- after a wait that goes on
lost_after : {A V : Type 0} (api : Api A V) (says : Says V) (now n k : ℕ) (old middle new : Observing A V) → ∥ Stands old ∥₁ → Awaited api says now n old Spent middle → n < k
    → (is_so : List (Exchange V) → List (Exchange V) → Type 0) → LostAfter api now 1 is_so middle.watcher new.watcher
    → LostAfter api now k (GoOn says (answers_in old) (settings_in old.watcher) (is_held old)) old.watcher new.watcher
lost_after {V = V} api says now n k old middle new live w less is_so l =
    let h = w.exchanged in
    let xs = w.exchanges in
    let few : length xs ≤ n = ∥∥₁_elim live le_prop (λ s.
    let same : length (object_looks (settings_in old.watcher) (is_held old) (exchanges_in s.exchanges) xs) ≡ length xs = looks_length (settings_in old.watcher) (is_held old) (exchanges_in s.exchanges) xs in
    let looks : length (object_looks (settings_in old.watcher) (is_held old) (exchanges_in s.exchanges) xs) ≤ n = waited_few says (answers_in old) n _ Spent (answers_in middle) (w.answered s.exchanges s.stands) in
    omega (arith, same, looks)) in
    let last : length l.exchanges < 1 = l.few in
    let none : l.exchanges ≡ [] = nil_of l.exchanges (omega (arith, last)) in
    let same : settings_in middle.watcher ≡ settings_in old.watcher = ap settings_of h.config in
    record {
      exchanges = xs ++ l.exchanges;
      reached = l.reached;
      few = let all : length (xs ++ l.exchanges) ≡ length xs + length l.exchanges = length-append xs l.exchanges in omega (arith, all, last, few, less);
      calls = calls_append api (settings_in old.watcher) now old.watcher.api middle.watcher.api l.reached xs l.exchanges h.calls
          (let P : Settings → Type 0 = λ s. AreCalls api s now middle.watcher.api l.exchanges l.reached in subst P same l.calls);
      made = λ ds s. next_append (settings_in old.watcher) ds now xs l.exchanges (h.made ds s)
          (let P : Settings → Type 0 = λ t. AreNext t (ds ++ map (dated_now now) xs) now l.exchanges in subst P same (l.made (ds ++ map (dated_now now) xs) (h.stands ds s)));
      told = λ ds s.
          let looks : List (Look (Found V)) = object_looks (settings_in old.watcher) (is_held old) (exchanges_in ds) xs in
          let answered = w.answered ds s in
          let count : n ≡ length xs = sym (waited_all says (answers_in old) n looks (answers_in middle) answered) ∙ looks_length (settings_in old.watcher) (is_held old) (exchanges_in ds) xs in
          let P : List (Found V) → Type 0 = λ ws. Waited says (answers_in old) n looks Spent ws in
          let Q : ℕ → Type 0 = λ m. Waited says (answers_in old) m looks Spent [] in
          let R : List (Exchange V) → Type 0 = GoOn says (answers_in old) (settings_in old.watcher) (is_held old) (exchanges_in ds) in
          subst R (sym (ap (λ ys. xs ++ ys) none ∙ append-nil xs)) (subst Q count (subst P (spent_leaves says (answers_in old) n looks (answers_in middle) answered) answered));
      once = λ ds s.
          let es = ds ++ map (dated_now now) xs in
          let before : exchanges_in es ++ l.exchanges ≡ exchanges_in ds ++ (xs ++ l.exchanges) = ap (λ ys. ys ++ l.exchanges) (exchanges_after now ds xs) ∙ append_assoc (exchanges_in ds) xs l.exchanges in
          let P : Settings → Type 0 = λ t. IsAskedOnce t (owed (Watched t) (exchanges_in es ++ l.exchanges)) (api.talk l.reached) (api.talk new.watcher.api) in
          let Q : List (Exchange V) → Type 0 = λ ys. IsAskedOnce (settings_in old.watcher) (owed (Watched (settings_in old.watcher)) ys) (api.talk l.reached) (api.talk new.watcher.api) in
          subst Q before (subst P same (l.once es (h.stands ds s)));
    }

pub lost_awaited : {A V : Type 0} (api : Api A V) (says : Says V) (now n k : ℕ) (old middle new : Observing A V) → ∥ Stands old ∥₁ → Awaited api says now n old Spent middle → n < k
    → is_spent new.watcher ≡ true → LostObject api now 1 middle new → LostWait api says now k old new
lost_awaited api says now n k old middle new live w less spent (inl same) =
    let P : Observing _ _ → Type 0 = λ v. is_spent v.watcher ≡ true in
    never (left_standing old middle _ w.exchanged.stands live (subst P same spent))
lost_awaited api says now n k old middle new live w less spent (inr l) = inr (lost_after api says now n k old middle new live w less _ l.1)
