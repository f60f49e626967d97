-- What one more exchange makes of what is kept of the asks.
use Rattle.std.proofs.Common.{◌≡◌, ◌≢◌, ℕ, zero, suc, ◌+◌, ◌-◌, ◌<◌, ◌==◌, Bool, true, false, not, ◌&&◌, ◌||◌, nat_lt, cond, List, [], ◌∷◌, ◌++◌, map, length, Option, None, is_some, slice_index, slice_set, if◌then◌else◌, refl, sym, ap, subst, ◌∙◌, append_assoc, append-nil, length-append, arith}
use Rattle.std.specs.List.{find, list_any, range_with_len}
use Rattle.std.proofs.lemmas.Bool.{eq-eqb, eqb-true, ltb-true, ltb-false, true≢false}
use Rattle.std.proofs.lemmas.List.Sums.{fold-append}
use Rattle.std.proofs.lemmas.List.Folds.{list_any-append}
use Rattle.std.proofs.lemmas.List.Elements.{filter-append}
use Rattle.std.proofs.Math.Bool.{or-false}
use Rattle.kube_model.specs.World.{World, Feed, Watched, Streamed, Queued, feed_of, is_queue, is_watched}
use Rattle.kube_model.specs.History.{Dated, Exchange, dated_of}
use Rattle.kube_model.specs.Owed.{is_not_ready, is_end}
use Rattle.kube_model.specs.Cuts.{last}
use Rattle.kube_model.specs.Pause.{Pause, pause_of, pause_after, pause_by, pause_asked, has_requests, gave_up}
use Rattle.kube_model.specs.declared.turn.Stop.TheVariants as stops
use Rattle.std.proofs.Math.Dec.{eqb-suc-zero, eqb-zero-suc, eqb-suc-suc}
use Rattle.std.proofs.Math.Bool.{or-true}
use Rattle.kube_model.specs.Asks.{told_not_ready, has_budget, has_run_dry, in_turn, in_turn_after, is_quiet, may_be_asked, next_asked, stop_of, stops_of}
use Rattle.kube_model.proofs.Lasts.{last-push}
use Rattle.kube_model.proofs.Alls.{find-same}
use Rattle.kube_asks.specs.Sources.{is_stream}
use Rattle.kube_asks.specs.Kept.{AskKept, IsKept, is_marked, with_mark, is_quiet_by, has_budget_by, may_ask_by, stop_by, begun, pause_noted, marked_where, is_stream_end, spent_at, noted, total}
use Rattle.kube_asks.proofs.Bools.{and-or}

assoc : {A : Type 0} (xs ys : List A) (x : A) → xs ++ (ys ++ x ∷ []) ≡ (xs ++ ys) ++ x ∷ []
assoc xs ys x = sym (append_assoc xs ys (x ∷ []))

-- Budgets.

spent-same : (ns : List ℕ) (s : ℕ) → slice_index (spent_at ns s) s ≡ slice_index ns s - 1
spent-same [] zero = refl
spent-same [] (suc s) = refl
spent-same (n ∷ ns) zero = refl
spent-same (n ∷ ns) (suc s) = spent-same ns s

set-other : (ns : List ℕ) (source s n : ℕ) → source ≢ s → slice_index (slice_set ns source n) s ≡ slice_index ns s
set-other [] zero s n h = refl
set-other [] (suc source) s n h = refl
set-other (m ∷ ns) zero zero n h = absurd (h refl)
set-other (m ∷ ns) zero (suc s) n h = refl
set-other (m ∷ ns) (suc source) zero n h = refl
set-other (m ∷ ns) (suc source) (suc s) n h = set-other ns source s n (λ e. h (ap suc e))

spent-other : (ns : List ℕ) (source s : ℕ) → source ≢ s → slice_index (spent_at ns source) s ≡ slice_index ns s
spent-other ns source s h = set-other ns source s (slice_index ns source - 1) h

spent-at : (ns : List ℕ) (source s : ℕ) → slice_index (spent_at ns source) s ≡ slice_index ns s - cond (source == s) 1 0
spent-at ns source s = go (source == s) refl
  where
    go : (b : Bool) → (source == s) ≡ b → slice_index (spent_at ns source) s ≡ slice_index ns s - cond b 1 0
    go true e = ap (λ n. slice_index (spent_at ns n) s) (eqb-true source s e) ∙ spent-same ns s
    go false e = spent-other ns source s (λ f. true≢false (sym (eq-eqb source s f) ∙ e)) ∙ (let z : slice_index ns s ≡ slice_index ns s - 0 = omega arith in z)

total-set : (ns : List ℕ) (s n : ℕ) → n < slice_index ns s → total (slice_set ns s n) < total ns
total-set [] zero n h = absurd (omega (arith, h))
total-set [] (suc s) n h = absurd (omega (arith, h))
total-set (m ∷ ns) zero n h = let k : n < m = h in let z : n + total ns < m + total ns = omega (arith, k) in z
total-set (m ∷ ns) (suc s) n h = let r = total-set ns s n h in let z : m + total (slice_set ns s n) < m + total ns = omega (arith, r) in z

pub total-spent : (ns : List ℕ) (s : ℕ) → nat_lt 0 (slice_index ns s) ≡ true → total (spent_at ns s) < total ns
total-spent ns s h = total-set ns s (slice_index ns s - 1) (let k = ltb-true 0 (slice_index ns s) h in omega (arith, k))

-- a source that has budget left is one of those with a budget
pub left-within : (ns : List ℕ) (s : ℕ) → nat_lt 0 (slice_index ns s) ≡ true → s < length ns
left-within [] zero h = absurd (cc)
left-within [] (suc s) h = absurd (cc)
left-within (n ∷ ns) zero h = omega arith
left-within (n ∷ ns) (suc s) h = let r = left-within ns s h in omega (arith, r)

pub left-of : (a b : Bool) → (a && b) ≡ true → a ≡ true
left-of true b h = refl
left-of false b h = absurd (cc)

module _ {O : Type 0} where
  of-push : (ds : List (Dated O)) (d : Dated O) (s : ℕ) → dated_of s (ds ++ d ∷ []) ≡ dated_of s ds ++ cond (d.exchange.source == s) (d ∷ []) []
  of-push ds d s = filter-append (λ e. e.exchange.source == s) ds (d ∷ [])

  count-one : (b : Bool) (d : Dated O) → length (cond b (d ∷ []) []) ≡ cond b 1 0
  count-one true d = refl
  count-one false d = refl

  count-push : (mine : List (Dated O)) (d : Dated O) (s : ℕ)
      → length (dated_of s (mine ++ d ∷ [])) ≡ length (dated_of s mine) + cond (d.exchange.source == s) 1 0
  count-push mine d s =
      ap length (of-push mine d s)
      ∙ (length-append (dated_of s mine) (cond (d.exchange.source == s) (d ∷ []) [])
      ∙ ap (λ n. length (dated_of s mine) + n) (count-one (d.exchange.source == s) d))

  -- Whether any exchange of a source passes.

  any-one : (p : Dated O → Bool) (b : Bool) (d : Dated O) → list_any p (cond b (d ∷ []) []) ≡ b && p d
  any-one p true d = or-false (p d)
  any-one p false d = refl

  any-push : (p : Dated O → Bool) (ds : List (Dated O)) (d : Dated O) (s : ℕ)
      → list_any p (dated_of s (ds ++ d ∷ [])) ≡ list_any p (dated_of s ds) || (d.exchange.source == s) && p d
  any-push p ds d s =
      ap (list_any p) (of-push ds d s)
      ∙ (list_any-append p (dated_of s ds) (cond (d.exchange.source == s) (d ∷ []) [])
      ∙ ap (λ b. list_any p (dated_of s ds) || b) (any-one p (d.exchange.source == s) d))

marked-in : (marks : List Bool) (source s : ℕ) → is_marked (with_mark marks source) s ≡ is_marked marks s || (source == s)
marked-in [] zero zero = refl
marked-in [] zero (suc s) = sym (eqb-zero-suc s)
marked-in [] (suc source) zero = sym (eqb-suc-zero source)
marked-in [] (suc source) (suc s) = marked-in [] source s ∙ sym (eqb-suc-suc source s)
marked-in (m ∷ ms) zero zero = sym (or-true m)
marked-in (m ∷ ms) zero (suc s) = sym (ap (λ b. is_marked ms s || b) (eqb-zero-suc s) ∙ or-false (is_marked ms s))
marked-in (m ∷ ms) (suc source) zero = sym (ap (λ b. m || b) (eqb-suc-zero source) ∙ or-false m)
marked-in (m ∷ ms) (suc source) (suc s) = marked-in ms source s ∙ ap (λ b. is_marked ms s || b) (sym (eqb-suc-suc source s))

added-in : (b : Bool) (marks : List Bool) (source s : ℕ) → is_marked (marked_where b marks source) s ≡ is_marked marks s || (source == s) && b
added-in true marks source s = marked-in marks source s ∙ go (source == s)
  where
    go : (c : Bool) → (is_marked marks s || c) ≡ (is_marked marks s || c && true)
    go true = refl
    go false = refl
added-in false marks source s = go (is_marked marks s) (source == s)
  where
    go : (a c : Bool) → a ≡ (a || c && false)
    go true c = refl
    go false true = refl
    go false false = refl

-- Which streams have ended.

module _ {O B : Type 0} (w : World O B) where
  at-own : (source s : ℕ) (e : Bool) → ((source == s) && (not (is_watched (feed_of w s)) && e)) ≡ ((source == s) && (not (is_watched (feed_of w source)) && e))
  at-own source s e = go (source == s) refl
    where
      go : (b : Bool) → (source == s) ≡ b → (b && (not (is_watched (feed_of w s)) && e)) ≡ (b && (not (is_watched (feed_of w source)) && e))
      go true h = ap (λ n. not (is_watched (feed_of w n)) && e) (sym (eqb-true source s h))
      go false h = refl

  dry-push : (ds : List (Dated O)) (d : Dated O) (s : ℕ) → is_stream d.exchange.call ≡ not (is_watched (feed_of w d.exchange.source))
      → has_run_dry w (ds ++ d ∷ []) s ≡ has_run_dry w ds s || (d.exchange.source == s) && is_stream_end d.exchange
  dry-push ds d s k =
      ap (λ b. not (is_watched (feed_of w s)) && b) (any-push (λ e. is_end e.exchange.answer) ds d s)
      ∙ (and-or (not (is_watched (feed_of w s))) (list_any (λ e. is_end e.exchange.answer) (dated_of s ds)) (d.exchange.source == s) (is_end d.exchange.answer)
      ∙ ap (λ b. has_run_dry w ds s || b) (at-own d.exchange.source s (is_end d.exchange.answer) ∙ ap (λ b. (d.exchange.source == s) && (b && is_end d.exchange.answer)) (sym k)))

  -- The pause.

  pause-push : (ds : List (Dated O)) (d : Dated O) → pause_of w (ds ++ d ∷ []) ≡ pause_after w (pause_of w ds) d
  pause-push ds d = fold-append (pause_after w) (record { backoff = w.backoff; over_at = 0; given_up = false }) ds (d ∷ [])

  module _ (delay : B → ℕ → Option ℕ) (delayed : B → ℕ → B) (restarted : B → B) (nexts : w.next ≡ (λ b at. (delay b at, delayed b at))) (resets : w.reset ≡ restarted) where
    abbrev folded : (B → ℕ → Option ℕ × B) → (B → B) → Pause B → ℕ → Exchange O → Pause B
    folded n r p at x =
        if has_requests x then record (if is_some x.error then pause_asked p at (n p.backoff at) else p) { backoff = r (if is_some x.error then pause_asked p at (n p.backoff at) else p).backoff }
        else if is_some x.error then pause_asked p at (n p.backoff at) else p

    pause-noted : (feed : Feed) (p : Pause B) (d : Dated O) → pause_by w feed p d ≡ pause_noted delay delayed restarted (is_queue feed) p d.at d.exchange
    pause-noted (Watched settings) p d = ap (λ n. folded n w.reset p d.at d.exchange) nexts ∙ ap (λ r. folded (λ b at. (delay b at, delayed b at)) r p d.at d.exchange) resets
    pause-noted Streamed p d = ap (λ n. folded n w.reset p d.at d.exchange) nexts ∙ ap (λ r. folded (λ b at. (delay b at, delayed b at)) r p d.at d.exchange) resets
    pause-noted Queued p d = refl

    -- All of it.

    minus : (b m c n : ℕ) → n ≡ m + c → (b - m) - c ≡ b - n
    minus b m c n e = omega (arith, e)

    pub kept-push : (budget : List ℕ) (before mine : List (Dated O)) (k : AskKept B) (d : Dated O)
        → IsKept w budget before mine k → is_stream d.exchange.call ≡ not (is_watched (feed_of w d.exchange.source))
        → d.exchange.source < length w.feeds
        → IsKept w budget before (mine ++ d ∷ []) (noted delay delayed restarted (is_queue (feed_of w d.exchange.source)) k d.at d.exchange.source d.exchange)
    kept-push budget before mine k d h s small = record {
      pause =
          ap (λ p. pause_noted delay delayed restarted (is_queue (feed_of w d.exchange.source)) p d.at d.exchange) h.pause
          ∙ (sym (pause-noted (feed_of w d.exchange.source) (pause_of w (before ++ mine)) d)
          ∙ (sym (pause-push (before ++ mine) d) ∙ ap (pause_of w) (sym (assoc before mine d))));
      order = ap (in_turn_after w) (ap last (assoc before mine d) ∙ last-push (before ++ mine) d);
      small = omega (arith, small);
      left = λ source.
          spent-at k.left d.exchange.source source
          ∙ (ap (λ n. n - cond (d.exchange.source == source) 1 0) (h.left source)
          ∙ minus (slice_index budget source) (length (dated_of source mine)) (cond (d.exchange.source == source) 1 0) (length (dated_of source (mine ++ d ∷ []))) (count-push mine d source));
      quiet = λ source.
          added-in (is_not_ready d.exchange.answer) k.quiet d.exchange.source source
          ∙ (ap (λ b. b || (d.exchange.source == source) && is_not_ready d.exchange.answer) (h.quiet source) ∙ sym (any-push (λ e. is_not_ready e.exchange.answer) mine d source));
      dry = λ source.
          added-in (is_stream_end d.exchange) k.dry d.exchange.source source
          ∙ (ap (λ b. b || (d.exchange.source == source) && is_stream_end d.exchange) (h.dry source)
          ∙ (sym (dry-push (before ++ mine) d source s) ∙ ap (λ ds. has_run_dry w ds source) (sym (assoc before mine d))));
    }

  -- Who is asked next.

  lt-minus : (m b : ℕ) → nat_lt 0 (b - m) ≡ nat_lt m b
  lt-minus m b = both (nat_lt 0 (b - m)) (nat_lt m b) refl refl
    where
      both : (c d : Bool) → nat_lt 0 (b - m) ≡ c → nat_lt m b ≡ d → nat_lt 0 (b - m) ≡ nat_lt m b
      both true true e f = e ∙ sym f
      both false false e f = e ∙ sym f
      both true false e f = absurd (let g = ltb-true 0 (b - m) e in let h = ltb-false m b f in omega (arith, g, h))
      both false true e f = absurd (let g = ltb-false 0 (b - m) e in let h = ltb-true m b f in omega (arith, g, h))

  pub quiet-same : (budget : List ℕ) (before mine : List (Dated O)) (k : AskKept B) → IsKept w budget before mine k → (source : ℕ)
      → is_quiet_by k source ≡ is_quiet w budget before mine source
  quiet-same budget before mine k h source =
      ap (λ b. b || is_marked k.dry source) (h.quiet source) ∙ ap (λ b. told_not_ready source mine || b) (h.dry source)

  pub budget-same : (budget : List ℕ) (before mine : List (Dated O)) (k : AskKept B) → IsKept w budget before mine k → (source : ℕ)
      → has_budget_by k source ≡ has_budget budget mine source
  budget-same budget before mine k h source = ap (λ n. nat_lt 0 n) (h.left source) ∙ lt-minus (length (dated_of source mine)) (slice_index budget source)

  pub may-same : (budget : List ℕ) (before mine : List (Dated O)) (k : AskKept B) → IsKept w budget before mine k → (source : ℕ)
      → may_ask_by k source ≡ may_be_asked w budget before mine source
  may-same budget before mine k h source =
      ap (λ b. b && not (is_quiet_by k source)) (budget-same budget before mine k h source)
      ∙ ap (λ b. has_budget budget mine source && not b) (quiet-same budget before mine k h source)

  -- the first in turn by what is kept
  abbrev pub first_by : AskKept B → ℕ → Option ℕ
  first_by k count = find (may_ask_by k) (range_with_len k.after (count - k.after) ++ range_with_len 0 k.after)

  pub next-same : (budget : List ℕ) (before mine : List (Dated O)) (k : AskKept B) (at : ℕ) → IsKept w budget before mine k
      → next_asked w budget before mine at ≡ (if k.pause.given_up || nat_lt at k.pause.over_at then None else first_by k (length w.feeds))
  next-same budget before mine k at h =
      ap (λ p. if p.given_up || nat_lt at p.over_at then None else find (may_be_asked w budget before mine) (in_turn w (before ++ mine))) (sym h.pause)
      ∙ (ap (λ ss. if k.pause.given_up || nat_lt at k.pause.over_at then None else find (may_be_asked w budget before mine) ss) h.order
      ∙ ap (λ o. if k.pause.given_up || nat_lt at k.pause.over_at then None else o)
      (sym (find-same (may_ask_by k) (may_be_asked w budget before mine) (may-same budget before mine k h) (range_with_len k.after (length w.feeds - k.after) ++ range_with_len 0 k.after))))

  -- Why a source is asked no more.

  stop-same : (budget : List ℕ) (before mine : List (Dated O)) (k : AskKept B) → IsKept w budget before mine k → (shut : Bool) (source : ℕ)
      → stop_by k shut source ≡ stop_of w budget before mine shut source
  stop-same budget before mine k h shut source =
      ap (λ b. if b then stops.NotReady else if shut || k.pause.given_up then stops.Shutdown else if has_budget_by k source then stops.Paused else stops.Budget) (quiet-same budget before mine k h source)
      ∙ (ap (λ (p : Pause B). if is_quiet w budget before mine source then stops.NotReady else if shut || p.given_up then stops.Shutdown else if has_budget_by k source then stops.Paused else stops.Budget) h.pause
      ∙ ap (λ b. if is_quiet w budget before mine source then stops.NotReady else if shut || gave_up w (before ++ mine) then stops.Shutdown else if b then stops.Paused else stops.Budget) (budget-same budget before mine k h source))

  map-each : {A C : Type 0} (f g : A → C) → ((a : A) → f a ≡ g a) → (xs : List A) → map f xs ≡ map g xs
  map-each f g h [] = refl
  map-each f g h (x ∷ xs) = ap (λ c. c ∷ map f xs) (h x) ∙ ap (λ cs. g x ∷ cs) (map-each f g h xs)

  pub stops-same : (budget : List ℕ) (before mine : List (Dated O)) (k : AskKept B) → IsKept w budget before mine k → (shut : Bool) (n : ℕ) → n ≡ length w.feeds
      → map (stop_by k shut) (range_with_len 0 n) ≡ stops_of w budget before mine shut
  stops-same budget before mine k h shut n e =
      map-each (stop_by k shut) (stop_of w budget before mine shut) (stop-same budget before mine k h shut) (range_with_len 0 n)
      ∙ ap (λ m. map (stop_of w budget before mine shut) (range_with_len 0 m)) e

  -- At the beginning of a turn, and before the first.

  pub kept-begun : (last_budget budget : List ℕ) (before mine : List (Dated O)) (k : AskKept B) → IsKept w last_budget before mine k → IsKept w budget (before ++ mine) [] (begun k budget)
  kept-begun last_budget budget before mine k h = record {
    pause = h.pause ∙ ap (pause_of w) (sym (append-nil (before ++ mine)));
    order = ap (in_turn w) (append-nil (before ++ mine)) ∙ h.order;
    small = h.small;
    left = λ source. let z : slice_index budget source ≡ slice_index budget source - 0 = omega arith in z;
    quiet = λ source. refl;
    dry = λ source. h.dry source ∙ ap (λ ds. has_run_dry w ds source) (sym (append-nil (before ++ mine)));
  }

  pub kept-first : (k : AskKept B) → k ≡ record { pause = record { backoff = w.backoff; over_at = 0; given_up = false }; after = 0; left = []; quiet = []; dry = [] } → IsKept w [] [] [] k
  kept-first k e = subst (IsKept w [] [] []) (sym e) (record {
    pause = refl;
    order = let z : length w.feeds ≡ length w.feeds - 0 = omega arith in ap (range_with_len 0) z ∙ sym (append-nil (range_with_len 0 (length w.feeds - 0)));
    small = omega arith;
    left = λ source. refl;
    quiet = λ source. refl;
    dry = λ source. dry-first source (not (is_watched (feed_of w source)));
  })
    where
      dry-first : (source : ℕ) (b : Bool) → false ≡ (b && false)
      dry-first source true = refl
      dry-first source false = refl
