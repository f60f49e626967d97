-- A history with one more turn.
use Rattle.std.proofs.Common.{◌≡◌, ℕ, Bool, true, false, not, ◌&&◌, ◌||◌, ◌==◌, List, [], ◌∷◌, ◌++◌, map, Option, Some, None, if◌then◌else◌, is_some, refl, sym, ap, ◌∙◌, append_assoc, append-nil}
use Rattle.std.specs.List.{filter, filter_map, flat_map, fold}
use Rattle.std.proofs.lemmas.Bool.{false≢true}
use Rattle.std.proofs.lemmas.List.Elements.{filter-append}
use Rattle.std.proofs.lemmas.List.Folds.{list_any-append}
use Rattle.std.proofs.lemmas.List.Sums.{fold-append}
use Rattle.std.proofs.lemmas.Grind.{flat_map-append}
use Rattle.std.proofs.lemmas.List.{map-append}
use Rattle.kube_meta.specs.Reference.{same_reference}
use Rattle.kube_model.specs.World.{World, Feed, Watched, Streamed, Queued, feed_of}
use Rattle.kube_model.specs.History.{Exchange, Dated, Turn, Step, Finish, dated, exchanges, exchanges_with, dated_of, exchanges_of}
use Rattle.kube_model.specs.Pause.{Pause, pause_of, pause_after, pause_by, pause_reset, pause_failed, pause_asked, gave_up, has_requests}
use Rattle.kube_model.specs.Owed.{is_end}
use Rattle.kube_model.specs.Shutdowns.{is_shut}
use Rattle.kube_model.specs.Requests.{events_of, events_after, turn_events, took}
use Rattle.kube_model.specs.Takes.{Running, running, unfinished, started, is_finished}
use Rattle.kube_model.specs.Traces.{Made, step}
use Rattle.kube_model.specs.SecondForms.{running_after}
use Rattle.kube_model.proofs.Alls.{or-left, or-right}

not-or : (a b : Bool) → not (a || b) ≡ not a && not b
not-or true b = refl
not-or false b = refl

module _ {O : Type 0} where
  pub exchanges-push : (h : List (Step O)) (t : Turn) (m : Made O) → exchanges (h ++ step t m ∷ []) ≡ exchanges_with h t m.0.exchanges
  exchanges-push h t m =
      flat_map-append (λ s. dated s.turn.at s.made.exchanges) h (step t m ∷ [])
      ∙ ap (λ ds. exchanges h ++ ds) (append-nil (dated t.at m.0.exchanges))

  pub exchanges_with-push : (h : List (Step O)) (t : Turn) (before : List (Exchange O)) (x : Exchange O)
      → exchanges_with h t (before ++ x ∷ []) ≡ exchanges_with h t before ++ record { at = t.at; exchange = x } ∷ []
  exchanges_with-push h t before x =
      ap (λ ds. exchanges h ++ ds) (map-append (λ x. record { at = t.at; exchange = x }) before (x ∷ []))
      ∙ sym (append_assoc (exchanges h) (dated t.at before) (record { at = t.at; exchange = x } ∷ []))

  -- one more exchange of this source, and of another
  pub exchanges_of-own : (source : ℕ) (ds : List (Dated O)) (d : Dated O) → (d.exchange.source == source) ≡ true
      → exchanges_of source (ds ++ d ∷ []) ≡ exchanges_of source ds ++ d.exchange ∷ []
  exchanges_of-own source ds d h =
      ap (map (λ d. d.exchange)) (filter-append (λ d. d.exchange.source == source) ds (d ∷ []) ∙ ap (λ b. dated_of source ds ++ (if b then d ∷ [] else [])) h)
      ∙ map-append (λ d. d.exchange) (dated_of source ds) (d ∷ [])

  pub exchanges_of-other : (source : ℕ) (ds : List (Dated O)) (d : Dated O) → (d.exchange.source == source) ≡ false
      → exchanges_of source (ds ++ d ∷ []) ≡ exchanges_of source ds
  exchanges_of-other source ds d h =
      ap (map (λ d. d.exchange)) (filter-append (λ d. d.exchange.source == source) ds (d ∷ [])
      ∙ ap (λ b. dated_of source ds ++ (if b then d ∷ [] else [])) h ∙ append-nil (dated_of source ds))

  -- shutdown, once asked, stays asked
  pub shut-before : (g h : List (Step O)) → is_shut (g ++ h) ≡ false → is_shut g ≡ false
  shut-before g h e = or-left (is_shut g) (is_shut h) (sym (list_any-append _ g h) ∙ e)

  pub shut-after : (g h : List (Step O)) → is_shut (g ++ h) ≡ false → is_shut h ≡ false
  shut-after g h e = or-right (is_shut g) (is_shut h) (sym (list_any-append _ g h) ∙ e)

  -- What runs.

  if-twice : (a b : Bool) (p : Running O) (ps : List (Running O)) (f : Running O → Bool) → f p ≡ b
      → filter f (if a then p ∷ ps else ps) ≡ (if a && b then p ∷ filter f ps else filter f ps)
  if-twice true b p ps f h = ap (λ c. if c then p ∷ filter f ps else filter f ps) h
  if-twice false b p ps f h = refl

  pub unfinished-append : (ps : List (Running O)) (fs gs : List Finish) → unfinished ps (fs ++ gs) ≡ unfinished (unfinished ps fs) gs
  unfinished-append [] fs gs = refl
  unfinished-append (p ∷ ps) fs gs =
      ap (λ b. if (not b) then p ∷ unfinished ps (fs ++ gs) else unfinished ps (fs ++ gs)) (list_any-append (λ f. same_reference f.reference p.reference) fs gs)
      ∙ ap (λ b. if b then p ∷ unfinished ps (fs ++ gs) else unfinished ps (fs ++ gs)) (not-or (is_finished fs p.reference) (is_finished gs p.reference))
      ∙ ap (λ qs. if (not (is_finished fs p.reference) && not (is_finished gs p.reference)) then p ∷ qs else qs) (unfinished-append ps fs gs)
      ∙ sym (if-twice (not (is_finished fs p.reference)) (not (is_finished gs p.reference)) p (unfinished ps fs) (λ q. not (is_finished gs q.reference)) refl)

  -- the table of what runs, after one more turn
  pub running-push : (h : List (Step O)) (s : Step O) → running (h ++ s ∷ []) ≡ running_after (running h) s
  running-push [] s = append-nil (unfinished (filter_map started s.made.taken) []) ∙ unfinished-nil (filter_map started s.made.taken)
    where
      unfinished-nil : (ps : List (Running O)) → unfinished ps [] ≡ ps
      unfinished-nil [] = refl
      unfinished-nil (p ∷ ps) = ap (λ qs. p ∷ qs) (unfinished-nil ps)
  running-push (u ∷ h) s =
      ap (λ fs. unfinished (filter_map started u.made.taken) fs ++ running (h ++ s ∷ []))
      (flat_map-append (λ v. v.turn.finishes) h (s ∷ []) ∙ ap (λ fs. flat_map (λ v. v.turn.finishes) h ++ fs) (append-nil s.turn.finishes))
      ∙ ap (λ ps. ps ++ running (h ++ s ∷ [])) (unfinished-append (filter_map started u.made.taken) (flat_map (λ v. v.turn.finishes) h) s.turn.finishes)
      ∙ ap (λ ps. unfinished (unfinished (filter_map started u.made.taken) (flat_map (λ v. v.turn.finishes) h)) s.turn.finishes ++ ps) (running-push h s)
      ∙ sym (append_assoc (unfinished (unfinished (filter_map started u.made.taken) (flat_map (λ v. v.turn.finishes) h)) s.turn.finishes) (unfinished (running h) s.turn.finishes) (filter_map started s.made.taken))
      ∙ ap (λ ps. ps ++ filter_map started s.made.taken)
      (sym (filter-append (λ p. not (is_finished s.turn.finishes p.reference)) (unfinished (filter_map started u.made.taken) (flat_map (λ v. v.turn.finishes) h)) (running h)))

  pub running-fold : (h : List (Step O)) → running h ≡ fold running_after [] h
  running-fold h = sym (from [] h)
    where
      from : (g h : List (Step O)) → fold running_after (running g) h ≡ running (g ++ h)
      from g [] = ap running (sym (append-nil g))
      from g (s ∷ h) = ap (λ ps. fold running_after ps h) (sym (running-push g s)) ∙ from (g ++ s ∷ []) h ∙ ap running (append_assoc g (s ∷ []) h)

module _ {O B : Type 0} (w : World O B) where
  -- giving up lasts
  asked-given : (p : Pause B) (at : ℕ) (answer : Option ℕ × B) → (pause_asked p at answer).given_up ≡ false → p.given_up ≡ false
  asked-given p at (Some duration, b) h = h
  asked-given p at (None, b) h = absurd (false≢true (sym h))

  failed-given : (p : Pause B) (d : Dated O) → (pause_failed w p d).given_up ≡ false → p.given_up ≡ false
  failed-given p d h = go (is_some d.exchange.error) h
    where
      go : (b : Bool) → (if b then pause_asked p d.at (w.next p.backoff d.at) else p).given_up ≡ false → p.given_up ≡ false
      go true h = asked-given p d.at (w.next p.backoff d.at) h
      go false h = h

  reset-given : (p : Pause B) (d : Dated O) → (pause_reset w p d).given_up ≡ false → p.given_up ≡ false
  reset-given p d h = go (has_requests d.exchange) h
    where
      go : (b : Bool) → (if b then record p { backoff = w.reset p.backoff } else p).given_up ≡ false → p.given_up ≡ false
      go true h = h
      go false h = h

  by-given : (feed : Feed) (p : Pause B) (d : Dated O) → (pause_by w feed p d).given_up ≡ false → p.given_up ≡ false
  by-given (Watched settings) p d h = failed-given p d (reset-given (pause_failed w p d) d h)
  by-given Streamed p d h = failed-given p d (reset-given (pause_failed w p d) d h)
  by-given Queued p d h = go (is_end d.exchange.answer) h
    where
      go : (b : Bool) → (if b then record p { given_up = true } else p).given_up ≡ false → p.given_up ≡ false
      go true h = absurd (false≢true (sym h))
      go false h = h

  fold-given : (p : Pause B) (ds : List (Dated O)) → (fold (pause_after w) p ds).given_up ≡ false → p.given_up ≡ false
  fold-given p [] h = h
  fold-given p (d ∷ ds) h = by-given (feed_of w d.exchange.source) p d (fold-given (pause_after w p d) ds h)

  pub gave_up-before : (ds es : List (Dated O)) → gave_up w (ds ++ es) ≡ false → gave_up w ds ≡ false
  gave_up-before ds es h =
      fold-given (pause_of w ds) es (ap (λ (p : Pause B). p.given_up) (sym (fold-append (pause_after w) (record { backoff = w.backoff; over_at = 0; given_up = false }) ds es)) ∙ h)

  -- what happened to the queue, with one more turn
  pub events_after-push : (before h : List (Step O)) (s : Step O)
      → events_after w before (h ++ s ∷ []) ≡ events_after w before h ++ (turn_events w (before ++ h) s.turn s.reads s.made.finished s.made.exchanges ++ took s.made.taken)
  events_after-push before [] s =
      append-nil (turn_events w before s.turn s.reads s.made.finished s.made.exchanges ++ took s.made.taken)
      ∙ ap (λ g. turn_events w g s.turn s.reads s.made.finished s.made.exchanges ++ took s.made.taken) (sym (append-nil before))
  events_after-push before (u ∷ h) s =
      let one = turn_events w before u.turn u.reads u.made.finished u.made.exchanges ++ took u.made.taken in
      ap (λ es. one ++ es)
      (events_after-push (before ++ u ∷ []) h s
      ∙ ap (λ g. events_after w (before ++ u ∷ []) h ++ (turn_events w g s.turn s.reads s.made.finished s.made.exchanges ++ took s.made.taken)) (append_assoc before (u ∷ []) h))
      ∙ sym (append_assoc one (events_after w (before ++ u ∷ []) h) (turn_events w (before ++ u ∷ h) s.turn s.reads s.made.finished s.made.exchanges ++ took s.made.taken))

  pub events-push : (h : List (Step O)) (s : Step O)
      → events_of w (h ++ s ∷ []) ≡ events_of w h ++ turn_events w h s.turn s.reads s.made.finished s.made.exchanges ++ took s.made.taken
  events-push h s =
      events_after-push [] h s ∙ sym (append_assoc (events_of w h) (turn_events w h s.turn s.reads s.made.finished s.made.exchanges) (took s.made.taken))
