-- The record of a turn, from what was done in it.
use Rattle.std.proofs.Common.{◌≡◌, ℕ, Bool, true, false, ◌&&◌, ◌||◌, List, [], ◌∷◌, ◌++◌, map, Option, Some, None, if◌then◌else◌, is_some, refl, sym, ap, ap₂, subst, ◌∙◌, append_assoc, append-nil}
use Rattle.std.specs.List.{range_with_len}
use Rattle.kube_model.specs.declared.turn.Stop.TheVariants as stops
use Rattle.kube_model.specs.declared.error.RunnerError.{RunnerError}
use Rattle.kube_model.specs.World.{World, Settings, Watched, feed_of}
use Rattle.kube_model.specs.Reads.{nothing_read}
use Rattle.kube_model.specs.History.{Exchange, Turn, TurnRecord, Finished, Taken, Step, dated, exchanges, exchanges_with}
use Rattle.kube_model.specs.Pause.{gave_up}
use Rattle.kube_model.specs.Asks.{is_quiet, has_budget, sources, stops_of}
use Rattle.kube_model.specs.Shutdowns.{is_shut, asks_shutdown, is_closed, is_forced, is_over}
use Rattle.kube_model.specs.Stored.{stored_by, stored_in, store_in}
use Rattle.kube_model.specs.Turns.{was_asked, taken_in, is_idle_after, record_with}
use Rattle.kube_model.specs.Traces.{IsRecord, IsValid, AreFinishesOf, EachIsNext, step, unread}
use Rattle.kube_model.specs.Takes.{running}
use Rattle.kube_model.specs.Turns.{next_source}
use Rattle.kube_model.specs.Named.{EachIsNamed, RootIsNamed}
use Rattle.kube_history.specs.CoreWorld.{core_world}
use Rattle.kube_history.specs.CoreEvents.{CoreEvent}
use Rattle.kube_history.specs.Legal.{AreLegal}
use Rattle.kube_history.specs.TurnEvents.{before_takes, takes, closing, core_events}
use Rattle.kube_history.specs.Agrees.{Agrees}
use Rattle.kube_history.proofs.Calls.{calls-make, closed-make}
use Rattle.kube_history.proofs.OneTurn.{one-turn}

or-false : (b : Bool) → (b || false) ≡ b
or-false true = refl
or-false false = refl

module _ {O B : Type 0} (w : World O B) (settings : Settings) (watched : feed_of w 0 ≡ Watched settings) (h : List (Step O)) (t : Turn) where
  -- of a root that lists and watches
  shown-is : (xs : List (Exchange O)) → (stored_in w h t nothing_read xs).shown ≡ (if t.show then Some (store_in w h t xs) else None)
  shown-is xs = ap (λ f. (stored_by w f h t nothing_read xs).shown) watched

  failure-is : (xs : List (Exchange O)) → (stored_in w h t nothing_read xs).failure ≡ None
  failure-is xs = ap (λ f. (stored_by w f h t nothing_read xs).failure) watched

  -- why each source is asked no more, by whether the turn is closed
  stops-are : (xs : List (Exchange O)) (shut : Bool) → (shut || gave_up w (exchanges_with h t xs)) ≡ (was_asked w h t || gave_up w (exchanges_with h t xs))
      → stops_of w t.budget (exchanges h) (dated t.at xs) shut ≡ stops_of w t.budget (exchanges h) (dated t.at xs) (was_asked w h t)
  stops-are xs shut e =
      ap (λ b. map (λ source. if is_quiet w t.budget (exchanges h) (dated t.at xs) source then stops.NotReady else if b then stops.Shutdown else if has_budget t.budget (dated t.at xs) source then stops.Paused else stops.Budget) (range_with_len 0 (sources w))) e

  pub open-shut : (xs : List (Exchange O)) → is_closed w h t ≡ false → (false || gave_up w (exchanges_with h t xs)) ≡ (was_asked w h t || gave_up w (exchanges_with h t xs))
  open-shut xs o = go (is_shut h) (asks_shutdown t.shutdown) o
    where
      go : (a b : Bool) → (a || b || gave_up w (exchanges h)) ≡ false → (false || gave_up w (exchanges_with h t xs)) ≡ ((a || b) || gave_up w (exchanges_with h t xs))
      go true b e = absurd (cc)
      go false true e = absurd (cc)
      go false false e = refl

  pub closed-shut : is_closed w h t ≡ true → (true || gave_up w (exchanges_with h t [])) ≡ (was_asked w h t || gave_up w (exchanges_with h t []))
  closed-shut o = go (is_shut h) (asks_shutdown t.shutdown) (ap (λ ds. was_asked w h t || gave_up w ds) (sym (append-nil (exchanges h)))) o
    where
      go : (a b : Bool) → ((is_shut h || asks_shutdown t.shutdown) || gave_up w (exchanges h)) ≡ ((is_shut h || asks_shutdown t.shutdown) || gave_up w (exchanges_with h t []))
          → ((is_shut h || asks_shutdown t.shutdown) || gave_up w (exchanges h)) ≡ true → true ≡ ((is_shut h || asks_shutdown t.shutdown) || gave_up w (exchanges_with h t []))
      go a b e u = sym u ∙ e

  -- the record is that of these finishes and exchanges, where each of its parts is
  pub record-is : (q : TurnRecord O) (fs : List Finished) (xs : List (Exchange O)) (shut over idle : Bool) → q.at ≡ t.at → q.finished ≡ fs → q.exchanges ≡ xs
      → q.stops ≡ stops_of w t.budget (exchanges h) (dated t.at xs) shut → (shut || gave_up w (exchanges_with h t xs)) ≡ (was_asked w h t || gave_up w (exchanges_with h t xs))
      → q.taken ≡ taken_in w h t nothing_read fs xs → q.store ≡ (if t.show then Some (store_in w h t xs) else None) → q.runner ≡ None
      → q.ended ≡ (is_forced t.shutdown || over && idle) → over ≡ is_over w h t xs → idle ≡ is_idle_after w h t (taken_in w h t nothing_read fs xs)
      → q ≡ record_with w h t nothing_read fs xs
  record-is q fs xs shut over idle at finished asked stopped closed took shows runs ends overs idles = λ i. record {
    at = at i;
    finished = finished i;
    exchanges = asked i;
    stops = (stopped ∙ stops-are xs shut closed) i;
    taken = took i;
    store = (shows ∙ sym (shown-is xs)) i;
    runner = (runs ∙ sym (failure-is xs)) i;
    ended =
        (ends ∙ ap₂ (λ a b. is_forced t.shutdown || a && b) overs idles
        ∙ (sym (or-false (is_forced t.shutdown || is_over w h t xs && is_idle_after w h t (taken_in w h t nothing_read fs xs)))
        ∙ ap (λ (f : Option RunnerError). (is_forced t.shutdown || is_over w h t xs && is_idle_after w h t (taken_in w h t nothing_read fs xs)) || is_some f) (sym (failure-is xs)))) i;
  }

  module _ (policies : ℕ → O → Option ℕ) (fs : List Finished) (es : List (CoreEvent O)) (a : Agrees w h es) (v : IsValid h t) (z : AreFinishesOf policies (running h) t.finishes fs) where
    -- what an open turn does makes its record, and the events agree with it
    pub open-made : (xs : List (Exchange O)) (ts : List (Taken O)) → is_closed w h t ≡ false → EachIsNext w h t [] xs → next_source w h t xs ≡ None → EachIsNamed w (RootIsNamed w) h t [] xs
        → AreLegal (core_world w) [] (es ++ before_takes w h t fs xs ++ takes t.at ts)
        → IsRecord w policies h t (unread (record_with w h t nothing_read fs xs)) × (taken_in w h t nothing_read fs xs ≡ ts)
        × Agrees w (h ++ step t (unread (record_with w h t nothing_read fs xs)) ∷ []) (es ++ before_takes w h t fs xs ++ takes t.at ts)
    open-made xs ts o k d n l =
        let made = calls-make w settings watched policies h t fs xs ts es o a v z k d l in
        let events : core_events w h (step t (unread (record_with w h t nothing_read fs xs))) ≡ before_takes w h t fs xs ++ takes t.at ts =
        ap (λ b. if b then closing w h t fs else before_takes w h t fs xs ++ takes t.at (taken_in w h t nothing_read fs xs)) o
        ∙ ap (λ us. before_takes w h t fs xs ++ takes t.at us) made.1 in (
          made.0,
          made.1,
          subst (Agrees w (h ++ step t (unread (record_with w h t nothing_read fs xs)) ∷ [])) (ap (λ us. es ++ us) events ∙ sym (append_assoc es (before_takes w h t fs xs) (takes t.at ts)))
              (one-turn w settings watched policies h t (unread (record_with w h t nothing_read fs xs)) es made.0 n a),
        )

    -- so does a closed one
    pub closed-made : is_closed w h t ≡ true
        → IsRecord w policies h t (unread (record_with w h t nothing_read fs [])) × (taken_in w h t nothing_read fs [] ≡ [])
        × Agrees w (h ++ step t (unread (record_with w h t nothing_read fs [])) ∷ []) (es ++ closing w h t fs)
    closed-made o =
        let made = closed-make w settings watched policies h t fs o v z in
        let events : core_events w h (step t (unread (record_with w h t nothing_read fs []))) ≡ closing w h t fs =
        ap (λ b. if b then closing w h t fs else before_takes w h t fs [] ++ takes t.at (taken_in w h t nothing_read fs [])) o in (
          made.0,
          made.1,
          subst (λ us. Agrees w (h ++ step t (unread (record_with w h t nothing_read fs [])) ∷ []) (es ++ us)) events
              (one-turn w settings watched policies h t (unread (record_with w h t nothing_read fs [])) es made.0 tt a),
        )
