-- A turn that was taken, by the calls that make it.
use Rattle.std.proofs.Common.{◌≡◌, Bool, true, false, not, ◌||◌, ◌&&◌, ◌==◌, List, [], ◌∷◌, ◌++◌, map, length, Option, None, if◌then◌else◌, is_some, refl, sym, ap, ap₂, subst, ◌∙◌, append-nil}
use Rattle.std.specs.List.{filter_map, list_any, range_with_len}
use Rattle.std.proofs.lemmas.Grind.{flat_map-append}
use Rattle.kube_meta.specs.declared.resource.Resource as resource
use Rattle.kube_model.specs.declared.turn.Stop.TheVariants as stops
use Rattle.kube_model.specs.declared.error.RunnerError.{RunnerError}
use Rattle.kube_model.specs.World.{World, Feed, Watched, Streamed, Queued, is_watched, feed_of}
use Rattle.kube_model.specs.Reads.{Reads, told_ready, failure_in}
use Rattle.kube_model.specs.History.{Exchange, Message, same_message, Turn, TurnRecord, Finished, Taken, Step, dated, exchanges, exchanges_with}
use Rattle.kube_model.specs.Asks.{is_quiet, has_budget, sources, stops_of}
use Rattle.kube_model.specs.Pause.{gave_up}
use Rattle.kube_model.specs.Queue.{QueueEvent, waiting}
use Rattle.kube_model.specs.Requests.{events_of, turn_events, took, waiting_in}
use Rattle.kube_model.specs.Shutdowns.{is_shut, asks_shutdown, is_closed, is_forced, is_over}
use Rattle.kube_model.specs.Stored.{may_take, stored_in, was_ready}
use Rattle.kube_model.specs.Takes.{found_so, running, started, taken_of, unfinished}
use Rattle.kube_model.specs.Turns.{is_idle_after, next_source, record_with, running_in, taken_in, was_asked}
use Rattle.kube_model.specs.Traces.{IsRecord, IsValid, AreFinishesOf, EachIsNext, Made, step}
use Rattle.kube_model.proofs.Histories.{events-push, running-push}
use Rattle.kube_history.specs.CoreWorld.{core_world}
use Rattle.kube_history.specs.InTurn.{AreTaken, look_so}
use Rattle.kube_history.specs.TurnCalls.{TakesBy, ReaderAnswers, ReadsBy, with_requests}
use Rattle.kube_history.specs.TurnEvents.{was_over}
use Rattle.kube_history.proofs.TurnCalls.{makes}
use Rattle.kube_backoff.specs.declared.backoff.Backoff as backoff
use Rattle.kube_core.specs.Pendings.{Stands as PendingStands}
use Rattle.kube_asks.specs.Asking.{Asking}
use Rattle.kube_asks.specs.declared.root.RootSource as root_source
use Rattle.kube_asks.specs.declared.set.RelatedSet as related_set
use Rattle.kube_step.specs.Controllers.{IsWorldOfAsks, AsksStand}
use Rattle.kube_step.specs.Policies.{answered_in}
use Rattle.kube_feed.specs.declared.parts.Parts.{Parts}
use Rattle.kube_feed.specs.Fed.{PartsStand}
use Rattle.kube_feed.specs.Requests.{finish_requests}
use Rattle.kube_feed.specs.Turns.{AreFirstReads, AreFirstTaken, AreTakenWhere, queue_asked}
use Rattle.kube_feed.proofs.Requested.{failure-is, found-is, queue-is, ready-is, shown-is}

or-none : (b : Bool) → (b || false) ≡ b
or-none true = refl
or-none false = refl

and-none : (b : Bool) → (b && true) ≡ b
and-none true = refl
and-none false = refl

any-last : {A : Type 0} (f : A → Bool) (g : List A) (s : A) → list_any f (g ++ s ∷ []) ≡ (list_any f g || f s)
any-last f [] s = or-none (f s)
any-last f (u ∷ g) s = ap (λ b. f u || b) (any-last f g s) ∙ or-assoc (f u) (list_any f g) (f s)
  where
    or-assoc : (a b c : Bool) → (a || (b || c)) ≡ ((a || b) || c)
    or-assoc true b c = refl
    or-assoc false b c = refl

-- a turn is closed where shutdown was asked or given up before, or is asked in it
pub closed-is : {O B : Type 0} (w : World O B) (h : List (Step O)) (t : Turn) → is_closed w h t ≡ (was_over w h || asks_shutdown t.shutdown)
closed-is w h t = swap (is_shut h) (asks_shutdown t.shutdown) (gave_up w (exchanges h))
  where
    swap : (p q r : Bool) → ((p || q) || r) ≡ ((p || r) || q)
    swap true q r = refl
    swap false true true = refl
    swap false true false = refl
    swap false false r = sym (or-none r)

-- an open turn is over by its end where the backoff gave up by then
pub open-over : {O B : Type 0} (w : World O B) (h : List (Step O)) (t : Turn) (xs : List (Exchange O)) → is_closed w h t ≡ false → gave_up w (exchanges_with h t xs) ≡ is_over w h t xs
open-over w h t xs e = sym (ap (λ b. b || gave_up w (exchanges_with h t xs)) (or-left (was_asked w h t) (gave_up w (exchanges h)) e))
  where
    or-left : (a b : Bool) → (a || b) ≡ false → a ≡ false
    or-left true b k = absurd (cc)
    or-left false b k = refl

-- After one more turn.

module _ {O B : Type 0} (w : World O B) (h : List (Step O)) (t : Turn) (m : Made O) where
  pub exchanges-after : exchanges (h ++ step t m ∷ []) ≡ exchanges_with h t m.0.exchanges
  exchanges-after = flat_map-append (λ (s : Step O). dated s.turn.at s.made.exchanges) h (step t m ∷ []) ∙ ap (λ ds. exchanges h ++ ds) (append-nil (dated t.at m.0.exchanges))

  pub over-after : was_over w (h ++ step t m ∷ []) ≡ is_over w h t m.0.exchanges
  over-after = ap₂ (λ a b. a || b) (any-last (λ s. asks_shutdown s.turn.shutdown) h (step t m)) (ap (gave_up w) exchanges-after)

  pub ready-after : was_ready (h ++ step t m ∷ []) ≡ (was_ready h || told_ready m.1)
  ready-after = any-last (λ s. told_ready s.reads) h (step t m)

-- The record.

module _ {O B : Type 0} (w : World O B) (fed : is_watched (feed_of w 0) ≡ false) (h : List (Step O)) (t : Turn) where
  stops-are : (xs : List (Exchange O)) (shut : Bool) → (shut || gave_up w (exchanges_with h t xs)) ≡ (was_asked w h t || gave_up w (exchanges_with h t xs))
      → stops_of w t.budget (exchanges h) (dated t.at xs) shut ≡ stops_of w t.budget (exchanges h) (dated t.at xs) (was_asked w h t)
  stops-are xs shut e =
      ap (λ b. map (λ source. if is_quiet w t.budget (exchanges h) (dated t.at xs) source then stops.NotReady else if b then stops.Shutdown else if has_budget t.budget (dated t.at xs) source then stops.Paused else stops.Budget) (range_with_len 0 (sources w))) e

  -- the record is that of these reads, finishes and exchanges, where each of its parts is
  pub record-is : (q : TurnRecord O) (r : Reads O) (fs : List Finished) (xs : List (Exchange O)) (ts : List (Taken O)) (shut over : Bool) → q.at ≡ t.at → q.finished ≡ fs → q.exchanges ≡ xs
      → q.stops ≡ stops_of w t.budget (exchanges h) (dated t.at xs) shut → (shut || gave_up w (exchanges_with h t xs)) ≡ (was_asked w h t || gave_up w (exchanges_with h t xs))
      → q.taken ≡ ts → taken_in w h t r fs xs ≡ ts → q.store ≡ r.shown → q.runner ≡ failure_in r.readiness
      → q.ended ≡ (is_forced t.shutdown || over && (length (running_in w h t ++ filter_map started ts) == 0) || is_some q.runner) → over ≡ is_over w h t xs
      → q ≡ record_with w h t r fs xs
  record-is q r fs xs ts shut over at finished asked stopped closed took takes shows runs ends overs = λ i. record {
    at = at i;
    finished = finished i;
    exchanges = asked i;
    stops = (stopped ∙ stops-are xs shut closed) i;
    taken = (took ∙ sym takes) i;
    store = (shows ∙ sym (shown-is w fed h t r xs)) i;
    runner = (runs ∙ sym (failure-is w fed h t r xs)) i;
    ended =
        (ends ∙ (ap₂ (λ a us. is_forced t.shutdown || a && (length (running_in w h t ++ filter_map started us) == 0) || is_some q.runner) overs (sym takes)
        ∙ ap (λ (f : Option RunnerError). is_forced t.shutdown || is_over w h t xs && is_idle_after w h t (taken_in w h t r fs xs) || is_some f) (runs ∙ sym (failure-is w fed h t r xs)))) i;
  }

  -- What is read of a root that is fed.

  reads-by : (r : Reads O) (fs : List Finished) (xs : List (Exchange O)) (ts : List (Taken O)) → ReaderAnswers w h t r fs xs ts → ReadsBy w h t r fs xs (feed_of w 0) ts
  reads-by r fs xs ts a = go (feed_of w 0) fed
    where
      go : (feed : Feed) → is_watched feed ≡ false → ReadsBy w h t r fs xs feed ts
      go (Watched settings) e = absurd (cc)
      go Streamed e = a
      go Queued e = a

  takes-by : (r : Reads O) (fs : List Finished) (xs : List (Exchange O)) (ts : List (Taken O)) (b : Bool) → may_take w h t r xs ≡ b
      → AreTakenWhere b w.limit (waiting_in w h t r fs xs) (running_in w h t) ts → r.looked_up ≡ map (λ (u : Taken O). u.object) ts → TakesBy w h t r fs xs (feed_of w 0) (may_take w h t r xs) ts
  takes-by r fs xs ts b e a l = subst (λ c. TakesBy w h t r fs xs (feed_of w 0) c ts) (sym e) (go (feed_of w 0) fed b a)
    where
      look : AreTaken w.limit (look_so (map (λ (u : Taken O). u.object) ts)) 0 (waiting_in w h t r fs xs) (running_in w h t) ts → AreTaken w.limit (look_so r.looked_up) 0 (waiting_in w h t r fs xs) (running_in w h t) ts
      look k = subst (λ os. AreTaken w.limit (look_so os) 0 (waiting_in w h t r fs xs) (running_in w h t) ts) (sym l) k

      go : (feed : Feed) → is_watched feed ≡ false → (c : Bool) → AreTakenWhere c w.limit (waiting_in w h t r fs xs) (running_in w h t) ts → TakesBy w h t r fs xs feed c ts
      go (Watched settings) f c k = absurd (cc)
      go Streamed f true k = look k
      go Queued f true k = look k
      go Streamed f false k = k
      go Queued f false k = k

  -- reads and takes of a turn make its record
  pub made : (r : Reads O) (fs : List Finished) (xs : List (Exchange O)) (ts : List (Taken O)) (b : Bool) → IsValid h t → AreFinishesOf (answered_in fs) (running h) t.finishes fs → EachIsNext w h t [] xs → next_source w h t xs ≡ None
      → ReaderAnswers w h t r fs xs ts → may_take w h t r xs ≡ b → AreTakenWhere b w.limit (waiting_in w h t r fs xs) (running_in w h t) ts
      → IsRecord w (answered_in fs) h t (record_with w h t r fs xs, r) × (taken_in w h t r fs xs ≡ ts)
  made r fs xs ts b v z asked done a e k =
      makes w h t r fs xs ts (record { reads = reads-by r fs xs ts a; takes = takes-by r fs xs ts b e k a.looked_up }) (answered_in fs) v z asked done

  -- takes made first, by what was read so far, are those of the turn by these reads
  pub first-is : (r : Reads O) (fs : List Finished) (xs : List (Exchange O)) (ts : List (Taken O)) → is_closed w h t ≡ false → AreFirstReads w h t xs ts r
      → AreFirstTaken ((was_ready h || told_ready r) && not (is_over w h t xs)) w.limit (waiting same_message w.debounce (queue_asked w.key (with_requests (events_of w h) t.at (finish_requests false t.at fs)) t r xs)) (running_in w h t) ts
      → taken_in w h t r fs xs ≡ ts
  first-is r fs xs ts e a k =
      ap (λ b. if b && not (is_over w h t xs) then taken_of w.limit (stored_in w h t r xs).found_of (running_in w h t) (waiting_in w h t r fs xs) else []) (ready-is w fed h t r xs)
      ∙ (ap (λ f. if (was_ready h || told_ready r) && not (is_over w h t xs) then taken_of w.limit f (running_in w h t) (waiting_in w h t r fs xs) else [])
      (found-is w fed h t r xs ∙ ap (λ (os : List (Option O)). found_so os) a.looked_up)
      ∙ (ap (λ es. if (was_ready h || told_ready r) && not (is_over w h t xs) then taken_of w.limit (found_so (map (λ (u : Taken O). u.object) ts)) (running_in w h t) (waiting same_message w.debounce es) else []) (sym queue)
      ∙ k))
    where
      reloaded : is_some r.reloaded ≡ t.reload
      reloaded = a.reloaded ∙ (ap (λ b. t.reload && not b) e ∙ and-none t.reload)

      queue : queue_asked w.key (with_requests (events_of w h) t.at (finish_requests false t.at fs)) t r xs ≡ events_of w h ++ turn_events w h t r fs xs
      queue = queue-is w fed h t r xs fs e reloaded

-- The parts of a controller after the turn.

module _ {R S B O D : Type 0} (root : root_source.Ghosts R O D) (related : related_set.Ghosts S O D) (delays : backoff.Ghosts B) (object : resource.Ghosts O D) (w : World O B) (h : List (Step O)) (t : Turn)
    (a : Asking R S B) (p : Parts O D) (may : PartsStand root related delays object w h a p) (v : IsValid h t) (fs : List Finished) (z : AreFinishesOf (answered_in fs) (running h) t.finishes fs) where
  module _ (a' : Asking R S B) (p' : Parts O D) (r : Reads O) (xs : List (Exchange O)) (ts : List (Taken O)) (q : TurnRecord O)
      (is : q ≡ record_with w h t r fs xs) (takes : q.taken ≡ ts)
      (asked : q.exchanges ≡ xs) (finished : q.finished ≡ fs)
      (world : IsWorldOfAsks root related delays object w a') (stand : AsksStand root related delays object w t.budget (exchanges h) (dated t.at xs) a') (unspent : a'.is_spent ≡ false)
      (waits : PendingStands object.type_of (core_world w) p'.pending (events_of w h ++ turn_events w h t r fs xs ++ took ts) (running_in w h t ++ filter_map started ts))
      (ready : p'.ready ≡ (was_ready h || told_ready r)) (shut : p'.shut ≡ is_over w h t xs) where
    all : List (QueueEvent Message)
    all = events_of w h ++ turn_events w h t r fs xs ++ took ts

    queue : events_of w (h ++ step t (q, r) ∷ []) ≡ events_of w h ++ turn_events w h t r fs xs ++ took ts
    queue =
        events-push w h (step t (q, r))
        ∙ (ap (λ gs. events_of w h ++ turn_events w h t r gs q.exchanges ++ took q.taken) finished
        ∙ (ap (λ ys. events_of w h ++ turn_events w h t r fs ys ++ took q.taken) asked
        ∙ ap (λ us. events_of w h ++ turn_events w h t r fs xs ++ took us) takes))

    runs : running (h ++ step t (q, r) ∷ []) ≡ running_in w h t ++ filter_map started ts
    runs = running-push h (step t (q, r)) ∙ ap (λ us. unfinished (running h) t.finishes ++ filter_map started us) takes

    pub parts-after : PartsStand root related delays object w (h ++ step t (q, r) ∷ []) a' p'
    parts-after = record {
      world = world;
      is_fed = may.is_fed;
      names = may.names;
      waits =
          subst (λ es. PendingStands object.type_of (core_world w) p'.pending es (running (h ++ step t (q, r) ∷ []))) (sym queue)
          (subst (λ rs. PendingStands object.type_of (core_world w) p'.pending (events_of w h ++ turn_events w h t r fs xs ++ took ts) rs) (sym runs) waits);
      ready = ready ∙ sym (ready-after w h t (q, r));
      shut = shut ∙ (ap (is_over w h t) (sym asked) ∙ sym (over-after w h t (q, r)));
      budget = t.budget;
      before = exchanges h;
      mine = dated t.at xs;
      joined = ap (exchanges_with h t) (sym asked) ∙ sym (exchanges-after w h t (q, r));
      asks_stand = stand;
      unspent = unspent;
    }
