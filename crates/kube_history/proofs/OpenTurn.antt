-- An open turn agrees with its events: what requests, the settle, the shutdown where the backoff gave up, and the takes.
use Rattle.std.proofs.Common.{◌≡◌, ℕ, Bool, true, false, not, cond, ◌&&◌, ◌||◌, List, [], ◌∷◌, ◌++◌, map, Option, Some, None, if◌then◌else◌, refl, sym, ap, subst, ◌∙◌, append_assoc, append-nil, arith}
use Rattle.std.specs.List.{filter_map, AllByRecursion}
use Rattle.std.proofs.Math.Bool.{or-false}
use Rattle.kube_meta.specs.ReferenceLaws.{seen_equiv}
use Rattle.kube_model.specs.World.{World, Settings, Watched, feed_of}
use Rattle.kube_model.specs.History.{Message, same_message, Turn, Finished, Taken, Step, exchanges, exchanges_with, exchanges_of}
use Rattle.kube_model.specs.Store.{is_ready, store_of}
use Rattle.kube_model.specs.Queue.{Settled as QueueSettled, waiting}
use Rattle.kube_model.specs.Pause.{gave_up}
use Rattle.kube_model.specs.Requests.{Timed, asked_at, requested_and_settled, requests_of_turn, turn_events, took, events_of, waiting_in}
use Rattle.kube_model.specs.Stored.{Stored, stored_in, store_after}
use Rattle.kube_model.specs.Shutdowns.{asks_shutdown, is_over, is_closed}
use Rattle.kube_model.specs.Takes.{found_in, running, started, taken_of}
use Rattle.kube_model.specs.Turns.{running_in}
use Rattle.kube_model.specs.Traces.{Made, last_moment, step, IsRecord}
use Rattle.kube_model.specs.Named.{EachIsNamed, RootIsNamed}
use Rattle.kube_model.specs.WaitingOnce.{HasEachOnce}
use Rattle.kube_model.proofs.Alls.{all-append}
use Rattle.kube_model.proofs.Histories.{exchanges-push, running-push, events-push}
use Rattle.kube_model.proofs.Waits.{waiting-once}
use Rattle.kube_history.specs.CoreWorld.{core_world}
use Rattle.kube_history.specs.CoreEvents.{CoreEvent, Settled, Took, answers_in, was_shut, clock_of, running_of, queue_after, queue_of, next_taken}
use Rattle.kube_history.specs.TurnEvents.{asks, shut_if, takes, was_over, before_takes}
use Rattle.kube_history.specs.Legal.{AreLegal}
use Rattle.kube_history.specs.Agrees.{Agrees, EachFits}
use Rattle.kube_history.proofs.Segments as seg
use Rattle.kube_history.proofs.Segments.{queue-append, shut-append, running-append, clock-append, answers-append, AreReplies, replies-append, legal-append, legal-at}
use Rattle.kube_history.proofs.Finishes.{finishes-are}
use Rattle.kube_history.proofs.TakesBack.{store-taken, takes-queue, none-shut, none-unready, replies-takes}
use Rattle.kube_history.proofs.TurnParts.{shut-queue, shut-if-queue, replies-shut}
use Rattle.kube_history.proofs.AskedTurn as asked
use Rattle.kube_history.proofs.ClosedTurn.{reads-are, taken-is, none-over, moment-is, shut-is}

module _ {O B : Type 0} (w : World O B) (settings : Settings) (watched : feed_of w 0 ≡ Watched settings) (policies : ℕ → O → Option ℕ) (h : List (Step O)) (t : Turn) (m : Made O) (es : List (CoreEvent O)) (k : IsRecord w policies h t m) (n : EachIsNamed w (RootIsNamed w) h t [] m.0.exchanges) (a : Agrees w h es) (c : is_closed w h t ≡ false) where
  fins : map (λ (g : Finished). g.finish) m.0.finished ≡ t.finishes
  fins = finishes-are policies (running h) t.finishes m.0.finished k.finishes

  abbrev aa : List (CoreEvent O)
  aa = asks t m.0.finished m.0.exchanges

  abbrev so : List (CoreEvent O)
  so = es ++ aa

  abbrev settled : List (CoreEvent O)
  settled = so ++ Settled t.at ∷ []

  abbrev gg : List (CoreEvent O)
  gg = shut_if (gave_up w (exchanges_with h t m.0.exchanges)) t.at

  abbrev ended : List (CoreEvent O)
  ended = settled ++ gg

  abbrev taking : List (CoreEvent O)
  taking = takes t.at m.0.taken

  abbrev store_now : List O
  store_now = store_of w.key (exchanges_of 0 (exchanges_with h t m.0.exchanges))

  over-is : is_over w h t m.0.exchanges ≡ gave_up w (exchanges_with h t m.0.exchanges)
  over-is =
      ap (λ b. b || asks_shutdown t.shutdown || gave_up w (exchanges_with h t m.0.exchanges)) (asked.open-h w settings watched h t m.0.finished m.0.exchanges es k.valid fins k.asked n a c)
      ∙ ap (λ b. b || gave_up w (exchanges_with h t m.0.exchanges)) (asked.open-t w settings watched h t m.0.finished m.0.exchanges es k.valid fins k.asked n a c)

  to-takes : es ++ (aa ++ Settled t.at ∷ [] ++ gg) ≡ ended
  to-takes = sym (append_assoc es (aa ++ Settled t.at ∷ []) gg) ∙ ap (λ us. us ++ gg) (sym (append_assoc es aa (Settled t.at ∷ [])))

  split : es ++ (aa ++ Settled t.at ∷ [] ++ gg ++ taking) ≡ ended ++ taking
  split = sym (append_assoc es (aa ++ Settled t.at ∷ [] ++ gg) taking) ∙ ap (λ us. us ++ taking) to-takes

  -- What was answered, the shutdown, what runs and the clock.

  answers-settled : answers_in settled ≡ exchanges_with h t m.0.exchanges
  answers-settled = answers-append so (Settled t.at ∷ []) ∙ (append-nil (answers_in so) ∙ asked.answers-so w settings watched h t m.0.finished m.0.exchanges es k.valid fins k.asked n a c)

  answers-ended : answers_in ended ≡ exchanges_with h t m.0.exchanges
  answers-ended = answers-append settled gg ∙ (ap (λ ds. answers_in settled ++ ds) (seg.answers-shut (gave_up w (exchanges_with h t m.0.exchanges)) t.at) ∙ (append-nil (answers_in settled) ∙ answers-settled))

  answers-whole : answers_in (ended ++ taking) ≡ exchanges (h ++ step t m ∷ [])
  answers-whole = answers-append ended taking ∙ (ap (λ ds. answers_in ended ++ ds) (seg.answers-takes t.at m.0.taken) ∙ (append-nil (answers_in ended) ∙ (answers-ended ∙ sym (exchanges-push h t m))))

  open-so : was_shut so ≡ false
  open-so = asked.open-so w settings watched h t m.0.finished m.0.exchanges es k.valid fins k.asked n a c

  open-settled : was_shut settled ≡ false
  open-settled = shut-append so (Settled t.at ∷ []) ∙ ap (λ b. b || false) open-so

  shut-ended : was_shut ended ≡ gave_up w (exchanges_with h t m.0.exchanges)
  shut-ended = shut-append settled gg ∙ (ap (λ b. b || was_shut gg) open-settled ∙ seg.shut-shut O (gave_up w (exchanges_with h t m.0.exchanges)) t.at)

  shut-whole : was_shut (ended ++ taking) ≡ was_over w (h ++ step t m ∷ [])
  shut-whole =
      shut-append ended taking
      ∙ (ap (λ b. was_shut ended || b) (seg.shut-takes t.at m.0.taken)
      ∙ (or-false (was_shut ended)
      ∙ (shut-ended
      ∙ sym (
      ap (λ b. b || gave_up w (exchanges (h ++ step t m ∷ []))) (
      shut-is w settings watched policies h t m k
      ∙ (ap (λ b. b || (asks_shutdown t.shutdown || false)) (asked.open-h w settings watched h t m.0.finished m.0.exchanges es k.valid fins k.asked n a c)
      ∙ ap (λ b. b || false) (asked.open-t w settings watched h t m.0.finished m.0.exchanges es k.valid fins k.asked n a c)))
      ∙ ap (gave_up w) (exchanges-push h t m)))))

  running-ended : running_of ended ≡ running_in w h t
  running-ended =
      running-append settled gg
      ∙ (seg.running-shut (gave_up w (exchanges_with h t m.0.exchanges)) t.at (running_of settled)
      ∙ (running-append so (Settled t.at ∷ []) ∙ asked.running-so w settings watched h t m.0.finished m.0.exchanges es k.valid fins k.asked n a c))

  running-whole : running_of (ended ++ taking) ≡ running (h ++ step t m ∷ [])
  running-whole =
      running-append ended taking
      ∙ (seg.running-takes t.at m.0.taken (running_of ended) ∙ (ap (λ us. us ++ filter_map started m.0.taken) running-ended ∙ sym (running-push h (step t m))))

  clock-whole : clock_of (ended ++ taking) ≡ last_moment (h ++ step t m ∷ [])
  clock-whole =
      ap clock_of (sym (append_assoc ended (map (λ (u : Taken O). Took t.at (Some u)) m.0.taken) (Took t.at None ∷ [])))
      ∙ (clock-append (ended ++ map (λ (u : Taken O). Took t.at (Some u)) m.0.taken) (Took t.at None ∷ []) ∙ sym (moment-is w settings watched policies h t m k))

  -- The queue.

  abbrev reqs : List Timed
  reqs = requests_of_turn w (store_after w h) t m.0.finished m.0.exchanges

  queue-settled : queue_of (core_world w) settled ≡ events_of w h ++ turn_events w h t m.1 m.0.finished m.0.exchanges
  queue-settled =
      let q0 = queue_of (core_world w) es in
      queue-append (core_world w) [] so (Settled t.at ∷ [])
      ∙ (ap (λ b. queue_of (core_world w) so ++ (cond b [] (QueueSettled t.at ∷ []) ++ [])) open-so
      ∙ (ap (λ us. us ++ QueueSettled t.at ∷ []) (asked.queue-so w settings watched h t m.0.finished m.0.exchanges es k.valid fins k.asked n a c)
      ∙ (append_assoc q0 (map (asked_at t.at) reqs) (QueueSettled t.at ∷ [])
      ∙ (ap (λ us. us ++ requested_and_settled t.at reqs) a.queue
      ∙ (ap (λ (x : Stored O). events_of w h ++ requested_and_settled t.at (requests_of_turn w x.reloaded t m.0.finished m.0.exchanges)) (sym (reads-are w settings watched policies h t m k))
      ∙ sym (ap (λ b. events_of w h ++ cond b [] (requested_and_settled t.at (requests_of_turn w (stored_in w h t m.1 m.0.exchanges).reloaded t m.0.finished m.0.exchanges))) c))))))

  queue-ended : queue_of (core_world w) ended ≡ events_of w h ++ turn_events w h t m.1 m.0.finished m.0.exchanges
  queue-ended =
      queue-append (core_world w) [] settled gg
      ∙ (ap (λ us. queue_of (core_world w) settled ++ us) (shut-if-queue (core_world w) (gave_up w (exchanges_with h t m.0.exchanges)) settled t.at)
      ∙ (append-nil (queue_of (core_world w) settled) ∙ queue-settled))

  takes-ended : (b : Bool) → gave_up w (exchanges_with h t m.0.exchanges) ≡ b → queue_after (core_world w) ended taking ≡ took m.0.taken
  takes-ended true e = shut-queue (core_world w) ended taking (shut-ended ∙ e) ∙ sym (ap took (none-over w settings watched policies h t m k (over-is ∙ e)))
  takes-ended false e = takes-queue (core_world w) ended t.at m.0.taken (shut-ended ∙ e)

  queue-whole : queue_of (core_world w) (ended ++ taking) ≡ events_of w (h ++ step t m ∷ [])
  queue-whole =
      queue-append (core_world w) [] ended taking
      ∙ (ap (λ us. queue_of (core_world w) ended ++ us) (takes-ended (gave_up w (exchanges_with h t m.0.exchanges)) refl)
      ∙ (ap (λ us. us ++ took m.0.taken) queue-ended ∙ sym (events-push w h (step t m))))

  -- Replies.

  none-replies : next_taken (core_world w) ended ≡ None → m.0.taken ≡ [] → AreReplies (core_world w) ended taking
  none-replies i e = subst (λ us. AreReplies (core_world w) ended (takes t.at us)) (sym e) (sym i, tt)

  once : HasEachOnce same_message (waiting_in w h t m.1 m.0.finished m.0.exchanges)
  once =
      waiting-once same_message (seen_equiv (λ (m : Message). m.reference)) w.debounce (events_of w h ++ turn_events w h t m.1 m.0.finished m.0.exchanges)

  replies-taking : (g y : Bool) → gave_up w (exchanges_with h t m.0.exchanges) ≡ g → is_ready (exchanges_of 0 (exchanges_with h t m.0.exchanges)) ≡ y → AreReplies (core_world w) ended taking
  replies-taking true y e f = none-replies (none-shut (core_world w) ended (shut-ended ∙ e)) (none-over w settings watched policies h t m k (over-is ∙ e))
  replies-taking false false e f =
      none-replies (none-unready (core_world w) ended (ap (λ ds. is_ready (exchanges_of 0 ds)) answers-ended ∙ f))
      (taken-is w settings watched policies h t m k
      ∙ ap (λ b. if b && not (is_over w h t m.0.exchanges) then taken_of w.limit (found_in w.key store_now) (running_in w h t) (waiting_in w h t m.1 m.0.finished m.0.exchanges) else []) f)
  replies-taking false true e f =
      subst (λ us. AreReplies (core_world w) ended (takes t.at us)) (sym taken-all)
      (replies-takes (core_world w) t.at store_now ended 0 (waiting_in w h t m.1 m.0.finished m.0.exchanges) (running_in w h t)
      (taken_of w.limit (found_in w.key store_now) (running_in w h t) (waiting_in w h t m.1 m.0.finished m.0.exchanges))
      (ap (λ ds. is_ready (exchanges_of 0 ds)) answers-ended ∙ f) (shut-ended ∙ e) (ap (λ ds. store_of w.key (exchanges_of 0 ds)) answers-ended)
      running-ended (ap (waiting same_message w.debounce) queue-ended)
      (store-taken w.key w.limit store_now (waiting_in w h t m.1 m.0.finished m.0.exchanges) (running_in w h t) once))
    where
      taken-all : m.0.taken ≡ taken_of w.limit (found_in w.key store_now) (running_in w h t) (waiting_in w h t m.1 m.0.finished m.0.exchanges)
      taken-all =
          taken-is w settings watched policies h t m k
          ∙ (ap (λ b. if b && not (is_over w h t m.0.exchanges) then taken_of w.limit (found_in w.key store_now) (running_in w h t) (waiting_in w h t m.1 m.0.finished m.0.exchanges) else []) f
          ∙ ap (λ b. if not b then taken_of w.limit (found_in w.key store_now) (running_in w h t) (waiting_in w h t m.1 m.0.finished m.0.exchanges) else []) (over-is ∙ e))

  pub open-agrees : Agrees w (h ++ step t m ∷ []) (es ++ (before_takes w h t m.0.finished m.0.exchanges ++ takes t.at m.0.taken))
  open-agrees = subst (Agrees w (h ++ step t m ∷ [])) (sym split) (record {
    queue = queue-whole;
    running = running-whole;
    behind = let e = clock-whole in omega (arith, e);
    clock = λ e. clock-whole;
    shut = shut-whole;
    answers = answers-whole;
    store = ap (λ ds. store_of w.key (exchanges_of 0 ds)) answers-whole;
    fits = subst (EachFits w []) (sym (exchanges-push h t m)) (asked.fits-so w settings watched h t m.0.finished m.0.exchanges es k.valid fins k.asked n a c);
    legal = subst (AreLegal (core_world w) []) split (legal-append (core_world w) [] es (aa ++ Settled t.at ∷ [] ++ gg ++ taking) a.legal
        (legal-at (core_world w) t.at es (aa ++ Settled t.at ∷ [] ++ gg ++ taking) (asked.moment w settings watched h t m.0.finished m.0.exchanges es k.valid fins k.asked n a c) moments replies));
  })
    where
      both : (us vs : List (CoreEvent O)) → AllByRecursion (seg.IsAt t.at) us → AllByRecursion (seg.IsAt t.at) vs → AllByRecursion (seg.IsAt t.at) (us ++ vs)
      both us vs p q = all-append (seg.IsAt t.at) us vs p q

      moments : AllByRecursion (seg.IsAt t.at) (aa ++ Settled t.at ∷ [] ++ gg ++ taking)
      moments =
          both (aa ++ Settled t.at ∷ [] ++ gg) taking
          (both (aa ++ Settled t.at ∷ []) gg
          (both aa (Settled t.at ∷ []) (asked.moments-so w settings watched h t m.0.finished m.0.exchanges es k.valid fins k.asked n a c) (refl, tt))
          (seg.at-shut O (gave_up w (exchanges_with h t m.0.exchanges)) t.at))
          (seg.at-takes t.at m.0.taken)

      replies : AreReplies (core_world w) es (aa ++ Settled t.at ∷ [] ++ gg ++ taking)
      replies =
          replies-append (core_world w) es (aa ++ Settled t.at ∷ [] ++ gg) taking
          (replies-append (core_world w) es (aa ++ Settled t.at ∷ []) gg
          (replies-append (core_world w) es aa (Settled t.at ∷ []) (asked.replies-so w settings watched h t m.0.finished m.0.exchanges es k.valid fins k.asked n a c) (tt, tt))
          (replies-shut (core_world w) (es ++ (aa ++ Settled t.at ∷ [])) (gave_up w (exchanges_with h t m.0.exchanges)) t.at))
          (subst (λ us. AreReplies (core_world w) us taking) (sym to-takes) (replies-taking (gave_up w (exchanges_with h t m.0.exchanges)) (is_ready (exchanges_of 0 (exchanges_with h t m.0.exchanges))) refl refl))
