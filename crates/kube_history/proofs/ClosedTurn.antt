-- A closed turn: its shutdown, where it is the first, and its finishes agree with it.
use Rattle.std.proofs.Common.{◌≡◌, ℕ, ◌≤◌, Bool, true, false, not, cond, ◌&&◌, ◌||◌, List, [], ◌∷◌, ◌++◌, map, Option, if◌then◌else◌, refl, sym, ap, subst, ◌∙◌, append_assoc, append-nil, arith}
use Rattle.std.specs.List.{filter_map}
use Rattle.std.specs.Option.{option_map_or}
use Rattle.std.proofs.Math.Bool.{or-true}
use Rattle.std.proofs.lemmas.Bool.{false≢true}
use Rattle.std.proofs.lemmas.List.Folds.{list_any-append}
use Rattle.kube_model.specs.World.{World, Settings, Watched, feed_of}
use Rattle.kube_model.specs.History.{Dated, Turn, Finished, TurnRecord, Step, Taken, exchanges, exchanges_with, exchanges_of}
use Rattle.kube_model.specs.Store.{is_ready, store_of}
use Rattle.kube_model.specs.Pause.{gave_up}
use Rattle.kube_model.specs.Requests.{requested_and_settled, requests_of_turn, took, events_of, waiting_in}
use Rattle.kube_model.specs.Shutdowns.{asks_shutdown, is_shut, is_over, is_closed}
use Rattle.kube_model.specs.Stored.{Stored, stored_in, stored_by}
use Rattle.kube_model.specs.Takes.{found_in, running, runs, unfinished, started, taken_of}
use Rattle.kube_model.specs.Turns.{running_in}
use Rattle.kube_model.specs.Traces.{Made, last_moment, step, IsRecord}
use Rattle.kube_model.proofs.Lasts.{last-push}
use Rattle.kube_model.proofs.Histories.{exchanges-push, running-push, events-push}
use Rattle.kube_history.specs.CoreWorld.{core_world}
use Rattle.kube_history.specs.CoreEvents.{CoreEvent, Shut, answers_in, was_shut, clock_of, running_of, queue_after, queue_of}
use Rattle.kube_history.specs.TurnEvents.{finish_event, shut_if, was_over, closing}
use Rattle.kube_history.specs.Legal.{AreLegal}
use Rattle.kube_history.specs.Agrees.{Agrees, EachFits}
use Rattle.kube_history.proofs.Segments as seg
use Rattle.kube_history.proofs.Segments.{queue-append, shut-append, running-append, clock-append, answers-append, legal-append, legal-at}
use Rattle.kube_history.proofs.Finishes.{finishes-are, running-finishes, replies-finishes}
use Rattle.kube_history.proofs.TurnParts.{no-more, shut-queue, valid-is, none-made}

module _ {O B : Type 0} (w : World O B) (settings : Settings) (watched : feed_of w 0 ≡ Watched settings) (policies : ℕ → O → Option ℕ) (h : List (Step O)) (t : Turn) (m : Made O) (k : IsRecord w policies h t m) where
  abbrev all : List (Dated O)
  all = exchanges_with h t m.0.exchanges

  abbrev store_now : List O
  store_now = store_of w.key (exchanges_of 0 all)

  pub reads-are : stored_in w h t m.1 m.0.exchanges ≡ stored_by w (Watched settings) h t m.1 m.0.exchanges
  reads-are = ap (λ f. stored_by w f h t m.1 m.0.exchanges) watched

  pub taken-is : m.0.taken
      ≡ (if is_ready (exchanges_of 0 all) && not (is_over w h t m.0.exchanges) then taken_of w.limit (found_in w.key store_now) (running_in w h t) (waiting_in w h t m.1 m.0.finished m.0.exchanges) else [])
  taken-is =
      ap (λ (q : TurnRecord O). q.taken) k.determined
      ∙ ap (λ (x : Stored O). if x.is_ready && not (is_over w h t m.0.exchanges) then taken_of w.limit x.found_of (running_in w h t) (waiting_in w h t m.1 m.0.finished m.0.exchanges) else []) reads-are

  pub none-over : is_over w h t m.0.exchanges ≡ true → m.0.taken ≡ []
  none-over o =
      taken-is
      ∙ (ap (λ b. if is_ready (exchanges_of 0 all) && not b then some else []) o ∙ go (is_ready (exchanges_of 0 all)))
    where
      some : List (Taken O)
      some = taken_of w.limit (found_in w.key store_now) (running_in w h t) (waiting_in w h t m.1 m.0.finished m.0.exchanges)

      go : (b : Bool) → (if b && false then some else []) ≡ []
      go true = refl
      go false = refl

  pub moment-is : last_moment (h ++ step t m ∷ []) ≡ t.at
  moment-is = ap (λ o. option_map_or (λ (u : Step O). u.turn.at) o 0) (last-push h (step t m))

  pub shut-is : is_shut (h ++ step t m ∷ []) ≡ is_shut h || (asks_shutdown t.shutdown || false)
  shut-is = list_any-append (λ (u : Step O). asks_shutdown u.turn.shutdown) h (step t m ∷ [])

  module _ (es : List (CoreEvent O)) (a : Agrees w h es) (c : is_closed w h t ≡ true) where
    fins : map (λ (g : Finished). g.finish) m.0.finished ≡ t.finishes
    fins = finishes-are policies (running h) t.finishes m.0.finished k.finishes

    none : m.0.exchanges ≡ []
    none = none-made w h t c m.0.exchanges k.asked

    all-is : exchanges_with h t m.0.exchanges ≡ exchanges h
    all-is = ap (exchanges_with h t) none ∙ append-nil (exchanges h)

    over : is_over w h t m.0.exchanges ≡ true
    over = ap (λ ds. is_shut h || asks_shutdown t.shutdown || gave_up w ds) all-is ∙ c

    abbrev f : List (CoreEvent O)
    f = map (finish_event t.at) m.0.finished

    moment : clock_of es ≤ t.at
    moment = let m = (valid-is w h t k.valid).0 in let e = a.behind in omega (arith, m, e)

    over-then : was_over w (h ++ step t m ∷ []) ≡ true
    over-then =
        ap (λ b. b || gave_up w (exchanges (h ++ step t m ∷ []))) shut-is
        ∙ (ap (λ ds. (is_shut h || (asks_shutdown t.shutdown || false)) || gave_up w ds) (exchanges-push h t m ∙ all-is)
        ∙ (three (is_shut h) (asks_shutdown t.shutdown) (gave_up w (exchanges h)) ∙ c))
      where
        three : (p q g : Bool) → (p || (q || false)) || g ≡ p || q || g
        three true q g = refl
        three false true g = refl
        three false false g = refl

    -- with any shutdowns
    closed-by : (ss : List (CoreEvent O)) → was_shut (es ++ ss) ≡ true → answers_in ss ≡ [] → running_of (es ++ ss) ≡ running_of es
        → queue_after (core_world w) es ss ≡ []
        → AreLegal (core_world w) es ss → clock_of (es ++ ss) ≤ t.at → Agrees w (h ++ step t m ∷ []) ((es ++ ss) ++ f)
    closed-by ss shut-now none-answered same-running same-queue legal-ss l = record {
      queue =
          queue-append (core_world w) [] (es ++ ss) f
          ∙ (ap (λ us. queue_of (core_world w) (es ++ ss) ++ us) (shut-queue (core_world w) (es ++ ss) f shut-now)
          ∙ (append-nil (queue_of (core_world w) (es ++ ss))
          ∙ (queue-append (core_world w) [] es ss
          ∙ (ap (λ us. queue_of (core_world w) es ++ us) same-queue
          ∙ (append-nil (queue_of (core_world w) es)
          ∙ (a.queue
          ∙ sym (
          events-push w h (step t m)
          ∙ (ap (λ b. events_of w h ++ cond b [] (requested_and_settled t.at (requests_of_turn w (stored_in w h t m.1 m.0.exchanges).reloaded t m.0.finished m.0.exchanges)) ++ took m.0.taken) c
          ∙ (ap (λ us. events_of w h ++ [] ++ took us) (none-over over) ∙ (append-nil (events_of w h ++ []) ∙ append-nil (events_of w h)))))))))));
      running =
          running-append (es ++ ss) f
          ∙ (running-finishes t.at m.0.finished (running_of (es ++ ss))
          ∙ (ap (λ us. unfinished us (map (λ (g : Finished). g.finish) m.0.finished)) (same-running ∙ a.running)
          ∙ (ap (unfinished (running h)) fins
          ∙ sym (running-push h (step t m) ∙ (ap (λ us. unfinished (running h) t.finishes ++ filter_map started us) (none-over over) ∙ append-nil (unfinished (running h) t.finishes))))));
      shut = shut-whole ∙ sym over-then;
      answers = answers-are;
      store = ap (λ ds. store_of w.key (exchanges_of 0 ds)) answers-are;
      fits = subst (EachFits w []) (sym (exchanges-push h t m ∙ all-is)) a.fits;
      legal =
          legal-append (core_world w) [] (es ++ ss) f (legal-append (core_world w) [] es ss a.legal legal-ss)
          (legal-at (core_world w) t.at (es ++ ss) f l (seg.at-finishes O t.at m.0.finished)
          (replies-finishes (core_world w) t.at (running h) t.finishes m.0.finished [] 0 (es ++ ss) fins (valid-is w h t k.valid).1
          (λ q u v. ap (λ us. runs us q) (same-running ∙ a.running) ∙ u)));
      behind = let i = moment-is in let e = clock-append (es ++ ss) f in let n = seg.clock-behind O t.at m.0.finished (clock_of (es ++ ss)) l in omega (arith, i, e, n);
      clock = λ e. absurd (false≢true (sym e ∙ shut-whole));
    }
      where
        shut-whole : was_shut ((es ++ ss) ++ f) ≡ true
        shut-whole = shut-append (es ++ ss) f ∙ ap (λ b. b || was_shut f) shut-now

        answers-are : answers_in ((es ++ ss) ++ f) ≡ exchanges (h ++ step t m ∷ [])
        answers-are =
            answers-append (es ++ ss) f
            ∙ (ap (λ ds. answers_in (es ++ ss) ++ ds) (seg.answers-finishes t.at m.0.finished)
            ∙ (append-nil (answers_in (es ++ ss))
            ∙ (answers-append es ss ∙ (ap (λ ds. answers_in es ++ ds) none-answered ∙ (append-nil (answers_in es) ∙ (a.answers ∙ sym (exchanges-push h t m ∙ all-is)))))))

    shut-at : (at : ℕ) → clock_of es ≤ at → at ≤ t.at → Agrees w (h ++ step t m ∷ []) ((es ++ Shut at ∷ []) ++ f)
    shut-at at low high =
        closed-by (Shut at ∷ []) (shut-append es (Shut at ∷ []) ∙ or-true (was_shut es)) refl (running-append es (Shut at ∷ [])) (no-more (was_shut es))
        (record { moment = low; reply = tt }, tt) (let e = clock-append es (Shut at ∷ []) in omega (arith, e, high))

    pub closed-agrees : Agrees w (h ++ step t m ∷ []) (es ++ closing w h t m.0.finished)
    closed-agrees = subst (Agrees w (h ++ step t m ∷ [])) (append_assoc es (shut_if (not (was_over w h)) (last_moment h)) f) (go (was_over w h) refl)
      where
        go : (b : Bool) → was_over w h ≡ b → Agrees w (h ++ step t m ∷ []) ((es ++ shut_if (not b) (last_moment h)) ++ f)
        go true e =
            closed-by [] (ap was_shut (append-nil es) ∙ (a.shut ∙ e)) refl (ap running_of (append-nil es)) refl tt
            (let g = ap clock_of (append-nil es) in let m = moment in omega (arith, g, m))
        go false e = shut-at (last_moment h) a.behind (valid-is w h t k.valid).0
