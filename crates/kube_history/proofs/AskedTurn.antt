-- An open turn up to its settle: its first exchanges, after events that agree with the history before.
use Rattle.std.proofs.Common.{◌≡◌, ◌≤◌, false, ◌||◌, List, [], ◌++◌, map, sym, ap, subst, ◌∙◌, append-nil, arith}
use Rattle.std.specs.List.{fold, AllByRecursion}
use Rattle.std.proofs.lemmas.List.Sums.{fold-append}
use Rattle.kube_model.specs.World.{World, Settings, Watched, feed_of}
use Rattle.kube_model.specs.History.{Message, Exchange, Turn, Finished, Step, dated, exchanges, exchanges_with, exchanges_of}
use Rattle.kube_model.specs.Store.{store_of}
use Rattle.kube_model.specs.Queue.{QueueEvent}
use Rattle.kube_model.specs.Pause.{gave_up}
use Rattle.kube_model.specs.Requests.{Timed, asked_at, requests_of_turn}
use Rattle.kube_model.specs.Stored.{store_after}
use Rattle.kube_model.specs.Shutdowns.{asks_shutdown, is_shut, is_closed}
use Rattle.kube_model.specs.Takes.{Running, running, runs, unfinished}
use Rattle.kube_model.specs.Turns.{running_in}
use Rattle.kube_model.specs.Traces.{IsValid, EachIsNext}
use Rattle.kube_model.specs.Named.{EachIsNamed, RootIsNamed}
use Rattle.kube_model.proofs.Alls.{or-left, or-right, all-append}
use Rattle.kube_history.specs.CoreWorld.{core_world}
use Rattle.kube_history.specs.CoreEvents.{CoreEvent, Answered, Requested, answers_in, was_shut, clock_of, running_with, running_of, queue_of, cache_of}
use Rattle.kube_history.specs.TurnEvents.{finish_event, reload_events, asks}
use Rattle.kube_history.specs.Agrees.{Agrees, AgreesSoFar, EachFits}
use Rattle.kube_history.proofs.Segments as seg
use Rattle.kube_history.proofs.Segments.{queue-append, running-append, answers-append, clock-append, AreReplies, replies-append, legal-append, legal-at}
use Rattle.kube_history.proofs.Asked.{are-asks, asks-open, asks-queue, asked-turn}
use Rattle.kube_history.proofs.Finishes.{running-finishes, replies-finishes}
use Rattle.kube_history.proofs.Answerable.{shaped}
use Rattle.kube_history.proofs.TurnParts.{replies-reload, replies-named, replies-answers, turn-fits, valid-is}

module _ {O B : Type 0} (w : World O B) (settings : Settings) (watched : feed_of w 0 ≡ Watched settings) (h : List (Step O)) (t : Turn) (fs : List Finished) (xs : List (Exchange O)) (es : List (CoreEvent O)) (v : IsValid h t) (z : map (λ (f : Finished). f.finish) fs ≡ t.finishes) (k : EachIsNext w h t [] xs) (n : EachIsNamed w (RootIsNamed w) h t [] xs) (a : Agrees w h es) (c : is_closed w h t ≡ false) where
  open-both : is_shut h || asks_shutdown t.shutdown ≡ false
  open-both = or-left (is_shut h || asks_shutdown t.shutdown) (gave_up w (exchanges h)) c

  pub open-h : is_shut h ≡ false
  open-h = or-left (is_shut h) (asks_shutdown t.shutdown) open-both

  pub open-t : asks_shutdown t.shutdown ≡ false
  open-t = or-right (is_shut h) (asks_shutdown t.shutdown) open-both

  open-g : gave_up w (exchanges h) ≡ false
  open-g = or-right (is_shut h || asks_shutdown t.shutdown) (gave_up w (exchanges h)) c

  open-es : was_shut es ≡ false
  open-es = a.shut ∙ (ap (λ b. b || gave_up w (exchanges h)) open-h ∙ open-g)

  pub moment : clock_of es ≤ t.at
  moment = let m = (valid-is w h t v).0 in let e = a.behind in omega (arith, m, e)

  abbrev ff : List (CoreEvent O)
  ff = map (finish_event t.at) fs

  abbrev rr : List (CoreEvent O)
  rr = reload_events t.at t.reload

  abbrev nn : List (CoreEvent O)
  nn = map (Requested t.at) t.on

  abbrev xx : List (CoreEvent O)
  xx = map (Answered t.at) xs

  abbrev aa : List (CoreEvent O)
  aa = asks t fs xs

  abbrev so : List (CoreEvent O)
  so = es ++ asks t fs xs

  -- What was answered.

  answers-f : answers_in (es ++ map (finish_event t.at) fs) ≡ answers_in es
  answers-f = answers-append es (map (finish_event t.at) fs) ∙ (ap (λ ds. answers_in es ++ ds) (seg.answers-finishes t.at fs) ∙ append-nil (answers_in es))

  answers-frn : answers_in (ff ++ rr ++ nn) ≡ []
  answers-frn =
      answers-append (ff ++ rr) nn
      ∙ (ap (λ ds. ds ++ answers_in nn) (answers-append ff rr ∙ (ap (λ ds. ds ++ answers_in rr) (seg.answers-finishes t.at fs) ∙ seg.answers-reload t.at t.reload))
      ∙ seg.answers-named t.at t.on)

  answers-aa : answers_in aa ≡ dated t.at xs
  answers-aa = answers-append (ff ++ rr ++ nn) xx ∙ (ap (λ ds. ds ++ answers_in xx) answers-frn ∙ seg.answers-answers t.at xs)

  pub answers-so : answers_in so ≡ exchanges_with h t xs
  answers-so = answers-append es aa ∙ (ap (λ ds. ds ++ answers_in aa) a.answers ∙ ap (λ ds. exchanges h ++ ds) answers-aa)

  pub open-so : was_shut so ≡ false
  open-so = asks-open t.at es aa (are-asks t fs xs) open-es

  -- What runs.

  running-aa : (rs : List (Running O)) → fold running_with rs aa ≡ unfinished rs t.finishes
  running-aa rs =
      fold-append running_with rs (ff ++ rr ++ nn) xx
      ∙ (seg.running-answers t.at xs (fold running_with rs (ff ++ rr ++ nn))
      ∙ (fold-append running_with rs (ff ++ rr) nn
      ∙ (seg.running-named t.at t.on (fold running_with rs (ff ++ rr))
      ∙ (fold-append running_with rs ff rr
      ∙ (seg.running-reload t.at t.reload (fold running_with rs ff)
      ∙ (running-finishes t.at fs rs ∙ ap (unfinished rs) z))))))

  pub running-so : running_of so ≡ running_in w h t
  running-so = running-append es aa ∙ (running-aa (running_of es) ∙ ap (λ us. unfinished us t.finishes) a.running)

  -- The queue.

  abbrev q0 : List (QueueEvent Message)
  q0 = queue_of (core_world w) es

  abbrev reqs : List Timed
  reqs = requests_of_turn w (store_after w h) t fs xs

  store-f : cache_of (core_world w) (es ++ map (finish_event t.at) fs) ≡ store_after w h
  store-f = ap (λ ds. store_of w.key (exchanges_of 0 ds)) (answers-f ∙ a.answers)

  pub queue-so : queue_of (core_world w) so ≡ q0 ++ map (asked_at t.at) reqs
  queue-so =
      queue-append (core_world w) [] es aa
      ∙ ap (λ us. q0 ++ us)
      (asks-queue (core_world w) es t.at aa (are-asks t fs xs) open-es ∙ ap (map (asked_at t.at)) (asked-turn w es t fs xs (store_after w h) store-f))

  -- Replies and moments.

  fits-h : EachFits w [] (exchanges_with h t [])
  fits-h = subst (EachFits w []) (sym (append-nil (exchanges h))) a.fits

  pub fits-so : EachFits w [] (exchanges_with h t xs)
  fits-so = turn-fits w h t [] xs fits-h k

  pub replies-so : AreReplies (core_world w) es aa
  replies-so =
      let core = core_world w in
      replies-append core es (ff ++ rr ++ nn) xx
      (replies-append core es (ff ++ rr) nn
      (replies-append core es ff rr
      (replies-finishes core t.at (running h) t.finishes fs [] 0 es z (valid-is w h t v).1 (λ q u y. ap (λ us. runs us q) a.running ∙ u))
      (replies-reload core (es ++ ff) t.at t.reload))
      (replies-named core (es ++ (ff ++ rr)) t.at t.on))
      (replies-answers w settings watched h t [] xs (es ++ (ff ++ rr ++ nn))
      (answers-append es (ff ++ rr ++ nn) ∙ (ap (λ ds. answers_in es ++ ds) answers-frn ∙ ap (λ ds. ds ++ []) a.answers)) (shaped w (exchanges_with h t []) fits-h) k n)

  both : (us vs : List (CoreEvent O)) → AllByRecursion (seg.IsAt t.at) us → AllByRecursion (seg.IsAt t.at) vs → AllByRecursion (seg.IsAt t.at) (us ++ vs)
  both us vs p q = all-append (seg.IsAt t.at) us vs p q

  pub moments-so : AllByRecursion (seg.IsAt t.at) aa
  moments-so = both (ff ++ rr ++ nn) xx (both (ff ++ rr) nn (both ff rr (seg.at-finishes O t.at fs) (seg.at-reload O t.at t.reload)) (seg.at-named O t.at t.on)) (seg.at-answers t.at xs)

  clock-so : clock_of so ≤ t.at
  clock-so = let e = clock-append es aa in let b = seg.clock-at t.at aa (clock_of es) moment moments-so in omega (arith, e, b)

  -- all of it
  pub agrees-so : AgreesSoFar w h t fs xs so
  agrees-so = record {
    queue = queue-so ∙ ap (λ us. us ++ map (asked_at t.at) reqs) a.queue;
    running = running-so;
    shut = open-so;
    answers = answers-so;
    fits = fits-so;
    legal = legal-append (core_world w) [] es aa a.legal (legal-at (core_world w) t.at es aa moment moments-so replies-so);
    behind = clock-so;
  }
