-- Over a trace: what may run, and what follows a shutdown.
use Rattle.std.proofs.Common.{◌≡◌, ◌==◌, Bool, true, false, not, ◌&&◌, ◌||◌, List, [], ◌∷◌, ◌++◌, length, is_some, if◌then◌else◌, refl, sym, ap, subst, ◌∙◌, inr, append_assoc, append-nil, arith, ℕ, ◌+◌, Option}
use Rattle.std.specs.List.{filter_map}
use Rattle.std.proofs.Math.Bool.{or-true}
use Rattle.std.proofs.lemmas.Bool.{false≢true}
use Rattle.std.proofs.lemmas.List.Folds.{list_any-append}
use Rattle.kube_model.specs.World.{World, feed_of}
use Rattle.kube_model.specs.History.{Turn, Taken, TurnRecord, Step, exchanges, exchanges_with}
use Rattle.kube_model.specs.Pause.{gave_up}
use Rattle.kube_model.specs.Requests.{waiting_in}
use Rattle.kube_model.specs.Stored.{stored_in, may_take}
use Rattle.kube_model.specs.Shutdowns.{asks_shutdown, is_forced, is_shut, is_over}
use Rattle.kube_model.specs.Takes.{running, is_finished, started, taken_of}
use Rattle.kube_model.specs.Turns.{running_in, is_idle_after}
use Rattle.kube_model.specs.Traces.{Made, step, steps, has_ended, IsRecord, IsTrace}
use Rattle.kube_model.proofs.Histories.{exchanges-push, running-push}
use Rattle.kube_history.specs.TurnEvents.{was_over}
use Rattle.kube_history.specs.Running.{MayRun, EachShutsDown}
use Rattle.kube_history.specs.TurnCalls.{look_by, TakesBy}
use Rattle.kube_history.proofs.TurnCalls.{calls-of}
use Rattle.kube_history.proofs.OneAtATime.{fewer-may, takes-may}

module _ {O B : Type 0} (w : World O B) where
  module _ (policies : ℕ → O → Option ℕ) (h : List (Step O)) (t : Turn) (m : Made O) (k : IsRecord w policies h t m) where
    taken-is : m.0.taken ≡ (if may_take w h t m.1 m.0.exchanges then taken_of w.limit (stored_in w h t m.1 m.0.exchanges).found_of (running_in w h t) (waiting_in w h t m.1 m.0.finished m.0.exchanges) else [])
    taken-is = ap (λ (q : TurnRecord O). q.taken) k.determined

    turn-may : MayRun w.limit (running h) → MayRun w.limit (running (h ++ step t m ∷ []))
    turn-may r = subst (MayRun w.limit) (sym (running-push h (step t m))) (go (may_take w h t m.1 m.0.exchanges) (calls-of w h t m.1 m.0.finished m.0.exchanges policies m.0 refl refl k).takes)
      where
        left : MayRun w.limit (running_in w h t)
        left = fewer-may w.limit (λ p. not (is_finished t.finishes p.reference)) (running h) r

        go : (b : Bool) → TakesBy w h t m.1 m.0.finished m.0.exchanges (feed_of w 0) b m.0.taken → MayRun w.limit (running_in w h t ++ filter_map started m.0.taken)
        go true a =
            takes-may w.limit (look_by w h t m.1 m.0.finished m.0.exchanges (feed_of w 0)) 0 (waiting_in w h t m.1 m.0.finished m.0.exchanges) (running_in w h t) m.0.taken a left
        go false e = subst (λ ts. MayRun w.limit (running_in w h t ++ filter_map started ts)) (sym e) (subst (MayRun w.limit) (sym (append-nil (running_in w h t))) left)

    -- Shutdown.

    over-is : was_over w (h ++ step t m ∷ []) ≡ is_over w h t m.0.exchanges
    over-is =
        ap (λ b. b || gave_up w (exchanges (h ++ step t m ∷ []))) (list_any-append (λ (u : Step O). asks_shutdown u.turn.shutdown) h (step t m ∷ []))
        ∙ (ap (λ ds. (is_shut h || (asks_shutdown t.shutdown || false)) || gave_up w ds) (exchanges-push h t m) ∙ three (is_shut h) (asks_shutdown t.shutdown) (gave_up w (exchanges_with h t m.0.exchanges)))
      where
        three : (p q g : Bool) → (p || (q || false)) || g ≡ p || q || g
        three true q g = refl
        three false true g = refl
        three false false g = refl

    none-taken : was_over w (h ++ step t m ∷ []) ≡ true → m.0.taken ≡ []
    none-taken o = taken-is ∙ (ap (λ b. if (stored_in w h t m.1 m.0.exchanges).is_ready && not b then some else []) (sym over-is ∙ o) ∙ go (stored_in w h t m.1 m.0.exchanges).is_ready)
      where
        some : List (Taken O)
        some = taken_of w.limit (stored_in w h t m.1 m.0.exchanges).found_of (running_in w h t) (waiting_in w h t m.1 m.0.finished m.0.exchanges)

        go : (b : Bool) → (if b && false then some else []) ≡ []
        go true = refl
        go false = refl

    abbrev failed : Bool
    failed = is_some (stored_in w h t m.1 m.0.exchanges).failure

    ended-is : m.0.ended ≡ is_forced t.shutdown || is_over w h t m.0.exchanges && is_idle_after w h t m.0.taken || failed
    ended-is =
        ap (λ (q : TurnRecord O). q.ended) k.determined
        ∙ ap (λ ts. is_forced t.shutdown || is_over w h t m.0.exchanges && is_idle_after w h t ts || failed) (sym (ap (λ (q : TurnRecord O). q.taken) k.determined))

    forced-ends : is_forced t.shutdown ≡ true → m.0.ended ≡ true
    forced-ends f = ended-is ∙ ap (λ b. b || is_over w h t m.0.exchanges && is_idle_after w h t m.0.taken || failed) f

    idle-ends : was_over w (h ++ step t m ∷ []) ≡ true → running (h ++ step t m ∷ []) ≡ [] → m.0.ended ≡ true
    idle-ends o e =
        ended-is
        ∙ (ap (λ b. is_forced t.shutdown || b && is_idle_after w h t m.0.taken || failed) (sym over-is ∙ o)
        ∙ (ap (λ b. is_forced t.shutdown || b || failed) (ap (λ us. length us == 0) (sym (running-push h (step t m)) ∙ e))
        ∙ ap (λ b. b || failed) (or-true (is_forced t.shutdown))))

  pub trace-may : (policies : ℕ → ℕ → O → Option ℕ) (h : List (Step O)) (ts : List Turn) (ms : List (Made O)) → IsTrace w policies h ts ms → MayRun w.limit (running h)
      → MayRun w.limit (running (h ++ steps ts ms))
  trace-may policies h [] ms k r = subst (λ g. MayRun w.limit (running g)) (sym (append-nil h)) r
  trace-may policies h (t ∷ ts) [] k r = subst (λ g. MayRun w.limit (running g)) (sym (append-nil h)) r
  trace-may policies h (t ∷ ts) (m ∷ ms) k r =
      subst (λ g. MayRun w.limit (running g)) (append_assoc h (step t m ∷ []) (steps ts ms)) (trace-may (λ n. policies (n + 1)) (h ++ step t m ∷ []) ts ms k.2 (turn-may (policies 0) h t m k.1 r))

  none-after : (policies : ℕ → ℕ → O → Option ℕ) (h : List (Step O)) (t : Turn) (m : Made O) (ts : List Turn) (ms : List (Made O)) → IsTrace w policies (h ++ step t m ∷ []) ts ms → m.0.ended ≡ true
      → steps ts ms ≡ []
  none-after policies h t m [] ms k e = refl
  none-after policies h t m (u ∷ ts) [] k e = refl
  none-after policies h t m (u ∷ ts) (n ∷ ms) k e =
      let now : has_ended (h ++ step t m ∷ []) ≡ true =
      list_any-append (λ (s : Step O). s.made.ended) h (step t m ∷ []) ∙ (ap (λ b. has_ended h || (b || false)) e ∙ or-true (has_ended h)) in
      absurd (false≢true (sym k.0 ∙ now))

  pub each-shuts : (policies : ℕ → ℕ → O → Option ℕ) (h : List (Step O)) (ts : List Turn) (ms : List (Made O)) → IsTrace w policies h ts ms → EachShutsDown w h (steps ts ms)
  each-shuts policies h [] ms k = tt
  each-shuts policies h (t ∷ ts) [] k = tt
  each-shuts policies h (t ∷ ts) (m ∷ ms) k = (
    record {
      none_taken = none-taken (policies 0) h t m k.1;
      idle = idle-ends (policies 0) h t m k.1;
      forced = forced-ends (policies 0) h t m k.1;
      ends = none-after (λ n. policies (n + 1)) h t m ts ms k.2;
    },
    each-shuts (λ n. policies (n + 1)) (h ++ step t m ∷ []) ts ms k.2,
  )

  pub none-runs : MayRun {O = O} w.limit []
  none-runs = record { once = tt; within = inr (omega arith) }
