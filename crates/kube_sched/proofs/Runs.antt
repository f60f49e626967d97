-- What runs, and what is started.
use Rattle.std.proofs.Common.{◌≡◌, ◌↔◌, ℕ, ◌+◌, ◌-◌, ◌≤◌, ◌==◌, nat_lt, Bool, true, false, not, ◌&&◌, ◌||◌, cond, if◌then◌else◌, List, [], ◌∷◌, ◌++◌, length, Option, Some, None, is_some, refl, sym, ap, subst, ◌∙◌, ◌⊎◌, inl, inr, append_assoc, append-nil, arith, OnErr, Result, Ok, Err}
use Rattle.std.specs.List.{IsDistinct}
use Rattle.std.specs.Map.{lookup, remove_entry, keys_of}
use Rattle.std.specs.Cmp.{IsEquivalence}
use Rattle.std.proofs.lemmas.Map.{lookup-remove_entry}
use Rattle.std.proofs.lemmas.List.{length-append}
use Rattle.std.proofs.lemmas.Bool.Decides.{nat_tests}
use Rattle.indexmap.specs.IndexMap.{insert_entry}
use Rattle.kube_meta.specs.declared.moment.Moment.{Moment}
use Rattle.kube_meta.specs.declared.poll.Next.{Next}
use Rattle.kube_meta.specs.declared.poll.Next.TheVariants.{Item, NotReady, Spent, End}
use Rattle.kube_sched.specs.declared.asks.Ending.{Ending}
use Rattle.kube_sched.specs.declared.asks.Ending.TheVariants.{Filled, Waits, Ends}
use Rattle.kube_sched.specs.Polls.{Stream, Answer, requests_in, is_end, CountedPoll, Lost}
use Rattle.kube_sched.specs.Runs.{Runs, has_room, IsWithin, runs, MayStart, ending_by, Starts, SchedulerLost, StartsUntilLost, Started, StartLost, StartsAll, StartsAllUntilLost, ReadinessPolled, RunnerPolled, Course, Over, Gave, Failed, Went, Follows, answer_after, answer_of, IsAtEnd}
use Rattle.kube_sched.specs.declared.runner.Error.{Error}
use Rattle.kube_sched.specs.declared.runner.Error.TheVariants.{Readiness}
use Rattle.kube_sched.specs.Futures.{AllPending, FirstReady}
use Rattle.futures.specs.declared.task.Poll.{Poll}
use Rattle.kube_sched.proofs.Futures.{length-pending, length-first, first-some}

module _ {M F : Type 0} (same : M → M → Bool) where
  -- a message of which no equal one runs goes last
  pub put-absent : (es : List (M × F)) (k : M) (f : F) → runs same k es ≡ false → insert_entry same es k f ≡ es ++ (k, f) ∷ []
  put-absent [] k f h = refl
  put-absent (e ∷ es) k f h = go (same k e.0) h (put-absent es k f)
    where
      go : (b : Bool) → is_some (cond b (Some e.1) (lookup (same k) es)) ≡ false → (runs same k es ≡ false → insert_entry same es k f ≡ es ++ (k, f) ∷ [])
          → (if b then (e.0, f) ∷ es else e ∷ insert_entry same es k f) ≡ e ∷ (es ++ (k, f) ∷ [])
      go true h r = absurd (cc)
      go false h r = ap (λ xs. e ∷ xs) (r h)

room-within : (limit count : ℕ) → ((limit == 0) || nat_lt count limit) ≡ true → (limit ≡ 0) ⊎ (count + 1 ≤ limit)
room-within limit count h = grind (arith, nat_tests)

pub within-room : {M F : Type 0} (limit : ℕ) (es : List (M × F)) (e : M × F) → has_room limit es ≡ true → IsWithin limit (es ++ e ∷ [])
within-room limit es e h =
    subst (λ n. (limit ≡ 0) ⊎ (n ≤ limit)) (sym (length-append es (e ∷ []))) (room-within limit (length es) h)

length-removed : {M F : Type 0} (test : M → Bool) (es : List (M × F)) → length (remove_entry test es) ≤ length es
length-removed test [] = omega arith
length-removed test (e ∷ es) = go (test e.0) (length-removed test es)
  where
    go : (b : Bool) → length (remove_entry test es) ≤ length es → length (cond b es (e ∷ remove_entry test es)) ≤ length (e ∷ es)
    go true r = omega arith
    go false r = omega arith

pub within-removed : {M F : Type 0} (limit : ℕ) (test : M → Bool) (es : List (M × F)) → IsWithin limit es → IsWithin limit (remove_entry test es)
within-removed limit test es (inl z) = inl z
within-removed limit test es (inr w) = inr (let l = length-removed test es in omega arith)

-- a message that was taken out runs no more
pub runs-removed : {M F : Type 0} (same : M → M → Bool) → IsEquivalence same → (m : M) (es : List (M × F)) → IsDistinct same (keys_of es)
    → runs same m (remove_entry (same m) es) ≡ false
runs-removed same laws m es d =
    ap is_some (lookup-remove_entry laws (same m) (laws.congr m) m es d ∙ ap (λ b. cond b None (lookup (same m) es)) (laws.refl m))

-- a message that may be started: some may, and no equal one runs
pub may-room : (a b : Bool) → true ≡ (a && not b) → a ≡ true
may-room true b h = refl
may-room false b h = absurd (cc)

pub may-absent : (a b : Bool) → true ≡ (a && not b) → b ≡ false
may-absent true true h = absurd (cc)
may-absent true false h = refl
may-absent false b h = absurd (cc)

pub not-true : (b : Bool) → not b ≡ true → b ≡ false
not-true true h = absurd (cc)
not-true false h = refl

pub both-left : (a b : Bool) → a && b ≡ true → a ≡ true
both-left true b h = refl
both-left false b h = absurd (cc)

pub both-right : (a b : Bool) → a && b ≡ true → b ≡ true
both-right true b h = h
both-right false b h = absurd (cc)

pub started-by : {M R F C G : Type 0} (made_by : C → M → F → C → Type 0) (m : M) (f : F) (r1 r r' : Runs M R F C G) → r1 ≡ r → made_by r1.makes m f r'.makes
    → r'.running ≡ r1.running ++ (m, f) ∷ [] → r' ≡ record r1 { makes = r'.makes; running = r'.running } → Started made_by m r r'
started-by made_by m f r1 r r' e call run rest =
    subst (λ x. Started made_by m x r') e
    (record { future = f; made = call; rest = rest ∙ ap (λ xs. record r1 { makes = r'.makes; running = xs }) run })

pub start-lost-by : {M R F C G : Type 0} (made_by : C → M → F → C → Type 0) (m : M) (f : F) (r1 r r' : Runs M R F C G) → r1 ≡ r → made_by r1.makes m f r'.makes
    → r'.running ≡ r1.running → r' ≡ record r1 { makes = r'.makes; running = r'.running } → StartLost made_by m r r'
start-lost-by made_by m f r1 r r' e call run rest =
    subst (λ x. StartLost made_by m x r') e
    (record { future = f; made = call; rest = rest ∙ ap (λ xs. record r1 { makes = r'.makes; running = xs }) run })

-- memory was wanting in the scheduler now or before
module _ {M R : Type 0} (same : M → M → Bool) (told : R → Option (List (Answer M))) (now : Moment) (fuel : ℕ) where
  lost-by : (s s' : Stream M R) (spent : Bool) → s.is_spent ≡ spent → s'.is_spent ≡ true → (s.is_spent ≡ false → Lost same told now fuel s s') → (s.is_spent ≡ true → s' ≡ s)
      → SchedulerLost same told now fuel s s'
  lost-by s s' false e spent lost unchanged = inl (e, lost e, spent)
  lost-by s s' true e spent lost unchanged = inr (e, unchanged e)

  pub scheduler-lost : {A N : Type 0} (s1 s s' : Stream M R) (r : Result A N) → s1 ≡ s → OnErr r (s'.is_spent ≡ true) → (s1.is_spent ≡ false → OnErr r (Lost same told now fuel s1 s')) → (s1.is_spent ≡ true → s' ≡ s1)
      → OnErr r (SchedulerLost same told now fuel s s')
  scheduler-lost s1 s s' (Ok a) e spent lost unchanged = tt
  scheduler-lost s1 s s' (Err n) e spent lost unchanged =
      subst (λ x. SchedulerLost same told now fuel x s') e (lost-by s1 s' s1.is_spent refl spent lost unchanged)

module _ {M R F C : Type 0} (same : M → M → Bool) (told : R → Option (List (Answer M))) (made : C → M → F → C → Type 0) (now : Moment) (is_ready : Bool) (limit : ℕ) where
  -- none is started
  pub starts-none : (fuel left : ℕ) (s s' : Stream M R) (c : C) (running : List (M × F)) (answer : Next M) (ending : Ending)
      → CountedPoll same (MayStart same (is_ready && has_room limit running) running) told now fuel s s' answer left → ending_by answer ≡ Some ending
      → Starts same told made now is_ready limit fuel s c running [] s' c ending
  starts-none fuel left s s' c running answer ending p e = (refl, answer, p.polled, e)

  -- one is, and then these
  pub starts-more : (fuel left : ℕ) (s between : Stream M R) (c c1 : C) (running : List (M × F)) (m : M) (f : F) (es : List (M × F)) (s' : Stream M R) (c' : C) (ending : Ending)
      → CountedPoll same (MayStart same (is_ready && has_room limit running) running) told now fuel s between (Item m) left → is_ready && has_room limit running ≡ true
      → made c m f c1 → has_room limit (running ++ (m, f) ∷ []) ≡ true → Starts same told made now is_ready limit left between c1 (running ++ (m, f) ∷ []) es s' c' ending
      → Starts same told made now is_ready limit fuel s c running ((m, f) ∷ es) s' c' ending
  starts-more fuel left s between c c1 running m f es s' c' ending p may call room h =
      let q = subst (λ b. CountedPoll same (MayStart same b running) told now fuel s between (Item m) left) may p in
      let n : left ≡ fuel - length (requests_in q.polled.answers) = (let k = q.counted in omega arith) in
      (may, between, c1, q.polled, call, inl (room, subst (λ k. Starts same told made now is_ready limit k between c1 (running ++ (m, f) ∷ []) es s' c' ending) n h))

  -- the last is, since no more may run
  pub starts-last : (fuel left : ℕ) (s between : Stream M R) (c c1 : C) (running : List (M × F)) (m : M) (f : F)
      → CountedPoll same (MayStart same (is_ready && has_room limit running) running) told now fuel s between (Item m) left → is_ready && has_room limit running ≡ true
      → made c m f c1 → has_room limit (running ++ (m, f) ∷ []) ≡ false
      → Starts same told made now is_ready limit fuel s c running ((m, f) ∷ []) between c1 Waits
  starts-last fuel left s between c c1 running m f p may call room =
      let q = subst (λ b. CountedPoll same (MayStart same b running) told now fuel s between (Item m) left) may p in
      (may, between, c1, q.polled, call, inr (room, refl, refl, refl, refl))

  -- one is, and then these until memory is wanting
  pub lost-more : (fuel left : ℕ) (s between : Stream M R) (c c1 : C) (running : List (M × F)) (m : M) (f : F) (es : List (M × F)) (s' : Stream M R) (c' : C)
      → CountedPoll same (MayStart same (is_ready && has_room limit running) running) told now fuel s between (Item m) left → is_ready && has_room limit running ≡ true
      → made c m f c1 → has_room limit (running ++ (m, f) ∷ []) ≡ true → StartsUntilLost same told made now is_ready limit left between c1 (running ++ (m, f) ∷ []) es s' c'
      → StartsUntilLost same told made now is_ready limit fuel s c running ((m, f) ∷ es) s' c'
  lost-more fuel left s between c c1 running m f es s' c' p may call room h =
      let q = subst (λ b. CountedPoll same (MayStart same b running) told now fuel s between (Item m) left) may p in
      let n : left ≡ fuel - length (requests_in q.polled.answers) = (let k = q.counted in omega arith) in
      (may, between, c1, q.polled, call, room, subst (λ k. StartsUntilLost same told made now is_ready limit k between c1 (running ++ (m, f) ∷ []) es s' c') n h)

  -- the next isn't, since there is no place for it
  pub lost-last : (fuel left : ℕ) (s between : Stream M R) (c c1 : C) (running : List (M × F)) (m : M) (f : F)
      → CountedPoll same (MayStart same (is_ready && has_room limit running) running) told now fuel s between (Item m) left → is_ready && has_room limit running ≡ true
      → made c m f c1 → StartsUntilLost same told made now is_ready limit fuel s c running [] between c1
  lost-last fuel left s between c c1 running m f p may call =
      let q = subst (λ b. CountedPoll same (MayStart same b running) told now fuel s between (Item m) left) may p in
      inr (may, (m, f), q.polled, call)

-- These were started so far: what is started from here on is started after them.
module _ {M R F C G : Type 0} (same : M → M → Bool) (told : R → Option (List (Answer M))) (made : C → M → F → C → Type 0) (now : Moment) where
  pub record Starting (fuel : ℕ) (r : Runs M R F C G) (left : ℕ) (r' : Runs M R F C G) : Type 0 where
    pub started : List (M × F)
    pub goes_on : (es : List (M × F)) (s' : Stream M R) (c' : C) (ending : Ending)
        → Starts same told made now (not (is_some r.readiness)) r.limit left r'.scheduler r'.makes r'.running es s' c' ending
        → Starts same told made now (not (is_some r.readiness)) r.limit fuel r.scheduler r.makes r.running (started ++ es) s' c' ending
    pub is_lost : (es : List (M × F)) (s' : Stream M R) (c' : C)
        → StartsUntilLost same told made now (not (is_some r.readiness)) r.limit left r'.scheduler r'.makes r'.running es s' c'
        → StartsUntilLost same told made now (not (is_some r.readiness)) r.limit fuel r.scheduler r.makes r.running (started ++ es) s' c'
    pub rest : r' ≡ record r { scheduler = r'.scheduler; makes = r'.makes; running = r.running ++ started }

  pub starting-none : (fuel : ℕ) (r : Runs M R F C G) → Starting fuel r fuel r
  starting-none fuel r = record {
    started = [];
    goes_on = λ es s' c' ending h. h;
    is_lost = λ es s' c' h. h;
    rest = ap (λ xs. record r { running = xs }) (sym (append-nil r.running));
  }

  -- one round: a poll of the scheduler
  pub record Round (left : ℕ) (r' r2 : Runs M R F C G) (answer : Next M) (more : ℕ) : Type 0 where
    pub counted : CountedPoll same (MayStart same (not (is_some r'.readiness) && has_room r'.limit r'.running) r'.running) told now left r'.scheduler r2.scheduler answer more
    pub passes : (m : M) → answer ≡ Item m → MayStart same (not (is_some r'.readiness) && has_room r'.limit r'.running) r'.running m true
    pub rest : r2 ≡ record r' { scheduler = r2.scheduler }

  -- where it gives a message, by what the call began with
  round-counted : (fuel left more : ℕ) (r r' r2 : Runs M R F C G) (answer : Next M) (m : M) → Starting fuel r left r' → Round left r' r2 answer more → answer ≡ Item m
      → CountedPoll same (MayStart same (not (is_some r.readiness) && has_room r.limit r'.running) r'.running) told now left r'.scheduler r2.scheduler (Item m) more
  round-counted fuel left more r r' r2 answer m g d e =
      subst (λ a. CountedPoll same (MayStart same (not (is_some r.readiness) && has_room r.limit r'.running) r'.running) told now left r'.scheduler r2.scheduler a more) e
      (subst (λ l. CountedPoll same (MayStart same (not (is_some r.readiness) && has_room l r'.running) r'.running) told now left r'.scheduler r2.scheduler answer more) (ap (λ (x : Runs M R F C G). x.limit) g.rest)
      (subst (λ o. CountedPoll same (MayStart same (not (is_some o) && has_room r'.limit r'.running) r'.running) told now left r'.scheduler r2.scheduler answer more) (ap (λ (x : Runs M R F C G). x.readiness) g.rest) d.counted))

  round-may : (fuel left more : ℕ) (r r' r2 : Runs M R F C G) (answer : Next M) (m : M) → Starting fuel r left r' → Round left r' r2 answer more → answer ≡ Item m
      → not (is_some r.readiness) && has_room r.limit r'.running ≡ true
  round-may fuel left more r r' r2 answer m g d e =
      subst (λ l. not (is_some r.readiness) && has_room l r'.running ≡ true) (ap (λ (x : Runs M R F C G). x.limit) g.rest)
      (subst (λ o. not (is_some o) && has_room r'.limit r'.running ≡ true) (ap (λ (x : Runs M R F C G). x.readiness) g.rest) (may-room _ _ (d.passes m e)))

  -- where it gives no message
  pub starting-ends : (fuel left more : ℕ) (r r' r2 : Runs M R F C G) (answer : Next M) (ending : Ending) → Starting fuel r left r' → Round left r' r2 answer more → ending_by answer ≡ Some ending
      → StartsAll same told made now fuel r r2 ending
  starting-ends fuel left more r r' r2 answer ending g d e =
      let ready : r'.readiness ≡ r.readiness = ap (λ (x : Runs M R F C G). x.readiness) g.rest in
      let limit : r'.limit ≡ r.limit = ap (λ (x : Runs M R F C G). x.limit) g.rest in
      let p = subst (λ l. CountedPoll same (MayStart same (not (is_some r.readiness) && has_room l r'.running) r'.running) told now left r'.scheduler r2.scheduler answer more) limit
      (subst (λ o. CountedPoll same (MayStart same (not (is_some o) && has_room r'.limit r'.running) r'.running) told now left r'.scheduler r2.scheduler answer more) ready d.counted) in
      let makes : r2.makes ≡ r'.makes = ap (λ (x : Runs M R F C G). x.makes) d.rest in
      let all = g.goes_on [] r2.scheduler r'.makes ending (starts-none same told made now (not (is_some r.readiness)) r.limit left more r'.scheduler r2.scheduler r'.makes r'.running answer ending p e) in
      record {
        started = g.started ++ [];
        starts = subst (λ c. Starts same told made now (not (is_some r.readiness)) r.limit fuel r.scheduler r.makes r.running (g.started ++ []) r2.scheduler c ending) (sym makes) all;
        rest =
            d.rest
            ∙ ap (λ (x : Runs M R F C G). record x { scheduler = r2.scheduler }) g.rest
            ∙ ap (λ c. record r { scheduler = r2.scheduler; makes = c; running = r.running ++ g.started }) (sym makes)
            ∙ ap (λ es. record r { scheduler = r2.scheduler; makes = r2.makes; running = r.running ++ es }) (sym (append-nil g.started));
      }

  -- a message is started, after which more may run
  pub starting-more : (fuel left more : ℕ) (r r' r2 r3 : Runs M R F C G) (answer : Next M) (m : M) → Starting fuel r left r' → Round left r' r2 answer more → answer ≡ Item m
      → Started made m r2 r3 → has_room r3.limit r3.running ≡ true → Starting fuel r more r3
  starting-more fuel left more r r' r2 r3 answer m g d e t room = record {
    started = g.started ++ (m, t.future) ∷ [];
    goes_on = λ es s' c' ending h.
        subst (λ xs. Starts same told made now (not (is_some r.readiness)) r.limit fuel r.scheduler r.makes r.running xs s' c' ending) (sym (append_assoc g.started ((m, t.future) ∷ []) es))
        (g.goes_on ((m, t.future) ∷ es) s' c' ending
        (starts-more same told made now (not (is_some r.readiness)) r.limit left more r'.scheduler r2.scheduler r'.makes r3.makes r'.running m t.future es s' c' ending
        counted may call room1 (subst (λ xs. Starts same told made now (not (is_some r.readiness)) r.limit more r2.scheduler r3.makes xs es s' c' ending) runs3
        (subst (λ s. Starts same told made now (not (is_some r.readiness)) r.limit more s r3.makes r3.running es s' c' ending) sched h))));
    is_lost = λ es s' c' h.
        subst (λ xs. StartsUntilLost same told made now (not (is_some r.readiness)) r.limit fuel r.scheduler r.makes r.running xs s' c') (sym (append_assoc g.started ((m, t.future) ∷ []) es))
        (g.is_lost ((m, t.future) ∷ es) s' c'
        (lost-more same told made now (not (is_some r.readiness)) r.limit left more r'.scheduler r2.scheduler r'.makes r3.makes r'.running m t.future es s' c'
        counted may call room1 (subst (λ xs. StartsUntilLost same told made now (not (is_some r.readiness)) r.limit more r2.scheduler r3.makes xs es s' c') runs3
        (subst (λ s. StartsUntilLost same told made now (not (is_some r.readiness)) r.limit more s r3.makes r3.running es s' c') sched h))));
    rest = after;
  }
    where
      limit : r'.limit ≡ r.limit
      limit = ap (λ (x : Runs M R F C G). x.limit) g.rest

      sched : r3.scheduler ≡ r2.scheduler
      sched = ap (λ (x : Runs M R F C G). x.scheduler) t.rest

      limit3 : r3.limit ≡ r.limit
      limit3 = ap (λ (x : Runs M R F C G). x.limit) t.rest ∙ ap (λ (x : Runs M R F C G). x.limit) d.rest ∙ limit

      runs3 : r3.running ≡ r'.running ++ (m, t.future) ∷ []
      runs3 = ap (λ (x : Runs M R F C G). x.running) t.rest ∙ ap (λ (x : Runs M R F C G). x.running ++ (m, t.future) ∷ []) d.rest

      counted : CountedPoll same (MayStart same (not (is_some r.readiness) && has_room r.limit r'.running) r'.running) told now left r'.scheduler r2.scheduler (Item m) more
      counted = round-counted fuel left more r r' r2 answer m g d e

      may : not (is_some r.readiness) && has_room r.limit r'.running ≡ true
      may = round-may fuel left more r r' r2 answer m g d e

      call : made r'.makes m t.future r3.makes
      call = subst (λ c. made c m t.future r3.makes) (ap (λ (x : Runs M R F C G). x.makes) d.rest) t.made

      room1 : has_room r.limit (r'.running ++ (m, t.future) ∷ []) ≡ true
      room1 = subst (λ xs. has_room r.limit xs ≡ true) runs3 (subst (λ l. has_room l r3.running ≡ true) limit3 room)

      after : r3 ≡ record r { scheduler = r3.scheduler; makes = r3.makes; running = r.running ++ (g.started ++ (m, t.future) ∷ []) }
      after =
          t.rest
          ∙ ap (λ (x : Runs M R F C G). record x { makes = r3.makes; running = x.running ++ (m, t.future) ∷ [] }) d.rest
          ∙ ap (λ (x : Runs M R F C G). record x { scheduler = r2.scheduler; makes = r3.makes; running = x.running ++ (m, t.future) ∷ [] }) g.rest
          ∙ ap (λ s. record r { scheduler = s; makes = r3.makes; running = (r.running ++ g.started) ++ (m, t.future) ∷ [] }) (sym sched)
          ∙ ap (λ xs. record r { scheduler = r3.scheduler; makes = r3.makes; running = xs }) (append_assoc r.running g.started ((m, t.future) ∷ []))

  -- the last is started
  pub starting-last : (fuel left more : ℕ) (r r' r2 r3 : Runs M R F C G) (answer : Next M) (m : M) → Starting fuel r left r' → Round left r' r2 answer more → answer ≡ Item m
      → Started made m r2 r3 → has_room r3.limit r3.running ≡ false → StartsAll same told made now fuel r r3 Waits
  starting-last fuel left more r r' r2 r3 answer m g d e t room = record {
    started = g.started ++ (m, t.future) ∷ [];
    starts =
        subst (λ s. Starts same told made now (not (is_some r.readiness)) r.limit fuel r.scheduler r.makes r.running (g.started ++ (m, t.future) ∷ []) s r3.makes Waits) (sym sched)
        (g.goes_on ((m, t.future) ∷ []) r2.scheduler r3.makes Waits
        (starts-last same told made now (not (is_some r.readiness)) r.limit left more r'.scheduler r2.scheduler r'.makes r3.makes r'.running m t.future counted may call room1));
    rest = after;
  }
    where
      limit : r'.limit ≡ r.limit
      limit = ap (λ (x : Runs M R F C G). x.limit) g.rest

      sched : r3.scheduler ≡ r2.scheduler
      sched = ap (λ (x : Runs M R F C G). x.scheduler) t.rest

      limit3 : r3.limit ≡ r.limit
      limit3 = ap (λ (x : Runs M R F C G). x.limit) t.rest ∙ ap (λ (x : Runs M R F C G). x.limit) d.rest ∙ limit

      runs3 : r3.running ≡ r'.running ++ (m, t.future) ∷ []
      runs3 = ap (λ (x : Runs M R F C G). x.running) t.rest ∙ ap (λ (x : Runs M R F C G). x.running ++ (m, t.future) ∷ []) d.rest

      counted : CountedPoll same (MayStart same (not (is_some r.readiness) && has_room r.limit r'.running) r'.running) told now left r'.scheduler r2.scheduler (Item m) more
      counted = round-counted fuel left more r r' r2 answer m g d e

      may : not (is_some r.readiness) && has_room r.limit r'.running ≡ true
      may = round-may fuel left more r r' r2 answer m g d e

      call : made r'.makes m t.future r3.makes
      call = subst (λ c. made c m t.future r3.makes) (ap (λ (x : Runs M R F C G). x.makes) d.rest) t.made

      room1 : has_room r.limit (r'.running ++ (m, t.future) ∷ []) ≡ false
      room1 = subst (λ xs. has_room r.limit xs ≡ false) runs3 (subst (λ l. has_room l r3.running ≡ false) limit3 room)

      after : r3 ≡ record r { scheduler = r3.scheduler; makes = r3.makes; running = r.running ++ (g.started ++ (m, t.future) ∷ []) }
      after =
          t.rest
          ∙ ap (λ (x : Runs M R F C G). record x { makes = r3.makes; running = x.running ++ (m, t.future) ∷ [] }) d.rest
          ∙ ap (λ (x : Runs M R F C G). record x { scheduler = r2.scheduler; makes = r3.makes; running = x.running ++ (m, t.future) ∷ [] }) g.rest
          ∙ ap (λ s. record r { scheduler = s; makes = r3.makes; running = (r.running ++ g.started) ++ (m, t.future) ∷ [] }) (sym sched)
          ∙ ap (λ xs. record r { scheduler = r3.scheduler; makes = r3.makes; running = xs }) (append_assoc r.running g.started ((m, t.future) ∷ []))

  -- where memory is wanting in the scheduler
  pub starting-lost : (fuel left : ℕ) (r r' r2 : Runs M R F C G) → Starting fuel r left r' → SchedulerLost same told now left r'.scheduler r2.scheduler → r2 ≡ record r' { scheduler = r2.scheduler }
      → StartsAllUntilLost same told made now fuel r r2
  starting-lost fuel left r r' r2 g lost is =
      let makes : r2.makes ≡ r'.makes = ap (λ (x : Runs M R F C G). x.makes) is in
      record {
        started = g.started ++ [];
        starts = g.is_lost [] r2.scheduler r2.makes (inl (makes, lost));
        rest =
            is
            ∙ ap (λ (x : Runs M R F C G). record x { scheduler = r2.scheduler }) g.rest
            ∙ ap (λ c. record r { scheduler = r2.scheduler; makes = c; running = r.running ++ g.started }) (sym makes)
            ∙ ap (λ es. record r { scheduler = r2.scheduler; makes = r2.makes; running = r.running ++ es }) (sym (append-nil g.started));
      }

  -- where there is no place for a message
  pub starting-gone : (fuel left more : ℕ) (r r' r2 r3 : Runs M R F C G) (answer : Next M) (m : M) → Starting fuel r left r' → Round left r' r2 answer more → answer ≡ Item m
      → StartLost made m r2 r3 → StartsAllUntilLost same told made now fuel r r3
  starting-gone fuel left more r r' r2 r3 answer m g d e t =
      let sched : r3.scheduler ≡ r2.scheduler = ap (λ (x : Runs M R F C G). x.scheduler) t.rest in
      let call = subst (λ c. made c m t.future r3.makes) (ap (λ (x : Runs M R F C G). x.makes) d.rest) t.made in
      record {
        started = g.started ++ [];
        starts =
            subst (λ s. StartsUntilLost same told made now (not (is_some r.readiness)) r.limit fuel r.scheduler r.makes r.running (g.started ++ []) s r3.makes) (sym sched)
            (g.is_lost [] r2.scheduler r3.makes
            (lost-last same told made now (not (is_some r.readiness)) r.limit left more r'.scheduler r2.scheduler r'.makes r3.makes r'.running m t.future
            (round-counted fuel left more r r' r2 answer m g d e) (round-may fuel left more r r' r2 answer m g d e) call));
        rest =
            t.rest
            ∙ ap (λ (x : Runs M R F C G). record x { makes = r3.makes }) d.rest
            ∙ ap (λ (x : Runs M R F C G). record x { scheduler = r2.scheduler; makes = r3.makes }) g.rest
            ∙ ap (λ s. record r { scheduler = s; makes = r3.makes; running = r.running ++ g.started }) (sym sched)
            ∙ ap (λ es. record r { scheduler = r3.scheduler; makes = r3.makes; running = r.running ++ es }) (sym (append-nil g.started));
      }

-- What runs after a poll is within the limit.
module _ {M F X : Type 0} (told : F → Option (List (Poll X))) (gives : F → X → Type 0) (limit : ℕ) (old new : List (M × F)) where
  pub within-pending : AllPending told gives old new → IsWithin limit old → IsWithin limit new
  within-pending h (inl z) = inl z
  within-pending h (inr w) = inr (let l = length-pending told gives old new h in omega arith)

  pub within-first : (x : X) → FirstReady told gives old new x → IsWithin limit old → IsWithin limit new
  within-first x h (inl z) = inl z
  within-first x h (inr w) = inr (let l = length-first told gives old new x h in omega arith)

-- What a poll does and answers, by its course.
module _ {M R F C G X E : Type 0} (same : M → M → Bool) (told : R → Option (List (Answer M))) (told_future : F → Option (List (Poll X))) (gives : F → X → Type 0)
    (told_ready : G → Option (List (Poll (Result Unit E)))) (gives_ready : G → Result Unit E → Type 0) (made : C → M → F → C → Type 0) (now : Moment) (fuel : ℕ) where
  pub ran-gave : (r1 r r' : Runs M R F C G) (x : X) → r1 ≡ r → r1.is_stopped ≡ false → FirstReady told_future gives r1.running r'.running x
      → r' ≡ record r1 { running = r'.running } → RunnerPolled same told told_future gives told_ready gives_ready made now fuel r r' (Item (Ok x))
  ran-gave r1 r r' x e stopped first rest =
      subst (λ k. RunnerPolled same told told_future gives told_ready gives_ready made now fuel k r' (Item (Ok x))) e
      (record { course = Gave x; follows = (stopped, first, rest); answers = refl })

  pub ran-failed : (r1 r r' : Runs M R F C G) (error : E) → r1 ≡ r → r1.is_stopped ≡ false → AllPending told_future gives r1.running r'.running
      → ReadinessPolled told_ready gives_ready r1.readiness r'.readiness (Some error)
      → r' ≡ record r1 { running = r'.running; readiness = r'.readiness; is_stopped = true }
      → RunnerPolled same told told_future gives told_ready gives_ready made now fuel r r' (Item (Err (Readiness error)))
  ran-failed r1 r r' error e stopped pending failed rest =
      subst (λ k. RunnerPolled same told told_future gives told_ready gives_ready made now fuel k r' (Item (Err (Readiness error)))) e
      (record { course = Failed error; follows = (stopped, pending, failed, rest); answers = refl })

  pub ran-went : (r1 r r' : Runs M R F C G) (polled : List (M × F)) (readiness : Option G) (ending : Ending) (answer : Next (Result X (Error E))) → r1 ≡ r → r1.is_stopped ≡ false
      → AllPending told_future gives r1.running polled → ReadinessPolled told_ready gives_ready r1.readiness readiness None
      → StartsAll same told made now fuel (record r1 { running = polled; readiness = readiness }) r' ending → answer ≡ answer_after ending r'.running
      → RunnerPolled same told told_future gives told_ready gives_ready made now fuel r r' answer
  ran-went r1 r r' polled readiness ending answer e stopped pending waits all is =
      let ready : r'.readiness ≡ readiness = ap (λ (x : Runs M R F C G). x.readiness) all.rest in
      subst (λ k. RunnerPolled same told told_future gives told_ready gives_ready made now fuel k r' answer) e
      (record {
        course = Went all.started ending;
        follows = (
          stopped,
          polled,
          pending,
          subst (λ o. ReadinessPolled told_ready gives_ready r1.readiness o None) (sym ready) waits,
          subst (λ o. Starts same told made now (not (is_some o)) r1.limit fuel r1.scheduler r1.makes polled all.started r'.scheduler r'.makes ending) (sym ready) all.starts,
          all.rest ∙ ap (λ o. record r1 { scheduler = r'.scheduler; makes = r'.makes; running = polled ++ all.started; readiness = o }) (sym ready),
        );
        answers = is;
      })

-- When a poll answers that there is nothing more.

none-left : {A : Type 0} (xs ys : List A) → xs ++ ys ≡ [] → xs ≡ []
none-left [] ys e = refl
none-left (x ∷ xs) ys e = absurd (cc)

none-right : {A : Type 0} (xs ys : List A) → xs ++ ys ≡ [] → ys ≡ []
none-right [] ys e = e
none-right (x ∷ xs) ys e = absurd (cc)

end-after : {M F A : Type 0} (ending : Ending) (running : List (M × F)) (answer : Next A) → answer ≡ answer_after ending running → answer ≡ End
    → (ending ≡ Ends) × (running ≡ [])
end-after Filled running answer is e = absurd (cc)
end-after Waits running answer is e = absurd (cc)
end-after Ends [] answer is e = (refl, refl)
end-after Ends (x ∷ running) answer is e = absurd (cc)

ends-alone : {M : Type 0} (answer : Next M) → ending_by answer ≡ Some Ends → answer ≡ End
ends-alone (Item m) e = absurd (cc)
ends-alone NotReady e = absurd (cc)
ends-alone Spent e = absurd (cc)
ends-alone End e = refl

is-ends : (ending : Ending) → is_end ending ≡ true → ending ≡ Ends
is-ends Filled e = absurd (cc)
is-ends Waits e = absurd (cc)
is-ends Ends e = refl

module _ {M F X : Type 0} (told : F → Option (List (Poll X))) (gives : F → X → Type 0) where
  none-pending : (old new : List (M × F)) → AllPending told gives old new → new ≡ [] → old ≡ []
  none-pending [] new h e = refl
  none-pending (x ∷ old) [] h e = absurd h
  none-pending (x ∷ old) (y ∷ new) h e = absurd (cc)

module _ {M R F C : Type 0} (same : M → M → Bool) (told : R → Option (List (Answer M))) (made : C → M → F → C → Type 0) (now : Moment) (is_ready : Bool) (limit fuel : ℕ) where
  -- where none is started, the requests have ended exactly where the asks ended so
  over-none : (s : Stream M R) (c : C) (running started : List (M × F)) (s' : Stream M R) (c' : C) → started ≡ []
      → Starts same told made now is_ready limit fuel s c running started s' c' Ends → s'.is_over ≡ true
  over-none s c running [] s' c' e h = h.2.over ∙ ap is_end ((h.2.end).0 (ends-alone h.1 h.3))
  over-none s c running (x ∷ started) s' c' e h = absurd (cc)

  none-over : (s : Stream M R) (c : C) (running started : List (M × F)) (s' : Stream M R) (c' : C) (ending : Ending) → started ≡ []
      → Starts same told made now is_ready limit fuel s c running started s' c' ending → s'.is_over ≡ true → ending ≡ Ends
  none-over s c running [] s' c' ending e h over =
      let end : h.1 ≡ End = (h.2.end).1 (is-ends h.2.ending (sym h.2.over ∙ over)) in
      let is : Some ending ≡ Some Ends = sym h.3 ∙ ap ending_by end in
      cc
  none-over s c running (x ∷ started) s' c' ending e h over = absurd (cc)

module _ {M R F C G X E : Type 0} (same : M → M → Bool) (told : R → Option (List (Answer M))) (told_future : F → Option (List (Poll X))) (gives : F → X → Type 0)
    (told_ready : G → Option (List (Poll (Result Unit E)))) (gives_ready : G → Result Unit E → Type 0) (made : C → M → F → C → Type 0) (now : Moment) (fuel : ℕ) where
  apart : (b : Bool) → b ≡ false → b ≡ true → ⊥
  apart b h k = cc

  end-by : (r r' : Runs M R F C G) (answer : Next (Result X (Error E))) (course : Course M F X E) → Follows same told told_future gives told_ready gives_ready made now fuel course r r'
      → answer ≡ answer_of course r'.running → (answer ≡ End) ↔ IsAtEnd r r'
  end-by r r' answer Over h is = (λ e. inl h.0, λ e. is)
  end-by r r' answer (Gave x) h is = (λ e. absurd (cc), go)
    where
      go : IsAtEnd r r' → answer ≡ End
      go (inl s) = absurd (apart r.is_stopped h.0 s)
      go (inr q) = absurd (first-some told_future gives r.running r'.running x h.1 q.2)
  end-by r r' answer (Failed error) h is = (λ e. absurd (cc), go)
    where
      go : IsAtEnd r r' → answer ≡ End
      go (inl s) = absurd (apart r.is_stopped h.0 s)
      go (inr q) = absurd (apart r'.is_stopped q.0 (ap (λ (k : Runs M R F C G). k.is_stopped) h.3))
  end-by r r' answer (Went started ending) h is = (to, go)
    where
      run : r'.running ≡ h.1 ++ started
      run = ap (λ (k : Runs M R F C G). k.running) h.5

      to : answer ≡ End → IsAtEnd r r'
      to e =
          let after = end-after ending r'.running answer is e in
          let none = sym run ∙ after.1 in
          let starts = subst (λ d. Starts same told made now (not (is_some r'.readiness)) r.limit fuel r.scheduler r.makes h.1 started r'.scheduler r'.makes d) after.0 h.4 in
          inr (
            ap (λ (k : Runs M R F C G). k.is_stopped) h.5 ∙ h.0,
            over-none same told made now (not (is_some r'.readiness)) r.limit fuel r.scheduler r.makes h.1 started r'.scheduler r'.makes (none-right h.1 started none) starts,
            none-pending told_future gives r.running h.1 h.2 (none-left h.1 started none),
            after.1,
          )

      go : IsAtEnd r r' → answer ≡ End
      go (inl s) = absurd (apart r.is_stopped h.0 s)
      go (inr q) =
          let none = sym run ∙ q.3 in
          let ends = none-over same told made now (not (is_some r'.readiness)) r.limit fuel r.scheduler r.makes h.1 started r'.scheduler r'.makes ending (none-right h.1 started none) h.4 q.1 in
          is ∙ ap (λ d. answer_after d r'.running) ends ∙ ap (answer_after Ends) q.3

  -- it does exactly at the end
  pub ended : (r r' : Runs M R F C G) (answer : Next (Result X (Error E))) → RunnerPolled same told told_future gives told_ready gives_ready made now fuel r r' answer
      → (answer ≡ End) ↔ IsAtEnd r r'
  ended r r' answer p = end-by r r' answer p.course p.follows p.answers
