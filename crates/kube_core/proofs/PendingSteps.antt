-- One more event of what waits and runs.
use Rattle.std.proofs.Common.{◌≡◌, ℕ, ◌+◌, Bool, true, false, not, ◌||◌, cond, List, [], ◌∷◌, ◌++◌, map, length, Option, Some, None, option_map, is_some, if◌then◌else◌, refl, sym, ap, subst, ◌∙◌}
use Rattle.std.specs.Prelude.{position}
use Rattle.std.specs.List.{filter, find, position_from}
use Rattle.std.specs.Map.{lookup, remove_entry}
use Rattle.std.specs.Arc.{arc_value}
use Rattle.std.specs.declared.sync.Arc.{Arc}
use Rattle.std.specs.declared.alloc.Global.{Global}
use Rattle.std.proofs.lemmas.List.{map-append, length-map}
use Rattle.std.proofs.lemmas.Iterator.Adapters.{position_from-zero}
use Rattle.indexmap.specs.IndexMap.{insert_entry}
use Rattle.kube_meta.specs.Reference.{ObjectType, Reference, same_reference}
use Rattle.kube_meta.specs.ReferenceLaws.{same_reference_equiv}
use Rattle.kube_meta.specs.Keys.{reference_of}
use Rattle.kube_meta.specs.declared.object_ref.ObjectRef.{ObjectRef}
use Rattle.kube_meta.specs.declared.moment.Moment.{Moment}
use Rattle.kube_model.specs.History.{Message, same_message}
use Rattle.kube_model.specs.Queue.{QueueEvent, Requested, Settled, Took, Entry, Frozen, entry, waiting}
use Rattle.kube_model.specs.WaitingOnce.{is_frozen}
use Rattle.kube_model.specs.Takes.{Running, runs, candidates, has_room}
use Rattle.kube_sched.specs.Schedule.{Schedule, Stands as Scheduled, with_request, with_settle, with_take}
use Rattle.kube_sched.proofs.Steps.{stands-alike}
use Rattle.kube_history.specs.CoreWorld.{CoreWorld}
use Rattle.kube_history.specs.CoreEvents.{next_candidate, first_of}
use Rattle.kube_history.specs.Running.{RunOnce}
use Rattle.kube_history.specs.TurnCalls.{with_requests}
use Rattle.kube_turn.specs.declared.request.ReconcileRequest.{ReconcileRequest}
use Rattle.kube_turn.specs.Views.{message_of, running_of, same_request}
use Rattle.kube_core.specs.Images.{event_image, events_image, entry_image, frozen_image}
use Rattle.kube_core.specs.Pendings.{Parts, Stands, handed_over, place_of, FirstIs, TakenFrom, is_idle}
use Rattle.kube_core.proofs.QueueImages.{waiting-image, entry-image}

-- Events.

module _ {A B : Type 0} (f : A → B) where
  with-request : (es : List (QueueEvent A)) (m : A) (run_at now : Moment)
      → events_image f es ++ Requested (record { message = f m; run_at = run_at.0; now = now.0 }) ∷ [] ≡ events_image f (with_request es (record { message = m; run_at = run_at }) now)
  with-request es m run_at now = sym (map-append (event_image f) es (Requested (record { message = m; run_at = run_at.0; now = now.0 }) ∷ []))

  with-settle : (es : List (QueueEvent A)) (now : Moment) → with_settle (events_image f es) now ≡ events_image f (with_settle es now)
  with-settle es now = sym (map-append (event_image f) es (Settled now.0 ∷ []))

  with-take : (es : List (QueueEvent A)) (m : A) → with_take (events_image f es) (f m) ≡ events_image f (with_take es m)
  with-take es m = sym (map-append (event_image f) es (Took m ∷ []))

or-first : (a b : Bool) → (a || b) ≡ false → a ≡ false
or-first true b i = absurd (cc)
or-first false b i = refl

or-second : (a b : Bool) → (a || b) ≡ false → b ≡ false
or-second true b i = absurd (cc)
or-second false b i = i

find-alike : {A : Type 0} (t u : A → Bool) → ((a : A) → t a ≡ u a) → (xs : List A) → find t xs ≡ find u xs
find-alike t u h [] = refl
find-alike t u h (x ∷ xs) = ap (λ b. cond b (Some x) (find t xs)) (h x) ∙ ap (λ o. cond (u x) (Some x) o) (find-alike t u h xs)

some-is : {A : Type 0} {a b : A} → Some a ≡ Some b → a ≡ b
some-is h = cc

module _ {K D : Type 0} (type_of : D → ObjectType) where
  abbrev pub ref : ObjectRef K D → Reference
  ref r = reference_of type_of r

  -- What waits.

  pub requested : (core : CoreWorld K) (p p' : Parts K D) (m : ReconcileRequest K D) (run_at now : Moment) (qs : List (QueueEvent Message)) (rs : List (Running K))
      → p'.limit ≡ p.limit → p'.schedule.debounce ≡ p.schedule.debounce → p'.running ≡ p.running
      → ((es : List (QueueEvent (ReconcileRequest K D))) → Scheduled (same_request type_of) p.schedule es → Scheduled (same_request type_of) p'.schedule (with_request es (record { message = m; run_at = run_at }) now))
      → Stands type_of core p qs rs → Stands type_of core p' (with_requests qs now.0 (record { message = message_of type_of m; run_at = run_at.0 } ∷ [])) rs
  requested core p p' m run_at now qs rs l d e h s = record {
    limit = s.limit ∙ sym l;
    debounce = s.debounce ∙ sym d;
    events = with_request s.events (record { message = m; run_at = run_at }) now;
    scheduled = h s.events s.scheduled;
    seen_as = ap (λ xs. with_requests xs now.0 (record { message = message_of type_of m; run_at = run_at.0 } ∷ [])) s.seen_as ∙ with-request (message_of type_of) s.events m run_at now;
    running = s.running ∙ ap (map (running_of type_of)) (sym e);
    once = s.once;
  }

  pub settled : (core : CoreWorld K) (p p' : Parts K D) (now : Moment) (qs : List (QueueEvent Message)) (rs : List (Running K))
      → p'.limit ≡ p.limit → p'.schedule.debounce ≡ p.schedule.debounce → p'.running ≡ p.running
      → ((es : List (QueueEvent (ReconcileRequest K D))) → Scheduled (same_request type_of) p.schedule es → Scheduled (same_request type_of) p'.schedule (with_settle es now))
      → Stands type_of core p qs rs → Stands type_of core p' (with_settle qs now) rs
  settled core p p' now qs rs l d e h s = record {
    limit = s.limit ∙ sym l;
    debounce = s.debounce ∙ sym d;
    events = with_settle s.events now;
    scheduled = h s.events s.scheduled;
    seen_as = ap (λ xs. with_settle xs now) s.seen_as ∙ with-settle (message_of type_of) s.events now;
    running = s.running ∙ ap (map (running_of type_of)) (sym e);
    once = s.once;
  }

  pub taken : (core : CoreWorld K) (p p' : Parts K D) (m : ReconcileRequest K D) (qs : List (QueueEvent Message)) (rs : List (Running K))
      → p'.limit ≡ p.limit → p'.schedule.debounce ≡ p.schedule.debounce → p'.running ≡ p.running
      → ((es : List (QueueEvent (ReconcileRequest K D))) → Scheduled (same_request type_of) p.schedule es → Scheduled (same_request type_of) p'.schedule (with_take es m))
      → Stands type_of core p qs rs → Stands type_of core p' (with_take qs (message_of type_of m)) rs
  taken core p p' m qs rs l d e h s = record {
    limit = s.limit ∙ sym l;
    debounce = s.debounce ∙ sym d;
    events = with_take s.events m;
    scheduled = h s.events s.scheduled;
    seen_as = ap (λ xs. with_take xs (message_of type_of m)) s.seen_as ∙ with-take (message_of type_of) s.events m;
    running = s.running ∙ ap (map (running_of type_of)) (sym e);
    once = s.once;
  }

  -- What runs.

  pub runs-lookup : (es : List (ObjectRef K D × Arc K Global)) (r : Reference)
      → is_some (lookup (λ k. same_reference r (ref k)) es) ≡ runs (map (running_of type_of) es) r
  runs-lookup [] r = refl
  runs-lookup (e ∷ es) r = go (same_reference r (ref e.0)) (same_reference (ref e.0) r) (same_reference_equiv.symm r (ref e.0)) (runs-lookup es r)
    where
      go : (a b : Bool) → a ≡ b → is_some (lookup (λ k. same_reference r (ref k)) es) ≡ runs (map (running_of type_of) es) r → is_some (cond a (Some e.1) (lookup (λ k. same_reference r (ref k)) es)) ≡ (b || runs (map (running_of type_of) es) r)
      go true true h t = refl
      go false false h t = t
      go true false h t = absurd (cc)
      go false true h t = absurd (cc)

  -- the place of a key is that of what it is seen as
  place-from : (n : ℕ) (es : List (ObjectRef K D × Arc K Global)) (r : Reference)
      → position_from (λ k. same_reference r (ref k)) n (map (λ e. e.0) es) ≡ position_from (λ p. same_reference p.reference r) n (map (running_of type_of) es)
  place-from n [] r = refl
  place-from n (e ∷ es) r = go (same_reference r (ref e.0)) (same_reference (ref e.0) r) (same_reference_equiv.symm r (ref e.0)) (place-from (n + 1) es r)
    where
      go : (a b : Bool) → a ≡ b → position_from (λ k. same_reference r (ref k)) (n + 1) (map (λ x. x.0) es) ≡ position_from (λ p. same_reference p.reference r) (n + 1) (map (running_of type_of) es)
          → cond a (Some n) (position_from (λ k. same_reference r (ref k)) (n + 1) (map (λ x. x.0) es)) ≡ cond b (Some n) (position_from (λ p. same_reference p.reference r) (n + 1) (map (running_of type_of) es))
      go true true h t = refl
      go false false h t = t
      go true false h t = absurd (cc)
      go false true h t = absurd (cc)

  pub place-lookup : (es : List (ObjectRef K D × Arc K Global)) (r : Reference)
      → position (λ k. same_reference r (ref k)) (map (λ e. e.0) es) ≡ place_of (map (running_of type_of) es) r
  place-lookup es r = position_from-zero (λ k. same_reference r (ref k)) (map (λ e. e.0) es) ∙ place-from 0 es r

  put-last : (es : List (ObjectRef K D × Arc K Global)) (k : ObjectRef K D) (v : Arc K Global) → runs (map (running_of type_of) es) (ref k) ≡ false
      → insert_entry (λ a b. same_reference (ref a) (ref b)) es k v ≡ es ++ (k, v) ∷ []
  put-last [] k v h = refl
  put-last (e ∷ es) k v h = go (same_reference (ref k) (ref e.0)) (same_reference (ref e.0) (ref k)) (same_reference_equiv.symm (ref k) (ref e.0)) h (put-last es k v)
    where
      go : (a b : Bool) → a ≡ b → (b || runs (map (running_of type_of) es) (ref k)) ≡ false
          → (runs (map (running_of type_of) es) (ref k) ≡ false → insert_entry (λ x y. same_reference (ref x) (ref y)) es k v ≡ es ++ (k, v) ∷ [])
          → (if a then (e.0, v) ∷ es else e ∷ insert_entry (λ x y. same_reference (ref x) (ref y)) es k v) ≡ e ∷ (es ++ (k, v) ∷ [])
      go true true i j t = absurd (cc)
      go false false i j t = ap (λ xs. e ∷ xs) (t j)
      go true false i j t = absurd (cc)
      go false true i j t = absurd (cc)

  runs-push : (us : List (Running K)) (p : Running K) (r : Reference) → runs us r ≡ false → same_reference p.reference r ≡ false → runs (us ++ p ∷ []) r ≡ false
  runs-push [] p r i j = ap (λ b. b || false) j
  runs-push (u ∷ us) p r i j = ap (λ b. b || runs (us ++ p ∷ []) r) (or-first (same_reference u.reference r) (runs us r) i) ∙ runs-push us p r (or-second (same_reference u.reference r) (runs us r) i) j

  once-more : (rs : List (Running K)) (p : Running K) → RunOnce rs → runs rs p.reference ≡ false → RunOnce (rs ++ p ∷ [])
  once-more [] p o h = (refl, tt)
  once-more (q ∷ rs) p o h = (
    runs-push rs p q.reference o.0 (same_reference_equiv.symm p.reference q.reference ∙ or-first (same_reference q.reference p.reference) (runs rs p.reference) h),
    once-more rs p o.1 (or-second (same_reference q.reference p.reference) (runs rs p.reference) h),
  )

  pub started : (core : CoreWorld K) (p p' : Parts K D) (k : ObjectRef K D) (v : Arc K Global) (qs : List (QueueEvent Message)) (rs : List (Running K))
      → p'.limit ≡ p.limit → p'.schedule.debounce ≡ p.schedule.debounce
      → ((es : List (QueueEvent (ReconcileRequest K D))) → Scheduled (same_request type_of) p.schedule es → Scheduled (same_request type_of) p'.schedule es)
      → p'.running ≡ insert_entry (λ a b. same_reference (ref a) (ref b)) p.running k v
      → Stands type_of core p qs rs → runs rs (ref k) ≡ false
      → Stands type_of core p' qs (rs ++ record { reference = ref k; object = arc_value v } ∷ [])
  started core p p' k v qs rs l d h e s a = record {
    limit = s.limit ∙ sym l;
    debounce = s.debounce ∙ sym d;
    events = s.events;
    scheduled = h s.events s.scheduled;
    seen_as = s.seen_as;
    running =
        ap (λ us. us ++ record { reference = ref k; object = arc_value v } ∷ []) s.running
        ∙ (sym (map-append (running_of type_of) p.running ((k, v) ∷ []))
        ∙ ap (map (running_of type_of)) (sym (e ∙ put-last p.running k v (ap (λ us. runs us (ref k)) (sym s.running) ∙ a))));
    once = once-more rs (record { reference = ref k; object = arc_value v }) s.once a;
  }

  keep-all : (r : Reference) (rs : List (Running K)) → runs rs r ≡ false → filter (λ p. not (same_reference p.reference r)) rs ≡ rs
  keep-all r [] h = refl
  keep-all r (p ∷ rs) h = go (same_reference p.reference r) h (keep-all r rs)
    where
      go : (b : Bool) → (b || runs rs r) ≡ false → (runs rs r ≡ false → filter (λ q. not (same_reference q.reference r)) rs ≡ rs) → cond (not b) (p ∷ filter (λ q. not (same_reference q.reference r)) rs) (filter (λ q. not (same_reference q.reference r)) rs) ≡ p ∷ rs
      go true i t = absurd (cc)
      go false i t = ap (λ us. p ∷ us) (t i)

  runs-alike : (a b : Reference) (rs : List (Running K)) → same_reference a b ≡ true → runs rs a ≡ runs rs b
  runs-alike a b [] h = refl
  runs-alike a b (p ∷ rs) h =
      ap (λ c. c || runs rs a) (same_reference_equiv.symm p.reference a ∙ (same_reference_equiv.congr a b p.reference h ∙ same_reference_equiv.symm b p.reference))
      ∙ ap (λ c. same_reference p.reference b || c) (runs-alike a b rs h)

  removed : (r : Reference) (es : List (ObjectRef K D × Arc K Global)) → RunOnce (map (running_of type_of) es)
      → filter (λ p. not (same_reference p.reference r)) (map (running_of type_of) es) ≡ map (running_of type_of) (remove_entry (λ k. same_reference r (ref k)) es)
  removed r [] o = refl
  removed r (e ∷ es) o = go (same_reference r (ref e.0)) (same_reference (ref e.0) r) refl (same_reference_equiv.symm r (ref e.0)) (removed r es o.1)
    where
      go : (a b : Bool) → same_reference r (ref e.0) ≡ a → a ≡ b
          → filter (λ p. not (same_reference p.reference r)) (map (running_of type_of) es) ≡ map (running_of type_of) (remove_entry (λ k. same_reference r (ref k)) es)
          → cond (not b) (running_of type_of e ∷ filter (λ p. not (same_reference p.reference r)) (map (running_of type_of) es)) (filter (λ p. not (same_reference p.reference r)) (map (running_of type_of) es))
          ≡ map (running_of type_of) (if a then es else e ∷ remove_entry (λ k. same_reference r (ref k)) es)
      go true true f i t = keep-all r (map (running_of type_of) es) (runs-alike r (ref e.0) (map (running_of type_of) es) f ∙ o.0)
      go false false f i t = ap (λ us. running_of type_of e ∷ us) t
      go true false f i t = absurd (cc)
      go false true f i t = absurd (cc)

  fewer-run : (t : Running K → Bool) (us : List (Running K)) (r : Reference) → runs us r ≡ false → runs (filter t us) r ≡ false
  fewer-run t [] r h = refl
  fewer-run t (u ∷ us) r h = go (t u) (fewer-run t us r (or-second (same_reference u.reference r) (runs us r) h))
    where
      go : (a : Bool) → runs (filter t us) r ≡ false → runs (cond a (u ∷ filter t us) (filter t us)) r ≡ false
      go true k = ap (λ c. c || runs (filter t us) r) (or-first (same_reference u.reference r) (runs us r) h) ∙ k
      go false k = k

  once-filter : (t : Running K → Bool) (rs : List (Running K)) → RunOnce rs → RunOnce (filter t rs)
  once-filter t [] o = tt
  once-filter t (p ∷ rs) o = go (t p) (once-filter t rs o.1)
    where
      go : (b : Bool) → RunOnce (filter t rs) → RunOnce (cond b (p ∷ filter t rs) (filter t rs))
      go true k = (fewer-run t rs p.reference o.0, k)
      go false k = k

  pub stopped : (core : CoreWorld K) (p p' : Parts K D) (r : Reference) (qs : List (QueueEvent Message)) (rs : List (Running K))
      → p'.limit ≡ p.limit → p'.schedule ≡ p.schedule → p'.running ≡ remove_entry (λ k. same_reference r (ref k)) p.running
      → Stands type_of core p qs rs → Stands type_of core p' qs (filter (λ u. not (same_reference u.reference r)) rs)
  stopped core p p' r qs rs l d e s = record {
    limit = s.limit ∙ sym l;
    debounce = s.debounce ∙ ap (λ z. z.debounce) (sym d);
    events = s.events;
    scheduled = subst (λ z. Scheduled (same_request type_of) z s.events) (sym d) s.scheduled;
    seen_as = s.seen_as;
    running =
        ap (filter (λ u. not (same_reference u.reference r))) s.running
        ∙ (removed r p.running (subst RunOnce s.running s.once) ∙ ap (map (running_of type_of)) (sym e));
    once = once-filter (λ u. not (same_reference u.reference r)) rs s.once;
  }

  -- The first candidate.

  -- what waits of the requests is what waits of their messages
  pub waits : (core : CoreWorld K) (p : Parts K D) (qs : List (QueueEvent Message)) (rs : List (Running K)) (s : Stands type_of core p qs rs)
      → waiting same_message core.debounce qs ≡ map (frozen_image (message_of type_of)) (waiting (same_request type_of) p.schedule.debounce s.events)
  waits core p qs rs s =
      ap (λ d. waiting same_message d qs) s.debounce
      ∙ (ap (waiting same_message p.schedule.debounce) s.seen_as
      ∙ waiting-image (message_of type_of) (same_request type_of) same_message (λ x y. refl) p.schedule.debounce s.events)

  candidate-message : (rs : List (Running K)) (ws : List (Frozen (ReconcileRequest K D)))
      → option_map (λ z. z.entry.message) (first_of (candidates rs (map (frozen_image (message_of type_of)) ws)))
      ≡ option_map (message_of type_of) (find (λ q. not (runs rs (ref q.obj_ref))) (map (λ z. z.entry.message) ws))
  candidate-message rs [] = refl
  candidate-message rs (w ∷ ws) = go (runs rs (ref w.entry.message.obj_ref)) (candidate-message rs ws)
    where
      go : (b : Bool) → option_map (λ z. z.entry.message) (first_of (candidates rs (map (frozen_image (message_of type_of)) ws)))
          ≡ option_map (message_of type_of) (find (λ q. not (runs rs (ref q.obj_ref))) (map (λ z. z.entry.message) ws))
          → option_map (λ z. z.entry.message) (first_of (cond (not b) (frozen_image (message_of type_of) w ∷ candidates rs (map (frozen_image (message_of type_of)) ws)) (candidates rs (map (frozen_image (message_of type_of)) ws))))
          ≡ option_map (message_of type_of) (cond (not b) (Some w.entry.message) (find (λ q. not (runs rs (ref q.obj_ref))) (map (λ z. z.entry.message) ws)))
      go true r = r
      go false r = refl

  pub first-candidate : (core : CoreWorld K) (p : Parts K D) (o : Option (ReconcileRequest K D)) (qs : List (QueueEvent Message)) (rs : List (Running K))
      → has_room p.limit (length p.running) 0 ≡ true
      → FirstIs type_of p.schedule p.running o
      → Stands type_of core p qs rs → option_map (message_of type_of) o ≡ next_candidate core qs rs
  first-candidate core p o qs rs room first s =
      let ws = waiting (same_request type_of) p.schedule.debounce s.events in
      let found : o ≡ find (λ q. not (runs rs (ref q.obj_ref))) (map (λ z. z.entry.message) ws) =
      first s.events s.scheduled
      ∙ find-alike (is_idle type_of p.running) (λ q. not (runs rs (ref q.obj_ref))) (λ q. ap not (runs-lookup p.running (ref q.obj_ref) ∙ ap (λ us. runs us (ref q.obj_ref)) (sym s.running))) (map (λ z. z.entry.message) ws) in
      let roomy : has_room core.limit (length rs) 0 ≡ true = ap (λ l. has_room l (length rs) 0) s.limit ∙ (ap (λ n. has_room p.limit n 0) (ap length s.running ∙ length-map p.running (running_of type_of)) ∙ room) in
      ap (option_map (message_of type_of)) found
      ∙ (sym (candidate-message rs ws)
      ∙ (ap (λ zs. option_map (λ z. z.entry.message) (first_of (candidates rs zs))) (sym (waits core p qs rs s))
      ∙ ap (λ b. if b then option_map (λ z. z.entry.message) (first_of (candidates rs (waiting same_message core.debounce qs))) else None) (sym roomy)))

  pub no-room : (core : CoreWorld K) (p : Parts K D) (qs : List (QueueEvent Message)) (rs : List (Running K)) → has_room p.limit (length p.running) 0 ≡ false
      → Stands type_of core p qs rs → None ≡ next_candidate core qs rs
  no-room core p qs rs room s =
      let full : has_room core.limit (length rs) 0 ≡ false = ap (λ l. has_room l (length rs) 0) s.limit ∙ (ap (λ n. has_room p.limit n 0) (ap length s.running ∙ length-map p.running (running_of type_of)) ∙ room) in
      ap (λ b. if b then option_map (λ z. z.entry.message) (first_of (candidates rs (waiting same_message core.debounce qs))) else None) (sym full)

  -- What is told.

  pub handed : (es : List (ObjectRef K D × Arc K Global)) (r : Reference)
      → option_map arc_value (lookup (λ k. same_reference r (ref k)) es) ≡ handed_over (map (running_of type_of) es) r
  handed [] r = refl
  handed (e ∷ es) r = go (same_reference r (ref e.0)) (same_reference (ref e.0) r) (same_reference_equiv.symm r (ref e.0)) (handed es r)
    where
      go : (a b : Bool) → a ≡ b → option_map arc_value (lookup (λ k. same_reference r (ref k)) es) ≡ handed_over (map (running_of type_of) es) r
          → option_map arc_value (cond a (Some e.1) (lookup (λ k. same_reference r (ref k)) es))
          ≡ option_map (λ p. p.object) (cond b (Some (running_of type_of e)) (find (λ p. same_reference p.reference r) (map (running_of type_of) es)))
      go true true h t = refl
      go false false h t = t
      go true false h t = absurd (cc)
      go false true h t = absurd (cc)

  pub is_frozen-image : (o : Option (Entry (ReconcileRequest K D))) → is_frozen (option_map (entry_image (message_of type_of)) o) ≡ is_frozen o
  is_frozen-image None = refl
  is_frozen-image (Some e) = refl

  pub frozen-in : (core : CoreWorld K) (p : Parts K D) (m : ReconcileRequest K D) (qs : List (QueueEvent Message)) (rs : List (Running K)) (b : Bool)
      → ((es : List (QueueEvent (ReconcileRequest K D))) → Scheduled (same_request type_of) p.schedule es → b ≡ is_frozen (entry (same_request type_of) p.schedule.debounce es m))
      → Stands type_of core p qs rs → b ≡ is_frozen (entry same_message core.debounce qs (message_of type_of m))
  frozen-in core p m qs rs b h s =
      h s.events s.scheduled
      ∙ (sym (ap is_frozen (entry-image (message_of type_of) (same_request type_of) same_message (λ x y. refl) p.schedule.debounce s.events m) ∙ is_frozen-image (entry (same_request type_of) p.schedule.debounce s.events m))
      ∙ (ap (λ es. is_frozen (entry same_message p.schedule.debounce es (message_of type_of m))) (sym s.seen_as)
      ∙ ap (λ d. is_frozen (entry same_message d qs (message_of type_of m))) (sym s.debounce)))

  pub waits-in : (core : CoreWorld K) (p : Parts K D) (qs : List (QueueEvent Message)) (rs : List (Running K)) (n : ℕ)
      → ((es : List (QueueEvent (ReconcileRequest K D))) → Scheduled (same_request type_of) p.schedule es → n ≡ length (waiting (same_request type_of) p.schedule.debounce es))
      → Stands type_of core p qs rs → n ≡ length (waiting same_message core.debounce qs)
  waits-in core p qs rs n h s =
      h s.events s.scheduled
      ∙ (sym (length-map (waiting (same_request type_of) p.schedule.debounce s.events) (frozen_image (message_of type_of)))
      ∙ ap length (sym (waits core p qs rs s)))

  pub runs-in : (core : CoreWorld K) (p : Parts K D) (qs : List (QueueEvent Message)) (rs : List (Running K))
      → Stands type_of core p qs rs → length p.running ≡ length rs
  runs-in core p qs rs s = sym (ap length s.running ∙ length-map p.running (running_of type_of))

  -- with more places it stands for the same
  pub roomier : (core : CoreWorld K) (p p' : Parts K D) (qs : List (QueueEvent Message)) (rs : List (Running K))
      → p'.limit ≡ p.limit → p'.schedule.debounce ≡ p.schedule.debounce
      → ((es : List (QueueEvent (ReconcileRequest K D))) → Scheduled (same_request type_of) p.schedule es → Scheduled (same_request type_of) p'.schedule es)
      → p'.running ≡ p.running → Stands type_of core p qs rs → Stands type_of core p' qs rs
  roomier core p p' qs rs l d h e s = record {
    limit = s.limit ∙ sym l;
    debounce = s.debounce ∙ sym d;
    events = s.events;
    scheduled = h s.events s.scheduled;
    seen_as = s.seen_as;
    running = s.running ∙ ap (map (running_of type_of)) (sym e);
    once = s.once;
  }

  -- a candidate doesn't run
  pub idle : (core : CoreWorld K) (qs : List (QueueEvent Message)) (rs : List (Running K)) (m : Message) → next_candidate core qs rs ≡ Some m → runs rs m.reference ≡ false
  idle core qs rs m h = go (has_room core.limit (length rs) 0) h
    where
      first : (ws : List (Frozen Message)) → option_map (λ z. z.entry.message) (first_of (candidates rs ws)) ≡ Some m → runs rs m.reference ≡ false
      first [] k = absurd (cc)
      first (w ∷ ws) k = two (runs rs w.entry.message.reference) refl k (first ws)
        where
          two : (b : Bool) → runs rs w.entry.message.reference ≡ b
              → option_map (λ (z : Frozen Message). z.entry.message) (first_of (cond (not b) (w ∷ candidates rs ws) (candidates rs ws))) ≡ Some m
              → (option_map (λ (z : Frozen Message). z.entry.message) (first_of (candidates rs ws)) ≡ Some m → runs rs m.reference ≡ false) → runs rs m.reference ≡ false
          two true e k r = r k
          two false e k r = let is : w.entry.message ≡ m = cc in subst (λ n. runs rs n.reference ≡ false) is e

      go : (b : Bool) → (if b then option_map (λ z. z.entry.message) (first_of (candidates rs (waiting same_message core.debounce qs))) else None) ≡ Some m → runs rs m.reference ≡ false
      go true k = first (waiting same_message core.debounce qs) k
      go false k = absurd (cc)

  -- with more places it stands for the same, whatever its schedule's room is
  pub with-places : (core : CoreWorld K) (p p' : Parts K D) (qs : List (QueueEvent Message)) (rs : List (Running K))
      → p'.limit ≡ p.limit → p'.schedule ≡ record p.schedule { spare = p'.schedule.spare } → p'.running ≡ p.running
      → Stands type_of core p qs rs → Stands type_of core p' qs rs
  with-places core p p' qs rs l d e s =
      roomier core p p' qs rs l (ap (λ z. z.debounce) d)
      (λ es h. stands-alike (same_request type_of) _ _ es (ap (λ z. z.debounce) d) (ap (λ z. z.waiting) d) (ap (λ z. z.scheduled) d) h) e s

  -- the first candidate is taken and runs
  pub begun : (core : CoreWorld K) (p p' : Parts K D) (s1 : Schedule (ReconcileRequest K D)) (first q : ReconcileRequest K D) (k : ObjectRef K D) (v : Arc K Global) (qs : List (QueueEvent Message)) (rs : List (Running K))
      → has_room p.limit (length p.running) 0 ≡ true
      → FirstIs type_of p.schedule p.running (Some first)
      → ref k ≡ ref first.obj_ref
      → s1 ≡ record p.schedule { spare = s1.spare }
      → FirstIs type_of s1 p.running (Some q)
      → TakenFrom type_of s1 p'.schedule q
      → p'.schedule.debounce ≡ s1.debounce
      → p'.running ≡ insert_entry (λ a b. same_reference (ref a) (ref b)) p.running k v
      → p'.limit ≡ p.limit
      → Stands type_of core p qs rs → Stands type_of core p' (with_take qs (message_of type_of q)) (rs ++ record { reference = ref q.obj_ref; object = arc_value v } ∷ [])
  begun core p p' s1 first q k v qs rs room f1 copied places f2 takes d e l s =
      let p1 : Parts K D = record p { schedule = s1 } in
      let p2 : Parts K D = record p { schedule = p'.schedule } in
      let z1 : Stands type_of core p1 qs rs = with-places core p p1 qs rs refl places refl s in
      let z2 : Stands type_of core p2 (with_take qs (message_of type_of q)) rs = taken core p1 p2 q qs rs refl d refl takes z1 in
      let one : Some (message_of type_of first) ≡ next_candidate core qs rs = first-candidate core p (Some first) qs rs room f1 s in
      let two : Some (message_of type_of q) ≡ next_candidate core qs rs = first-candidate core p1 (Some q) qs rs room f2 z1 in
      let same : message_of type_of first ≡ message_of type_of q = some-is (one ∙ sym two) in
      let is : ref k ≡ ref q.obj_ref = copied ∙ ap (λ m. m.reference) same in
      subst (λ r. Stands type_of core p' (with_take qs (message_of type_of q)) (rs ++ record { reference = r; object = arc_value v } ∷ [])) is
      (started core p2 p' k v (with_take qs (message_of type_of q)) rs l refl (λ es h. h) e z2
      (ap (runs rs) is ∙ idle core qs rs (message_of type_of q) (sym two)))
