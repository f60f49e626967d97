-- A turn that was taken, or that want of memory cut off, by the calls that make it.
use Rattle.std.proofs.Common.{◌≡◌, ℕ, ◌≤◌, Bool, true, false, not, ◌||◌, ◌&&◌, ◌==◌, List, [], ◌∷◌, ◌++◌, map, length, Some, None, if◌then◌else◌, inl, inr, refl, sym, ap, subst, ◌∙◌, append_assoc, append-nil, arith}
use Rattle.std.specs.List.{fold}
use Rattle.kube_meta.specs.declared.resource.Resource as resource
use Rattle.kube_model.specs.World.{World}
use Rattle.kube_model.specs.Reads.{nothing_read}
use Rattle.kube_model.specs.History.{Dated, Exchange, Turn, TurnRecord, Finished, Taken, Step, dated, exchanges, exchanges_of, exchanges_with}
use Rattle.kube_model.specs.Asks.{stops_of}
use Rattle.kube_model.specs.Pause.{gave_up}
use Rattle.kube_model.specs.Shutdowns.{asks_shutdown, is_closed, is_forced}
use Rattle.kube_model.specs.Takes.{Running, running}
use Rattle.kube_model.specs.Turns.{taken_in}
use Rattle.kube_model.specs.Traces.{IsValid, AreFinishesOf}
use Rattle.kube_history.specs.CoreWorld.{core_world}
use Rattle.kube_history.specs.CoreEvents.{CoreEvent, Answered, Requested, Settled, cache_of, clock_of, running_of, running_with, was_shut}
use Rattle.kube_history.specs.TurnEvents.{before_takes, closing, finish_event, reload_events, shut_if, takes}
use Rattle.kube_history.specs.Agrees.{Agrees}
use Rattle.kube_history.specs.Legal.{AreLegal}
use Rattle.kube_history.proofs.Segments.{legal-append, running-append}
use Rattle.kube_backoff.specs.declared.backoff.Backoff as backoff
use Rattle.kube_reflect.specs.Cached.{Kept}
use Rattle.kube_reflect.specs.Exchanged.{IsLeftBy}
use Rattle.kube_core.specs.Cores.{Parts, StandsFor as CoreStands}
use Rattle.kube_asks.specs.Asking.{Asking, AskStands, SourcesStand, asking_begun}
use Rattle.kube_asks.specs.declared.asks.AskFault.{AskFault}
use Rattle.kube_asks.specs.declared.asks.AskFault.TheVariants as faults
use Rattle.kube_asks.specs.declared.root.RootSource as root_source
use Rattle.kube_asks.specs.declared.set.RelatedSet as related_set
use Rattle.kube_step.specs.Asked.{AllStand, AllStored, AreCutOff, AreEndedBy, IsLostNext, NotAsked, MayAsk}
use Rattle.kube_step.specs.Controllers.{IsWorldOfAsks, AsksStand}
use Rattle.kube_step.specs.Errors.{IfUnnamedAsk}
use Rattle.kube_step.specs.Policies.{answered_in}
use Rattle.kube_step.specs.Takes.{taken_so_far}
use Rattle.kube_step.specs.Turns.{requests_first, MayGoOn, HasAsked, BeforeTakes, IsEndedBy, IsTaken}
use Rattle.kube_asks.proofs.Pushes.{kept-begun}
use Rattle.kube_step.proofs.Asking.{ended-among, ended-shown}
use Rattle.kube_step.proofs.Fronts.{takes-front}
use Rattle.kube_step.proofs.OneTurn.{cache-same, events-are, events-before, open-taken, closed-taken, core-now}
use Rattle.kube_step.proofs.Turning.{closed-is, closing-is, begun-world, begun-stands, begun-unspent, may-ask-first}

-- a shutdown leaves what runs
shut-runs : {O : Type 0} (b : Bool) (at : ℕ) (rs : List (Running O)) → fold running_with rs (shut_if b at) ≡ rs
shut-runs true at rs = refl
shut-runs false at rs = refl

pub if-unnamed : (f : AskFault) (P : Type 0) → P → IfUnnamedAsk f (λ source. P)
if-unnamed (faults.Unnamed source) P p = p
if-unnamed faults.NoMemory P p = tt
if-unnamed faults.Spent P p = tt

-- a fault before the takes ends the turn so
pub before-takes : {R S O D B : Type 0} (root : root_source.Ghosts R O D) (related : related_set.Ghosts S O D) (w : World O B) (h : List (Step O)) (t : Turn) (Left : List (Exchange O) → List (Taken O) → Type 0)
    (f : AskFault) (kept : Kept O) (r : R) (s : S) (r' : R) (s' : S) → AreEndedBy root related w h t f kept [] r s r' s' → IsEndedBy root related w h t Left f kept [] r s r' s'
before-takes root related w h t Left faults.NoMemory kept r s r' s' e = (e.0, BeforeTakes refl e.1 (inr e.2))
before-takes root related w h t Left (faults.Unnamed source) kept r s r' s' e = (e, refl)
before-takes root related w h t Left faults.Spent kept r s r' s' e = absurd e

pub not-false : (b : Bool) → not b ≡ true → b ≡ false
not-false true e = absurd (cc)
not-false false e = refl

module _ {O B : Type 0} (w : World O B) (h : List (Step O)) (t : Turn) (es : List (CoreEvent O)) (a : Agrees w h es) (closed : Bool) (k : closed ≡ (was_shut es || asks_shutdown t.shutdown)) where
  -- what happened to what decides before the finishes
  abbrev pub events-first : List (CoreEvent O)
  events-first = if closed then es ++ shut_if (not (was_shut es)) (clock_of es) else es

  pub closed-now : is_closed w h t ≡ closed
  closed-now = closed-is w h t es a ∙ sym k

  pub running-first : running_of events-first ≡ running h
  running-first = go closed
    where
      go : (b : Bool) → running_of (if b then es ++ shut_if (not (was_shut es)) (clock_of es) else es) ≡ running h
      go true = running-append es (shut_if (not (was_shut es)) (clock_of es)) ∙ (shut-runs (not (was_shut es)) (clock_of es) (running_of es) ∙ a.running)
      go false = a.running

  pub closed-events : closed ≡ true → (fs : List Finished) → events-first ++ map (finish_event t.at) fs ≡ es ++ closing w h t fs
  closed-events e fs = ap (λ b. (if b then es ++ shut_if (not (was_shut es)) (clock_of es) else es) ++ map (finish_event t.at) fs) e ∙ closing-is w h t es a fs

  pub open-events : closed ≡ false → (fs : List Finished) → events-first ++ map (finish_event t.at) fs ≡ es ++ map (finish_event t.at) fs
  open-events e fs = ap (λ b. (if b then es ++ shut_if (not (was_shut es)) (clock_of es) else es) ++ map (finish_event t.at) fs) e

  module _ {D : Type 0} (object : resource.Ghosts O D) (core core1 : Parts O D) where
    pub stands-first : CoreStands object.type_of object.meta_of (core_world w) es core
        → (closed ≡ true → CoreStands object.type_of object.meta_of (core_world w) (es ++ shut_if (not (was_shut es)) (clock_of es)) core1) → (closed ≡ false → core1 ≡ core)
        → CoreStands object.type_of object.meta_of (core_world w) events-first core1
    stands-first s shuts stays = go closed refl
      where
        go : (b : Bool) → closed ≡ b → CoreStands object.type_of object.meta_of (core_world w) (if b then es ++ shut_if (not (was_shut es)) (clock_of es) else es) core1
        go true e = shuts e
        go false e = subst (CoreStands object.type_of object.meta_of (core_world w) es) (sym (stays e)) s

module _ {R S B O D : Type 0} (root : root_source.Ghosts R O D) (related : related_set.Ghosts S O D) (delays : backoff.Ghosts B) (object : resource.Ghosts O D) (w : World O B) (h : List (Step O)) (t : Turn)
    (a : Asking R S B) (core : Parts O D) (may : MayGoOn root related delays object w h a core) (a1 : Asking R S B) (budget : List ℕ) (same : budget ≡ t.budget) (begun : a1 ≡ asking_begun a budget)
    (stands : AskStands w (root.stands a1.root) (related.stands a1.related) (length (related.feeds a.related)) budget (may.parts.before ++ may.parts.mine) [] a1.kept)
    (closed : Bool) (k : closed ≡ (was_shut may.parts.events || asks_shutdown t.shutdown)) where
  abbrev es : List (CoreEvent O)
  es = may.parts.events

  abbrev first : List (CoreEvent O)
  first = events-first w h t es may.parts.agrees closed k

  same-root : a1.root ≡ a.root
  same-root = ap (λ (z : Asking R S B). z.root) begun

  same-related : a1.related ≡ a.related
  same-related = ap (λ (z : Asking R S B). z.related) begun

  begun-sources : AllStand root related a.root a.related (exchanges_with h t [])
  begun-sources =
      subst (λ r. AllStand root related r a.related (exchanges_with h t [])) same-root
      (subst (λ s. AllStand root related a1.root s (exchanges_with h t [])) same-related
      (begun-stands root related delays object w h t a core may a1 budget same begun stands).sources)

  -- nothing was asked, and memory was wanting
  pub lost-first : AreCutOff root related w h t (IsLostNext root related) [] a.root a.related a1.root a1.related
  lost-first = record {
    made = [];
    asked = tt;
    each_named = tt;
    reached_root = a.root;
    reached_related = a.related;
    polled = (refl, refl);
    stand = begun-sources;
    rest = NotAsked same-root same-related;
  }

  first-left : IsLeftBy w.key (exchanges_of 0 (exchanges_with h t [])) core.writer.kept
  first-left = subst (λ ds. IsLeftBy w.key (exchanges_of 0 ds) core.writer.kept) (may.parts.agrees.answers ∙ sym (append-nil (exchanges h))) may.parts.core_stands.stored

  pub ended-none : (kept : Kept O) → kept ≡ core.writer.kept → AreEndedBy root related w h t faults.NoMemory kept [] a.root a.related a1.root a1.related
  unfolding lost-first
  ended-none kept same = (lost-first, AllStored (subst (λ j. IsLeftBy w.key (exchanges_of 0 (exchanges_with h t [])) j) (sym same) first-left), inl refl)

  -- over finishes
  module _ (fs : List Finished) (core2 : Parts O D) (core_stands : CoreStands object.type_of object.meta_of (core_world w) (first ++ map (finish_event t.at) fs) core2) where
    pub may-first : closed ≡ false → MayAsk root related delays object w h t [] (es ++ map (finish_event t.at) fs) a1 core2
    may-first e =
        may-ask-first root related delays object w h t a core may a1 budget same begun stands (closed-now w h t es may.parts.agrees closed k ∙ e) fs core2
        (subst (λ us. CoreStands object.type_of object.meta_of (core_world w) us core2) (open-events w h t es may.parts.agrees closed k e fs) core_stands)

    -- a fault of what follows is one of the turn
    pub ended-first : (f : AskFault) (kept : Kept O) (r : R) (s : S)
        → not closed ≡ true × ((us : List (CoreEvent O)) → MayAsk root related delays object w h t [] us a1 core2 → AreEndedBy root related w h t f kept [] a1.root a1.related r s)
        → AreEndedBy root related w h t f kept [] a.root a.related r s
    ended-first f kept r s e =
        subst (λ p. AreEndedBy root related w h t f kept [] p a.related r s) same-root
        (subst (λ q. AreEndedBy root related w h t f kept [] a1.root q r s) same-related
        (e.1 (es ++ map (finish_event t.at) fs) (may-first (not-false closed e.0))))

    module _ (v : IsValid h t) (z : AreFinishesOf (answered_in fs) (running h) t.finishes fs) (xs : List (Exchange O)) (a' : Asking R S B) (core3 : Parts O D)
        (stayed : not closed ≡ false → (xs ≡ []) × (a' ≡ a1) × (core3 ≡ core2))
        (went : not closed ≡ true → (us : List (CoreEvent O)) → MayAsk root related delays object w h t [] us a1 core2 → HasAsked root related delays object w h t us a1 xs a' core3) where
      went-now : closed ≡ false → HasAsked root related delays object w h t (es ++ map (finish_event t.at) fs) a1 xs a' core3
      went-now e = went (ap not e) (es ++ map (finish_event t.at) fs) (may-first e)

      -- what happened to what decides before the takes of an open turn
      abbrev asked-all : List (CoreEvent O)
      asked-all = es ++ map (finish_event t.at) fs ++ requests_first t.at t.reload t.on ++ map (Answered t.at) xs ++ Settled t.at ∷ [] ++ shut_if (gave_up w (exchanges_with h t xs)) t.at

      -- memory was wanting for the store that is to be shown
      pub lost-shown : t.show ≡ true → core2.writer.kept ≡ core.writer.kept → (Left : List (Exchange O) → List (Taken O) → Type 0) → IsEndedBy root related w h t Left faults.NoMemory core3.writer.kept [] a.root a.related a'.root a'.related
      lost-shown shows same-kept Left = go closed refl
        where
          go : (b : Bool) → closed ≡ b → IsEndedBy root related w h t Left faults.NoMemory core3.writer.kept [] a.root a.related a'.root a'.related
          go true e =
              subst (λ (c : Asking R S B). IsEndedBy root related w h t Left faults.NoMemory core3.writer.kept [] a.root a.related c.root c.related) (sym (stayed (ap not e)).1)
              (before-takes root related w h t Left faults.NoMemory core3.writer.kept a.root a.related a1.root a1.related
              (ended-none core3.writer.kept (ap (λ (q : Parts O D). q.writer.kept) (stayed (ap not e)).2 ∙ same-kept)))
          go false e =
              let g = went-now e in
              subst (λ p. IsEndedBy root related w h t Left faults.NoMemory core3.writer.kept [] p a.related a'.root a'.related) same-root
              (subst (λ q. IsEndedBy root related w h t Left faults.NoMemory core3.writer.kept [] a1.root q a'.root a'.related) same-related
              (ended-shown root related delays object w h t Left (es ++ map (finish_event t.at) fs ++ requests_first t.at t.reload t.on) a1 xs a' g.asked_core g.asked shows core3.writer.kept g.kept))

      -- memory was wanting among the takes, of which one was left
      pub lost-taking : not closed ≡ true → core3.clock.0 ≤ t.at → (kept : Kept O) → kept ≡ core3.writer.kept → (ts : List (Taken O))
          → ((us : List (CoreEvent O)) → CoreStands object.type_of object.meta_of (core_world w) us core3 → (left : Taken O) × AreLegal (core_world w) us (taken_so_far t.at (ts ++ left ∷ [])))
          → (Left : List (Exchange O) → List (Taken O) → Type 0) → ((left : Taken O) (rest : List (Taken O)) → taken_in w h t nothing_read fs xs ≡ ts ++ left ∷ rest → Left xs ts)
          → IsEndedBy root related w h t Left faults.NoMemory kept ts a.root a.related a'.root a'.related
      lost-taking e clock kept same ts legal Left says =
          let o = not-false closed e in
          let g = went-now o in
          let l = legal asked-all g.core_stands in
          let so-far = g.core_stands.clock in
          let moment : clock_of asked-all ≤ t.at = omega (arith, so-far, clock) in
          let before =
          events-before es (map (finish_event t.at) fs) (requests_first t.at t.reload t.on) (map (Answered t.at) xs) (Settled t.at ∷ []) (shut_if (gave_up w (exchanges_with h t xs)) t.at)
          (reload_events t.at t.reload) (map (Requested t.at) t.on) refl in
          let all =
          events-are es (map (finish_event t.at) fs) (requests_first t.at t.reload t.on) (map (Answered t.at) xs) (Settled t.at ∷ []) (shut_if (gave_up w (exchanges_with h t xs)) t.at) (taken_so_far t.at (ts ++ l.0 ∷ []))
          (reload_events t.at t.reload) (map (Requested t.at) t.on) refl in
          let front =
          takes-front w may.settings may.is_watched (answered_in fs) h t fs xs (ts ++ l.0 ∷ []) es (closed-now w h t es may.parts.agrees closed k ∙ o) may.parts.agrees v z g.asked.asked g.done
          (subst (λ us. clock_of us ≤ t.at) before moment)
          (subst (AreLegal (core_world w) []) all (legal-append (core_world w) [] asked-all (taken_so_far t.at (ts ++ l.0 ∷ [])) g.core_stands.legal l.1)) in
          let left = says l.0 front.0 (front.1 ∙ append_assoc ts (l.0 ∷ []) front.0) in
          subst (λ p. IsEndedBy root related w h t Left faults.NoMemory kept ts p a.related a'.root a'.related) same-root
          (subst (λ q. IsEndedBy root related w h t Left faults.NoMemory kept ts a1.root q a'.root a'.related) same-related
          (ended-among root related delays object w h t Left (es ++ map (finish_event t.at) fs ++ requests_first t.at t.reload t.on) a1 xs a' g.asked_core g.asked g.done kept (same ∙ g.kept) ts left))

      -- the takes were made whole
      module _ (ts : List (Taken O)) (core' : Parts O D) (rested : not closed ≡ false → (ts ≡ []) × (core' ≡ core3))
          (took : not closed ≡ true → (us : List (CoreEvent O)) → CoreStands object.type_of object.meta_of (core_world w) us core3 → CoreStands object.type_of object.meta_of (core_world w) (us ++ takes t.at ts) core')
          (q : TurnRecord O) (at : q.at ≡ t.at) (finished : q.finished ≡ fs) (asked : q.exchanges ≡ xs) (taken : q.taken ≡ ts) (runs : q.runner ≡ None)
          (stopped : (n : List ℕ) (before mine : List (Dated O)) → IsWorldOfAsks root related delays object w a' → AsksStand root related delays object w n before mine a' → q.stops ≡ stops_of w n before mine closed)
          (shown : (us : List (CoreEvent O)) → CoreStands object.type_of object.meta_of (core_world w) us core3 → q.store ≡ (if t.show then Some (cache_of (core_world w) us) else None))
          (ends : (us : List (CoreEvent O)) → CoreStands object.type_of object.meta_of (core_world w) us core' → q.ended ≡ (is_forced t.shutdown || was_shut us && (length (running_of us) == 0))) where
        pub turned : IsTaken root related delays object w h t a q a' core'
        turned = go closed refl
          where
            go : (b : Bool) → closed ≡ b → IsTaken root related delays object w h t a q a' core'
            go true e =
                let stay = stayed (ap not e) in
                let rest = rested (ap not e) in
                let before = subst (λ c. CoreStands object.type_of object.meta_of (core_world w) (es ++ closing w h t fs) c) (sym stay.2)
                (subst (λ us. CoreStands object.type_of object.meta_of (core_world w) us core2) (closed-events w h t es may.parts.agrees closed k e fs) core_stands) in
                let now = subst (λ c. CoreStands object.type_of object.meta_of (core_world w) (es ++ closing w h t fs) c) (sym rest.1) before in
                let world = subst (IsWorldOfAsks root related delays object w) (sym stay.1) (begun-world root related delays object w h t a core may a1 budget same begun stands) in
                let sources = subst (AsksStand root related delays object w t.budget (exchanges h) []) (sym stay.1) (begun-stands root related delays object w h t a core may a1 budget same begun stands) in
                closed-taken root related delays object w h t a core may v fs z a' core' q (closed-now w h t es may.parts.agrees closed k ∙ e)
                (ap (λ (c : Asking R S B). c.root) stay.1 ∙ same-root) (ap (λ (c : Asking R S B). c.related) stay.1 ∙ same-related) world sources
                (ap (λ (c : Asking R S B). c.is_spent) stay.1 ∙ begun-unspent root related delays object w h t a core may a1 budget same begun stands) now
                at finished (asked ∙ stay.0) (stopped t.budget (exchanges h) [] world sources ∙ ap (stops_of w t.budget (exchanges h) []) e) (taken ∙ rest.0) runs
                (shown (es ++ closing w h t fs) before) (ends (es ++ closing w h t fs) now)
            go false e =
                let g = went-now e in
                let o : is_closed w h t ≡ false = closed-now w h t es may.parts.agrees closed k ∙ e in
                let all = took (ap not e) asked-all g.core_stands in
                let stops : q.stops ≡ stops_of w t.budget (exchanges h) (dated t.at xs) false =
                stopped t.budget (exchanges h) (dated t.at xs) g.asked.may.world g.asked.may.asks_stand ∙ ap (stops_of w t.budget (exchanges h) (dated t.at xs)) e in
                let now = core-now root related delays object w h t a core may v fs z a1 a' core' xs ts q o same-root same-related core3 g all at finished asked stops taken runs in
                let before =
                events-before es (map (finish_event t.at) fs) (requests_first t.at t.reload t.on) (map (Answered t.at) xs) (Settled t.at ∷ []) (shut_if (gave_up w (exchanges_with h t xs)) t.at)
                (reload_events t.at t.reload) (map (Requested t.at) t.on) refl in
                open-taken root related delays object w h t a core may v fs z a1 a' core' xs ts q o same-root same-related core3 g all at finished asked stops taken runs
                (shown (es ++ before_takes w h t fs xs) (subst (λ us. CoreStands object.type_of object.meta_of (core_world w) us core3) before g.core_stands)
                ∙ ap (λ os. if t.show then Some os else None) (cache-same (core_world w) t.at ts (es ++ before_takes w h t fs xs)))
                (ends (es ++ before_takes w h t fs xs ++ takes t.at ts) now)

module _ {R S B O D : Type 0} (root : root_source.Ghosts R O D) (related : related_set.Ghosts S O D) (delays : backoff.Ghosts B) (object : resource.Ghosts O D) (w : World O B) (h : List (Step O)) (t : Turn)
    (a : Asking R S B) (core : Parts O D) (may : MayGoOn root related delays object w h a core) where
  -- asks stand for what they stood for, also as a turn begins
  pub begun-so : AskStands w (root.stands a.root) (related.stands a.related) (length (related.feeds a.related)) t.budget (may.parts.before ++ may.parts.mine) [] (asking_begun a t.budget).kept
  begun-so = record {
    sources = subst (SourcesStand (root.stands a.root) (related.stands a.related) (length (related.feeds a.related))) (sym (append-nil (may.parts.before ++ may.parts.mine))) may.parts.asks_stand.sources;
    kept = kept-begun w may.parts.budget t.budget may.parts.before may.parts.mine a.kept may.parts.asks_stand.kept;
  }

  -- memory was wanting before the turn began
  pub ended-still : (closed : Bool) → closed ≡ (was_shut may.parts.events || asks_shutdown t.shutdown) → (kept : Kept O) → kept ≡ core.writer.kept → (a' : Asking R S B) → a' ≡ a
      → AreEndedBy root related w h t faults.NoMemory kept [] a.root a.related a'.root a'.related
  ended-still closed k kept e a' same =
      subst (λ (z : Asking R S B). AreEndedBy root related w h t faults.NoMemory kept [] a.root a.related z.root z.related) (sym same)
      (ended-none root related delays object w h t a core may (asking_begun a t.budget) t.budget refl refl begun-so closed k kept e)
