-- A root that is fed by the settled objects of a watcher and was not ready: nothing is still to be given.
use Rattle.std.proofs.Common.{◌≡◌, ℕ, zero, suc, ◌<◌, Bool, true, false, List, [], ◌∷◌, ◌++◌, map, Option, Some, None, Ok, Err, refl, sym, ap, ap₂, subst, inl, inr, arith}
use Rattle.std.specs.Arc.{arc_value}
use Rattle.kube_meta.specs.declared.metadata.ObjectMeta.{ObjectMeta}
use Rattle.kube_meta.specs.declared.poll.Next.{Next}
use Rattle.kube_meta.specs.declared.poll.Next.TheVariants.{Item, NotReady, Spent, End}
use Rattle.kube_model.specs.History.{Dated}
use Rattle.kube_watch.specs.Polls.{Api, Look, Quiet, Tells, Waits, answered_by, looks, polled}
use Rattle.kube_watch.specs.Stands.{StandsFor, exchanges_in, settings_in, waiting_in}
use Rattle.kube_watch.specs.Streams.{Answer}
use Rattle.kube_watch.specs.Watching.{Watching}
use Rattle.kube_streams.specs.Adapts.{Adapting, Advanced, AreQuiet, Asked, ComesTo, Gave, Told}
use Rattle.kube_alike.specs.Settles.{Settling, all_settled, objects_in, still_to_give, watcher_in}
use Rattle.kube_alike.proofs.SettlesHeard.{ApplyPolls, NeverUnnamed, Takes, WatchPolls, passed-same}

-- not ready, or the end
abbrev pub silent : {J : Type 0} → Bool → Answer J
silent true = Ok NotReady
silent false = Ok End

abbrev next_silent : {T : Type 0} → Bool → Next T
next_silent true = NotReady
next_silent false = End

-- ---- of a watcher

abbrev answer_in : {T : Type 0} → Option (Next T × List T) → Next T
answer_in None = Spent
answer_in (Some p) = p.0

abbrev rest_in : {T : Type 0} → Option (Next T × List T) → List T
rest_in None = []
rest_in (Some p) = p.1

-- what a silent poll says of the watcher: it was not ready, and nothing waits
abbrev IsIdle : {T : Type 0} → Bool → List T → Type 0
IsIdle e rest = (e ≡ true) × (rest ≡ [])

module _ {T : Type 0} where
  no-item : (e : Bool) (t : T) → Item t ≡ next_silent e → ⊥
  no-item true t h = cc
  no-item false t h = cc

  no-spent : (e : Bool) → Spent ≡ next_silent {T = T} e → ⊥
  no-spent true h = cc
  no-spent false h = cc

  waits-idle : (e : Bool) (rest : List T) → NotReady ≡ next_silent {T = T} e → [] ≡ rest → IsIdle e rest
  waits-idle true rest h k = (refl, sym k)
  waits-idle false rest h k = absurd (cc)

  answered-silent : (e : Bool) (fuel : ℕ) (ls : List (Look T)) (rest : List T) → answered_by fuel ls ≡ Some (next_silent e, rest) → IsIdle e rest
  answered-silent e zero [] rest h = absurd (no-spent e (ap answer_in h))
  answered-silent e zero (l ∷ ls) rest h = absurd (no-spent e (ap answer_in h))
  answered-silent e (suc n) [] rest h = absurd (no-spent e (ap answer_in h))
  answered-silent e (suc n) (Quiet ∷ ls) rest h = answered-silent e n ls rest h
  answered-silent e (suc n) (Tells first more ∷ []) rest h = absurd (no-item e first (ap answer_in h))
  answered-silent e (suc n) (Waits ∷ []) rest h = waits-idle e rest (ap answer_in h) (ap rest_in h)
  answered-silent e (suc n) (Tells first more ∷ m ∷ ls) rest h = absurd (no-spent e (ap answer_in h))
  answered-silent e (suc n) (Waits ∷ m ∷ ls) rest h = absurd (no-spent e (ap answer_in h))

  polled-silent : (e : Bool) (waiting : List T) (fuel : ℕ) (ls : List (Look T)) (rest : List T) → polled waiting fuel ls ≡ Some (next_silent e, rest) → IsIdle e rest
  polled-silent e (t ∷ ts) fuel [] rest h = absurd (no-item e t (ap answer_in h))
  polled-silent e (t ∷ ts) fuel (l ∷ ls) rest h = absurd (no-spent e (ap answer_in h))
  polled-silent e [] fuel ls rest h = answered-silent e fuel ls rest h

-- ---- of what is made of a stream

module _ {S T I J : Type 0} (polls : S → ℕ → ℕ → Answer I → S → Type 0) (takes : ℕ → T → Told I → List (Told J) → T → Type 0) (unnamed : T → Told I → Type 0) where
  -- a silent answer comes of one alone
  comes-silent : (e : Bool) (now : ℕ) (t : T) (last : Answer I) (rest : List (Told J)) (u : T) → ComesTo polls takes unnamed now t last (silent e) rest u → (last ≡ silent e) × (rest ≡ [])
  comes-silent true now t (Ok (Item told)) rest u c = absurd c
  comes-silent true now t (Ok NotReady) rest u c = (refl, c.1)
  comes-silent true now t (Ok Spent) rest u c = absurd c
  comes-silent true now t (Ok End) rest u c = absurd (let f : silent {J = J} true ≡ Ok End = c.0 in cc)
  comes-silent true now t (Err fault) rest u c = absurd (let f : silent {J = J} true ≡ Err fault = c.0 in cc)
  comes-silent false now t (Ok (Item told)) rest u c = absurd c
  comes-silent false now t (Ok NotReady) rest u c = absurd (let f : silent {J = J} false ≡ Ok NotReady = c.0 in cc)
  comes-silent false now t (Ok Spent) rest u c = absurd c
  comes-silent false now t (Ok End) rest u c = (refl, c.1)
  comes-silent false now t (Err fault) rest u c = absurd (let f : silent {J = J} false ≡ Err fault = c.0 in cc)

  not-first : (e : Bool) (first : Told J) → silent e ≡ Ok (Item first) → ⊥
  not-first true first h = cc
  not-first false first h = cc

  not-spent : (e : Bool) → silent {J = J} e ≡ Ok Spent → ⊥
  not-spent true h = cc
  not-spent false h = cc

  gave-silent : (e : Bool) (now : ℕ) (s : S) (t : T) (rest : List (Told J)) (r : S) (u : T) → Gave polls takes unnamed now 1 s t (silent e) rest r u → (rest ≡ []) × polls s now 1 (silent e) r
  gave-silent e now s t rest r u g =
      let few : g.idle < 1 = g.few in
      let none : g.idle ≡ 0 = omega arith in
      let quiet = subst (λ n. AreQuiet polls takes unnamed n now s t g.stream g.adapt) none g.quiet in
      let came = comes-silent e now g.adapt g.last rest u g.comes in
      (came.1, subst (λ q. polls q now 1 (silent e) r) quiet.0 (subst (λ a. polls g.stream now 1 a r) came.0 g.polled))

  asked-silent : (e : Bool) (now : ℕ) (s : S) (t : T) (rest : List (Told J)) (r : S) (u : T) → Asked polls takes unnamed now 1 s t (silent e) rest r u → (rest ≡ []) × polls s now 1 (silent e) r
  asked-silent e now s t rest r u (inl g) = gave-silent e now s t rest r u g
  asked-silent e now s t rest r u (inr g) = absurd (not-spent e g.0)

  pub advanced-silent : (e : Bool) (waiting : List (Told J)) (a : Adapting S T J) (now : ℕ) (b : Adapting S T J) → Advanced polls takes unnamed waiting a now 1 (silent e) b
      → (b.waiting ≡ []) × polls a.stream now 1 (silent e) b.stream
  advanced-silent e [] a now b p = asked-silent e now a.stream a.adapt b.waiting b.stream b.adapt p.0
  advanced-silent e (first ∷ rest) a now b p = absurd (not-first e first p.0)

module _ {A V : Type 0} (meta : V → ObjectMeta) (api : Api A V) where
  watch-silent : (e : Bool) (ds : List (Dated V)) (now : ℕ) (a b : Watching A V) → StandsFor ds a → WatchPolls meta api a now 1 (silent e) b → IsIdle e b.waiting
  watch-silent true ds now a b stands p =
      let q = p.0.1 in polled-silent true a.waiting 1 (looks (settings_in a) (exchanges_in ds) q.exchanges) b.waiting (q.answered ds stands)
  watch-silent false ds now a b stands p =
      let q = p.0.1 in polled-silent false a.waiting 1 (looks (settings_in a) (exchanges_in ds) q.exchanges) b.waiting (q.answered ds stands)

  -- a silent poll was one that was not ready, and nothing is still to be given
  pub silent-rests : (e : Bool) (ds : List (Dated V)) (now : ℕ) (a b : Settling A V) → StandsFor ds (watcher_in a) → Advanced (ApplyPolls meta api) Takes NeverUnnamed a.waiting a now 1 (silent e) b
      → (e ≡ true) × (still_to_give b ≡ []) × (waiting_in (watcher_in b) ≡ [])
  silent-rests true ds now a b stands p =
      let q = advanced-silent (ApplyPolls meta api) Takes NeverUnnamed true a.waiting a now b p in
      let idle = watch-silent true ds now (watcher_in a) (watcher_in b) stands (passed-same arc_value meta (WatchPolls meta api) a.stream.fault now a.stream (Ok NotReady) b.stream refl q.1.0) in
      (refl, ap₂ (λ ws ts. map arc_value (objects_in ws) ++ objects_in (all_settled (map arc_value b.adapt) ts)) q.0 idle.1, idle.1)
  silent-rests false ds now a b stands p =
      let q = advanced-silent (ApplyPolls meta api) Takes NeverUnnamed false a.waiting a now b p in
      let idle = watch-silent false ds now (watcher_in a) (watcher_in b) stands (passed-same arc_value meta (WatchPolls meta api) a.stream.fault now a.stream (Ok End) b.stream refl q.1.0) in
      (idle.0, ap₂ (λ ws ts. map arc_value (objects_in ws) ++ objects_in (all_settled (map arc_value b.adapt) ts)) q.0 idle.1, idle.1)
