-- What the exchanges of one poll come to.
use Rattle.std.proofs.Common.{◌≡◌, ℕ, zero, suc, ◌+◌, ◌<◌, length, Bool, true, false, not, List, [], ◌∷◌, ◌++◌, map, Option, Some, None, refl, sym, ap, ◌∙◌, subst, append_assoc, append-nil, inr, replicate, arith}
use Rattle.std.proofs.lemmas.List.{length-append}
use Rattle.kube_meta.specs.declared.poll.Next.{Next}
use Rattle.kube_meta.specs.declared.poll.Next.TheVariants.{Item, NotReady, Spent}
use Rattle.kube_model.specs.declared.call.Answer.{Answer}
use Rattle.kube_model.specs.declared.call.Answer.TheVariants.{Page, Opened, Added, Modified, Deleted, Bookmark, ErrorItem, Fault, End, NotReady as Unready, Idle, Item as StreamItem, Spent as StreamSpent}
use Rattle.kube_model.specs.World.{Settings, Watched}
use Rattle.kube_model.specs.History.{Dated, Exchange}
use Rattle.kube_model.specs.Owed.{is_not_ready, owed}
use Rattle.kube_watch.specs.Calls.{IsAskedOnce}
use Rattle.kube_watch.specs.Configs.{settings_of}
use Rattle.kube_watch.specs.Stands.{StandsFor, exchanges_in, row_of, settings_in}
use Rattle.kube_watch.specs.Watching.{Told, Watching}
use Rattle.kube_watch.specs.Polls.{Look, Tells, Waits, Quiet, look_of, answered_by, polled, told_by, looks, IsNext, AreNext, dated_now, Api, IsCall, AreCalls, AreQuiet, Exchanged, Lost, LostAfter, Polled, Filled}

-- so many exchanges that tell nothing
abbrev pub quiets : {T : Type 0} → ℕ → List (Look T)
quiets zero = []
quiets (suc n) = Quiet ∷ quiets n

pub quiets-snoc : {T : Type 0} (n : ℕ) → quiets {T = T} n ++ Quiet ∷ [] ≡ quiets (n + 1)
quiets-snoc zero = refl
quiets-snoc {T = T} (suc n) = (let e : suc (n + 1) ≡ suc n + 1 = omega arith in ap (λ ls. Quiet ∷ ls) (quiets-snoc n) ∙ ap (quiets {T = T}) e)

quiets-all : {T : Type 0} (n : ℕ) → quiets {T = T} n ≡ replicate n Quiet
quiets-all zero = refl
quiets-all {T = T} (suc n) = ap (λ ls. Quiet ∷ ls) (quiets-all {T = T} n)

pub quiets-of : {T X : Type 0} (xs : List X) (n : ℕ) → length xs ≡ n → quiets {T = T} n ≡ replicate (length xs) Quiet
quiets-of {T = T} xs n count = quiets-all {T = T} n ∙ ap (λ k. replicate k Quiet) (sym count)

-- how a poll ends by an exchange
abbrev pub ended_by : {T : Type 0} → Look T → Option (Next T × List T)
ended_by (Tells first rest) = Some (Item first, rest)
ended_by Waits = Some (NotReady, [])
ended_by Quiet = None

pub answered-then : {T : Type 0} (n fuel : ℕ) (l : Look T) (r : Next T × List T) → ended_by l ≡ Some r → n < fuel → answered_by fuel (quiets n ++ l ∷ []) ≡ Some r
answered-then zero zero l r h less = absurd (omega arith)
answered-then zero (suc fuel) (Tells first rest) r h less = h
answered-then zero (suc fuel) Waits r h less = h
answered-then zero (suc fuel) Quiet r h less = absurd (cc)
answered-then (suc n) zero l r h less = absurd (omega arith)
answered-then (suc n) (suc fuel) l r h less = answered-then n fuel l r h (omega arith)

pub answered-quiet : {T : Type 0} (fuel : ℕ) → answered_by {T = T} fuel (quiets fuel) ≡ Some (Spent, [])
answered-quiet zero = refl
answered-quiet (suc fuel) = answered-quiet fuel

pub look-unready : {T : Type 0} (a : Answer) → not (is_not_ready a) ≡ false → look_of {T = T} [] a ≡ Waits
look-unready (Page token version) h = absurd (cc)
look-unready Opened h = absurd (cc)
look-unready (Added version) h = absurd (cc)
look-unready (Modified version) h = absurd (cc)
look-unready (Deleted version) h = absurd (cc)
look-unready (Bookmark version ending) h = absurd (cc)
look-unready (ErrorItem status) h = absurd (cc)
look-unready (Fault error) h = absurd (cc)
look-unready End h = absurd (cc)
look-unready Unready h = refl
look-unready Idle h = absurd (cc)
look-unready StreamItem h = absurd (cc)
look-unready StreamSpent h = absurd (cc)

pub look-ready : {T : Type 0} (a : Answer) → not (is_not_ready a) ≡ true → look_of {T = T} [] a ≡ Quiet
look-ready (Page token version) h = refl
look-ready Opened h = refl
look-ready (Added version) h = refl
look-ready (Modified version) h = refl
look-ready (Deleted version) h = refl
look-ready (Bookmark version ending) h = refl
look-ready (ErrorItem status) h = refl
look-ready (Fault error) h = refl
look-ready End h = refl
look-ready Unready h = absurd (cc)
look-ready Idle h = refl
look-ready StreamItem h = refl
look-ready StreamSpent h = refl

module _ {V : Type 0} (settings : Settings) where
  pub looks-snoc : (before xs : List (Exchange V)) (x : Exchange V)
      → looks settings before (xs ++ x ∷ []) ≡ looks settings before xs ++ look_of (told_by (row_of settings (before ++ xs) x)) x.answer ∷ []
  looks-snoc before [] x = ap (λ b. look_of (told_by (row_of settings b x)) x.answer ∷ []) (sym (append-nil before))
  looks-snoc before (y ∷ xs) x =
      ap (λ ls. look_of (told_by (row_of settings before y)) y.answer ∷ ls)
      (looks-snoc (before ++ y ∷ []) xs x
      ∙ ap (λ b. looks settings (before ++ y ∷ []) xs ++ look_of (told_by (row_of settings b x)) x.answer ∷ []) (append_assoc before (y ∷ []) xs))

  pub next-snoc : (now : ℕ) (ds : List (Dated V)) (xs : List (Exchange V)) (x : Exchange V) → AreNext settings ds now xs
      → IsNext settings (ds ++ map (dated_now now) xs) now x → AreNext settings ds now (xs ++ x ∷ [])
  next-snoc now ds [] x made next = (subst (λ d. IsNext settings d now x) (append-nil ds) next, tt)
  next-snoc now ds (y ∷ xs) x made next = (
    made.0,
    next-snoc now (ds ++ dated_now now y ∷ []) xs x made.1
        (subst (λ d. IsNext settings d now x) (sym (append_assoc ds (dated_now now y ∷ []) (map (dated_now now) xs))) next),
  )

exchanges-now : {V : Type 0} (now : ℕ) (xs : List (Exchange V)) → exchanges_in (map (dated_now now) xs) ≡ xs
exchanges-now now [] = refl
exchanges-now now (x ∷ xs) = ap (λ ys. x ∷ ys) (exchanges-now now xs)

exchanges-append : {V : Type 0} (ds es : List (Dated V)) → exchanges_in (ds ++ es) ≡ exchanges_in ds ++ exchanges_in es
exchanges-append [] es = refl
exchanges-append (d ∷ ds) es = ap (λ ys. d.exchange ∷ ys) (exchanges-append ds es)

pub exchanges-with : {V : Type 0} (now : ℕ) (ds : List (Dated V)) (xs : List (Exchange V)) → exchanges_in (ds ++ map (dated_now now) xs) ≡ exchanges_in ds ++ xs
exchanges-with now ds xs = exchanges-append ds (map (dated_now now) xs) ∙ ap (λ ys. exchanges_in ds ++ ys) (exchanges-now now xs)

dated-snoc : {V : Type 0} (now : ℕ) (ds : List (Dated V)) (xs : List (Exchange V)) (x : Exchange V)
    → (ds ++ map (dated_now now) xs) ++ dated_now now x ∷ [] ≡ ds ++ map (dated_now now) (xs ++ x ∷ [])
dated-snoc now [] [] x = refl
dated-snoc now [] (y ∷ xs) x = ap (λ es. dated_now now y ∷ es) (dated-snoc now [] xs x)
dated-snoc now (d ∷ ds) xs x = ap (λ es. d ∷ es) (dated-snoc now ds xs x)

module _ {A V : Type 0} (api : Api A V) (now : ℕ) where
  calls-snoc : (settings : Settings) (old middle new : A) (xs : List (Exchange V)) (x : Exchange V) → AreCalls api settings now old xs middle
      → IsCall api settings now middle x new → AreCalls api settings now old (xs ++ x ∷ []) new
  calls-snoc settings old middle new [] x same call = (new, subst (λ a. IsCall api settings now a x new) same call, refl)
  calls-snoc settings old middle new (y ∷ xs) x calls call = (calls.0, calls.1, calls-snoc settings calls.0 middle new xs x calls.2 call)

  -- none were made
  pub exchanged-none : (w : Watching A V) → Exchanged api now w [] w
  exchanged-none w = record {
    calls = refl;
    made = λ ds h. tt;
    stands = λ ds h. subst (λ d. StandsFor d w) (sym (append-nil ds)) h;
    config = refl;
  }

  -- one more was made
  pub exchanged-more : (old w new : Watching A V) (xs : List (Exchange V)) (b : Bool) → Exchanged api now old xs w → (f : Filled api now w b new)
      → Exchanged api now old (xs ++ f.exchange ∷ []) new
  exchanged-more old w new xs b e f =
      let same : settings_in w ≡ settings_in old = ap settings_of e.config in
      record {
        calls = calls-snoc (settings_in old) old.api w.api new.api xs f.exchange e.calls (subst (λ s. IsCall api s now w.api f.exchange new.api) same f.call);
        made = λ ds h. next-snoc (settings_in old) now ds xs f.exchange (e.made ds h)
            (subst (λ s. IsNext s (ds ++ map (dated_now now) xs) now f.exchange) same (f.made (ds ++ map (dated_now now) xs) (e.stands ds h)));
        stands = λ ds h. subst (λ d. StandsFor d new) (dated-snoc now ds xs f.exchange) (f.stands (ds ++ map (dated_now now) xs) (e.stands ds h));
        config = f.config ∙ e.config;
      }

  -- what waits makes no difference
  pub exchanged-as : (old w new : Watching A V) (xs : List (Exchange V)) → Exchanged api now old xs w → new ≡ record w { waiting = new.waiting } → Exchanged api now old xs new
  exchanged-as old w new xs e same = record {
    calls = subst (λ a. AreCalls api (settings_in old) now old.api xs a) (sym (ap (λ (v : Watching A V). v.api) same)) e.calls;
    made = e.made;
    stands = λ ds h. (let s = e.stands ds h in subst (λ v. StandsFor (ds ++ map (dated_now now) xs) v) (sym same) (record { stands = s.stands; unspent = s.unspent }));
    config = ap (λ (v : Watching A V). v.config) same ∙ e.config;
  }

  -- what the last of them told is what waits
  pub told-last : (old w new : Watching A V) (xs : List (Exchange V)) (b : Bool) → (e : Exchanged api now old xs w) → (f : Filled api now w b new) → (ds : List (Dated V)) → StandsFor ds old
      → told_by (row_of (settings_in old) (exchanges_in ds ++ xs) f.exchange) ≡ new.waiting
  told-last old w new xs b e f ds h =
      ap (λ b. told_by (row_of (settings_in old) b f.exchange)) (sym (exchanges-with now ds xs))
      ∙ (ap (λ s. told_by (row_of s (exchanges_in (ds ++ map (dated_now now) xs)) f.exchange)) (sym (ap settings_of e.config))
      ∙ sym (f.told (ds ++ map (dated_now now) xs) (e.stands ds h)))

  -- so many exchanges were made that told nothing
  pub record AllQuiet (n : ℕ) (old w : Watching A V) : Type 0 where
    pub exchanges : List (Exchange V)
    pub exchanged : Exchanged api now old exchanges w
    pub count : length exchanges ≡ n
    pub quiet : (ds : List (Dated V)) → StandsFor ds old → looks (settings_in old) (exchanges_in ds) exchanges ≡ quiets n
    pub waiting : w.waiting ≡ []

  pub none-made : (w : Watching A V) → w.waiting ≡ [] → AllQuiet 0 w w
  none-made w none = record { exchanges = []; exchanged = exchanged-none w; count = refl; quiet = λ ds h. refl; waiting = none }

  -- one more exchange, whatever it tells
  pub record OneMore (n : ℕ) (old w : Watching A V) (was_ready : Bool) : Type 0 where
    pub exchanges : List (Exchange V)
    pub last : Exchange V
    pub exchanged : Exchanged api now old (exchanges ++ last ∷ []) w
    pub count : length exchanges ≡ n
    pub looked : (ds : List (Dated V)) → StandsFor ds old → looks (settings_in old) (exchanges_in ds) (exchanges ++ last ∷ []) ≡ quiets n ++ look_of w.waiting last.answer ∷ []
    pub ready : was_ready ≡ not (is_not_ready last.answer)

  pub one-more : (n : ℕ) (old w new : Watching A V) (was_ready : Bool) → AllQuiet n old w → (f : Filled api now w was_ready new) → OneMore n old new was_ready
  one-more n old w new was_ready q f = record {
    exchanges = q.exchanges;
    last = f.exchange;
    exchanged = exchanged-more old w new q.exchanges was_ready q.exchanged f;
    count = q.count;
    looked = λ ds h.
        looks-snoc (settings_in old) (exchanges_in ds) q.exchanges f.exchange
        ∙ (ap (λ ls. ls ++ look_of (told_by (row_of (settings_in old) (exchanges_in ds ++ q.exchanges) f.exchange)) f.exchange.answer ∷ []) (q.quiet ds h)
        ∙ ap (λ t. quiets n ++ look_of t f.exchange.answer ∷ []) (told-last old w new q.exchanges was_ready q.exchanged f ds h));
    ready = f.ready;
  }

  -- the poll ends by the last of these exchanges
  ended : (n fuel : ℕ) (old w new : Watching A V) (b : Bool) (m : OneMore n old w b) (answer : Next (Told V)) → old.waiting ≡ [] → n < fuel
      → new ≡ record w { waiting = new.waiting } → ended_by (look_of w.waiting m.last.answer) ≡ Some (answer, new.waiting) → Polled api now fuel old answer new
  ended n fuel old w new b m answer none less same ends = record {
    exchanges = m.exchanges ++ m.last ∷ [];
    exchanged = exchanged-as old w new (m.exchanges ++ m.last ∷ []) m.exchanged same;
    answered = λ ds h.
        ap (λ ws. polled ws fuel (looks (settings_in old) (exchanges_in ds) (m.exchanges ++ m.last ∷ []))) none
        ∙ (ap (answered_by fuel) (m.looked ds h) ∙ answered-then n fuel (look_of w.waiting m.last.answer) (answer, new.waiting) ends less);
  }

  pub ended-told : (n fuel : ℕ) (old w new : Watching A V) (b : Bool) → OneMore n old w b → (told : Told V) → old.waiting ≡ [] → n < fuel
      → w.waiting ≡ told ∷ new.waiting → new ≡ record w { waiting = new.waiting } → Polled api now fuel old (Item told) new
  ended-told n fuel old w new b m told none less waits same =
      ended n fuel old w new b m (Item told) none less same (ap (λ ws. ended_by (look_of ws m.last.answer)) waits)

  pub ended-unready : (n fuel : ℕ) (old w new : Watching A V) (b : Bool) → OneMore n old w b → old.waiting ≡ [] → n < fuel → w.waiting ≡ [] → new ≡ w → b ≡ false
      → Polled api now fuel old NotReady new
  ended-unready n fuel old w new b m none less waits same unready =
      subst (λ v. Polled api now fuel old NotReady v) (sym same)
      (ended n fuel old w w b m NotReady none less refl
      (ap (λ ws. ended_by (look_of ws m.last.answer)) waits
      ∙ (ap ended_by (look-unready m.last.answer (sym m.ready ∙ unready)) ∙ ap (λ ws. Some (NotReady, ws)) (sym waits))))

  pub went-on : (n : ℕ) (old w new : Watching A V) (b : Bool) → OneMore n old w b → w.waiting ≡ [] → new ≡ w → b ≡ true → AllQuiet (n + 1) old new
  went-on n old w new b m waits same ready =
      subst (λ v. AllQuiet (n + 1) old v) (sym same)
      (record {
        exchanges = m.exchanges ++ m.last ∷ [];
        exchanged = m.exchanged;
        count = length-append m.exchanges (m.last ∷ []) ∙ ap (λ k. k + 1) m.count;
        quiet = λ ds h.
            m.looked ds h
            ∙ (ap (λ ws. quiets n ++ look_of ws m.last.answer ∷ []) waits
            ∙ (ap (λ l. quiets n ++ l ∷ []) (look-ready m.last.answer (sym m.ready ∙ ready)) ∙ quiets-snoc n));
        waiting = waits;
      })

  pub ended-spent : (n fuel : ℕ) (old w : Watching A V) → AllQuiet n old w → n ≡ fuel → old.waiting ≡ [] → Polled api now fuel old Spent w
  ended-spent n fuel old w q all none = record {
    exchanges = q.exchanges;
    exchanged = q.exchanged;
    answered = λ ds h.
        ap (λ ws. polled ws fuel (looks (settings_in old) (exchanges_in ds) q.exchanges)) none
        ∙ (ap (answered_by fuel) (q.quiet ds h) ∙ (ap (λ k. answered_by fuel (quiets k)) all ∙ (answered-quiet fuel ∙ ap (λ ws. Some (Spent, ws)) (sym q.waiting))));
  }

  -- memory could not be had after these
  pub lost-after : (fuel : ℕ) (is_so : List (Exchange V) → List (Exchange V) → Type 0) (old w new : Watching A V) (xs : List (Exchange V)) → Exchanged api now old xs w → length xs < fuel
      → ((ds : List (Dated V)) → StandsFor ds old → is_so (exchanges_in ds) xs)
      → ((ds : List (Dated V)) → StandsFor ds w → IsAskedOnce (settings_in w) (owed (Watched (settings_in w)) (exchanges_in ds)) (api.talk w.api) (api.talk new.api))
      → LostAfter api now fuel is_so old new
  lost-after fuel is_so old w new xs e few told lost = record {
    exchanges = xs;
    reached = w.api;
    few = few;
    calls = e.calls;
    made = e.made;
    told = told;
    once = λ ds h.
        subst (λ s. IsAskedOnce s (owed (Watched s) (exchanges_in ds ++ xs)) (api.talk w.api) (api.talk new.api)) (ap settings_of e.config)
        (subst (λ ys. IsAskedOnce (settings_in w) (owed (Watched (settings_in w)) ys) (api.talk w.api) (api.talk new.api)) (exchanges-with now ds xs)
        (lost (ds ++ map (dated_now now) xs) (e.stands ds h)));
  }

  pub lost-quiet : (n fuel : ℕ) (old w new : Watching A V) → AllQuiet n old w → n < fuel → old.waiting ≡ []
      → ((ds : List (Dated V)) → StandsFor ds w → IsAskedOnce (settings_in w) (owed (Watched (settings_in w)) (exchanges_in ds)) (api.talk w.api) (api.talk new.api))
      → Lost api now fuel old new
  lost-quiet n fuel old w new q less none lost =
      inr (none, lost-after fuel (AreQuiet (settings_in old)) old w new q.exchanges q.exchanged (let k = q.count in omega arith) (λ ds h. q.quiet ds h ∙ quiets-of q.exchanges n q.count) lost)

  -- what waits is given without an exchange
  pub given-first : (fuel : ℕ) (old new : Watching A V) (told : Told V) → old.waiting ≡ told ∷ new.waiting → new ≡ record old { waiting = new.waiting }
      → Polled api now fuel old (Item told) new
  given-first fuel old new told waits same = record {
    exchanges = [];
    exchanged = exchanged-as old old new [] (exchanged-none old) same;
    answered = λ ds h. ap (λ ws. polled ws fuel []) waits;
  }

  -- a watcher that kept what one exchange told
  pub filled : (old w v : Watching A V) (same : v ≡ w) (x : Exchange V) (told : List (Told V)) (b : Bool) → IsCall api (settings_in old) now old.api x w.api
      → ((ds : List (Dated V)) → StandsFor ds old → IsNext (settings_in old) ds now x)
      → ((ds : List (Dated V)) → StandsFor ds old → told ≡ told_by (row_of (settings_in old) (exchanges_in ds) x))
      → b ≡ not (is_not_ready x.answer)
      → ((ds : List (Dated V)) → StandsFor ds old → StandsFor (ds ++ dated_now now x ∷ []) w) → w.config ≡ old.config
      → Filled api now old b (record v { waiting = told })
  filled old w v same x told b call made tells ready stands config = record {
    exchange = x;
    call = subst (λ (u : Watching A V). IsCall api (settings_in old) now old.api x u.api) (sym same) call;
    made = made;
    told = tells;
    ready = ready;
    stands = λ ds h. (let s = subst (λ u. StandsFor (ds ++ dated_now now x ∷ []) u) (sym same) (stands ds h) in record { stands = s.stands; unspent = s.unspent });
    config = ap (λ (u : Watching A V). u.config) same ∙ config;
  }
