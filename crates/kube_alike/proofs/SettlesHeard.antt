-- What answers of a stream that applies the events of a watcher gave, by the exchanges that the watcher made.
use Rattle.std.proofs.Common.{◌≡◌, ℕ, zero, suc, ◌<◌, List, [], ◌∷◌, ◌++◌, map, replicate, Option, Some, None, Ok, Err, refl, sym, ap, ap₂, subst, ◌∙◌, append_assoc, append-nil, inl, inr, arith}
use Rattle.std.specs.Arc.{arc_value}
use Rattle.std.specs.declared.sync.Arc.{Arc}
use Rattle.std.specs.declared.alloc.Global.{Global}
use Rattle.std.proofs.lemmas.List.{map-append}
use Rattle.std.proofs.lemmas.List.Sums.{fold-append}
use Rattle.kube_meta.specs.declared.metadata.ObjectMeta.{ObjectMeta}
use Rattle.kube_meta.specs.declared.poll.Next.{Next}
use Rattle.kube_meta.specs.declared.poll.Next.TheVariants.{Item, NotReady, Spent, End}
use Rattle.kube_model.specs.declared.call.Answer.{Answer as CallAnswer}
use Rattle.kube_model.specs.declared.call.Answer.TheVariants as answers
use Rattle.kube_model.specs.World.{Settings}
use Rattle.kube_model.specs.History.{Dated, Exchange}
use Rattle.kube_watch.specs.declared.event.Event.{Event}
use Rattle.kube_watch.specs.declared.event.Event.TheVariants.{Apply, Delete, Init, InitApply, InitDone}
use Rattle.kube_watch.specs.declared.stream.StreamFault.{StreamFault}
use Rattle.kube_watch.specs.Asking.{Asked, Polls, Said, fault_in}
use Rattle.kube_watch.specs.Configs.{settings_of}
use Rattle.kube_watch.specs.Polls.{Api, AreCalls, AreNext, IsPolled, Look, Quiet, Tells, Waits, answered_by, dated_now, look_of, looks, polled, told_by}
use Rattle.kube_watch.specs.Stands.{StandsFor, exchanges_in, row_of, settings_in}
use Rattle.kube_watch.specs.Streams.{Answer}
use Rattle.kube_watch.specs.Watching.{Watching, next_told, told_of}
use Rattle.kube_reflect.specs.Writers.{Writing}
use Rattle.kube_streams.specs.Adapts.{Came, Gives, Told, told_in}
use Rattle.kube_streams.specs.Applies.{AnswerApplied, Applied, Applying, IsApplied}
use Rattle.kube_streams.specs.Decodes.{listed_after, settled}
use Rattle.kube_alike.specs.Keeps.{HasApplied}
use Rattle.kube_alike.specs.Settles.{AreCalled, AreOwed, all_settled, listed_through, objects_in, told_of_all}
use Rattle.kube_alike.proofs.KeptEvents.{applied-all, applied-then}
use Rattle.kube_alike.proofs.SettlesRequests.{objects-all, objects-append, settled-append}

-- ---- one poll of a watcher

abbrev told_next : {T : Type 0} → Next T → List T
told_next (Item t) = t ∷ []
told_next NotReady = []
told_next Spent = []
told_next End = []

abbrev look_told : {T : Type 0} → Look T → List T
look_told (Tells first rest) = first ∷ rest
look_told Waits = []
look_told Quiet = []

abbrev looks_told : {T : Type 0} → List (Look T) → List T
looks_told [] = []
looks_told (l ∷ ls) = look_told l ++ looks_told ls

-- an answer, and what waits after it
abbrev told_then : {T : Type 0} → Option (Next T × List T) → List T
told_then None = []
told_then (Some p) = told_next p.0 ++ p.1

module _ {T : Type 0} where
  look-is : (ts : List T) (a : CallAnswer) → look_told (look_of ts a) ≡ ts
  look-is (t ∷ ts) a = refl
  look-is [] answers.NotReady = refl
  look-is [] a = refl

  no-answer : (p : Next T × List T) → None ≡ Some p → ⊥
  no-answer p e = cc

  -- they are what the exchanges tell
  answered-told : (fuel : ℕ) (ls : List (Look T)) (answer : Next T) (rest : List T) → answered_by fuel ls ≡ Some (answer, rest) → told_next answer ++ rest ≡ looks_told ls
  answered-told zero [] answer rest e = sym (ap told_then e)
  answered-told zero (l ∷ ls) answer rest e = absurd (no-answer (answer, rest) e)
  answered-told (suc n) [] answer rest e = absurd (no-answer (answer, rest) e)
  answered-told (suc n) (Quiet ∷ ls) answer rest e = answered-told n ls answer rest e
  answered-told (suc n) (Tells first more ∷ []) answer rest e = sym (ap told_then e) ∙ sym (append-nil (first ∷ more))
  answered-told (suc n) (Waits ∷ []) answer rest e = sym (ap told_then e)
  answered-told (suc n) (Tells first more ∷ m ∷ ls) answer rest e = absurd (no-answer (answer, rest) e)
  answered-told (suc n) (Waits ∷ m ∷ ls) answer rest e = absurd (no-answer (answer, rest) e)

  polled-told : (waiting : List T) (fuel : ℕ) (ls : List (Look T)) (answer : Next T) (rest : List T) → polled waiting fuel ls ≡ Some (answer, rest)
      → told_next answer ++ rest ≡ waiting ++ looks_told ls
  polled-told (t ∷ ts) fuel [] answer rest e = sym (ap told_then e) ∙ sym (append-nil (t ∷ ts))
  polled-told (t ∷ ts) fuel (l ∷ ls) answer rest e = absurd (no-answer (answer, rest) e)
  polled-told [] fuel ls answer rest e = answered-told fuel ls answer rest e

-- what the exchanges come to is what they tell
looks-told : {V : Type 0} (settings : Settings) (before xs : List (Exchange V)) → looks_told (looks settings before xs) ≡ told_of_all settings before xs
looks-told settings before [] = refl
looks-told settings before (x ∷ xs) = ap₂ (λ a b. a ++ b) (look-is (told_by (row_of settings before x)) x.answer) (looks-told settings (before ++ x ∷ []) xs)

-- an answer told with shared objects
next-told : {V : Type 0} (answer : Next (Told (Event (Arc V Global)))) → map told_of (told_in (Ok answer)) ≡ told_next (next_told answer)
next-told (Item told) = refl
next-told NotReady = refl
next-told Spent = refl
next-told End = refl

exchanges-now : {V : Type 0} (now : ℕ) (xs : List (Exchange V)) → exchanges_in (map (dated_now now) xs) ≡ xs
exchanges-now now [] = refl
exchanges-now now (x ∷ xs) = ap (λ ys. x ∷ ys) (exchanges-now now xs)

module _ {A V : Type 0} (api : Api A V) (settings : Settings) where
  -- exchanges of one moment, each with it
  called-now : (now : ℕ) (a b : A) (xs : List (Exchange V)) → AreCalls api settings now a xs b → AreCalled api settings a (map (dated_now now) xs) b
  called-now now a b [] c = c
  called-now now a b (x ∷ xs) c = (c.0, c.1, called-now now c.0 b xs c.2)

  called-then : (a m b : A) (ds es : List (Dated V)) → AreCalled api settings a ds m → AreCalled api settings m es b → AreCalled api settings a (ds ++ es) b
  called-then a m b [] es p q = subst (λ x. AreCalled api settings x es b) p q
  called-then a m b (d ∷ ds) es p q = (p.0, p.1, called-then p.0 m b ds es p.2 q)

module _ {V : Type 0} (settings : Settings) where
  owed-now : (now : ℕ) (ds : List (Dated V)) (xs : List (Exchange V)) → AreNext settings ds now xs → AreOwed settings ds (map (dated_now now) xs)
  owed-now now ds [] n = tt
  owed-now now ds (x ∷ xs) n = (n.0, owed-now now (ds ++ dated_now now x ∷ []) xs n.1)

  owed-then : (before ds es : List (Dated V)) → AreOwed settings before ds → AreOwed settings (before ++ ds) es → AreOwed settings before (ds ++ es)
  owed-then before [] es p q = subst (λ b. AreOwed settings b es) (append-nil before) q
  owed-then before (d ∷ ds) es p q = (p.0, owed-then (before ++ d ∷ []) ds es p.1 (subst (λ b. AreOwed settings b es) (sym (append_assoc before (d ∷ []) ds)) q))

  all-told-then : (before xs ys : List (Exchange V)) → told_of_all settings before (xs ++ ys) ≡ told_of_all settings before xs ++ told_of_all settings (before ++ xs) ys
  all-told-then before [] ys = ap (λ b. told_of_all settings b ys) (sym (append-nil before))
  all-told-then before (x ∷ xs) ys =
      ap (λ ts. told_by (row_of settings before x) ++ ts)
      (all-told-then (before ++ x ∷ []) xs ys
      ∙ ap (λ b. told_of_all settings (before ++ x ∷ []) xs ++ told_of_all settings b ys) (append_assoc before (x ∷ []) xs))
      ∙ sym (append_assoc (told_by (row_of settings before x)) (told_of_all settings (before ++ x ∷ []) xs) (told_of_all settings (before ++ x ∷ xs) ys))

-- ---- the same with objects that are not shared

module _ {V : Type 0} where
  settled-shared : (l : List (Arc V Global)) (t : Told (Event (Arc V Global))) → map arc_value (objects_in (settled l t)) ≡ objects_in (settled (map arc_value l) (told_of t))
  settled-shared l (Ok (Apply o)) = refl
  settled-shared l (Ok (Delete o)) = refl
  settled-shared l (Ok Init) = refl
  settled-shared l (Ok (InitApply o)) = refl
  settled-shared l (Ok InitDone) = ap (map arc_value) (objects-all l) ∙ sym (objects-all (map arc_value l))
  settled-shared l (Err e) = refl

  listed-shared : (l : List (Arc V Global)) (t : Told (Event (Arc V Global))) → map arc_value (listed_after l t) ≡ listed_after (map arc_value l) (told_of t)
  listed-shared l (Ok (Apply o)) = refl
  listed-shared l (Ok (Delete o)) = refl
  listed-shared l (Ok Init) = refl
  listed-shared l (Ok (InitApply o)) = map-append arc_value l (o ∷ [])
  listed-shared l (Ok InitDone) = refl
  listed-shared l (Err e) = refl

  pub through-shared : (l : List (Arc V Global)) (ts : List (Told (Event (Arc V Global)))) → map arc_value (listed_through l ts) ≡ listed_through (map arc_value l) (map told_of ts)
  through-shared l [] = refl
  through-shared l (t ∷ ts) = through-shared (listed_after l t) ts ∙ ap (λ m. listed_through m (map told_of ts)) (listed-shared l t)

  pub all-shared : (l : List (Arc V Global)) (ts : List (Told (Event (Arc V Global)))) → map arc_value (objects_in (all_settled l ts)) ≡ objects_in (all_settled (map arc_value l) (map told_of ts))
  all-shared l [] = refl
  all-shared l (t ∷ ts) =
      ap (map arc_value) (objects-append (settled l t) (all_settled (listed_after l t) ts))
      ∙ (map-append arc_value (objects_in (settled l t)) (objects_in (all_settled (listed_after l t) ts))
      ∙ (ap₂ (λ a b. a ++ b) (settled-shared l t) (all-shared (listed_after l t) ts ∙ ap (λ m. objects_in (all_settled m (map told_of ts))) (listed-shared l t))
      ∙ sym (objects-append (settled (map arc_value l) (told_of t)) (all_settled (listed_after (map arc_value l) (told_of t)) (map told_of ts)))))

-- ---- many answers of a stream that applies them

-- a stream that is asked with fuel 1 is polled once
asked-once : {S I : Type 0} (polls : S → ℕ → ℕ → Answer I → S → Type 0) (now : ℕ) (s : S) (last : Answer I) (r : S) → Asked polls now 1 s last r → polls s now 1 last r
asked-once polls now s last r a =
    let few : a.idle < 1 = a.few in
    let none : a.idle ≡ 0 = omega arith in
    let p = subst (λ n. Polls polls now s (replicate n (Ok Spent) ++ last ∷ []) r) none a.polled in
    subst (polls s now 1 last) p.2 p.1

module _ {O I : Type 0} (value : I → O) (meta : O → ObjectMeta) where
  is-fault : (answer : Answer (Event I)) (fault : StreamFault) → answer ≡ Err fault → fault_in answer ≡ None → ⊥
  is-fault answer fault e n = (let f : Some fault ≡ None = sym (ap (λ a. fault_in a) e) ∙ n in cc)

  -- an answer that is no fault is the one that the stream gave
  event-same : (w : Writing O) (event : Event I) (answer : Answer (Event I)) (after : Writing O) → fault_in answer ≡ None → IsApplied value meta w event answer after → answer ≡ Ok (Item (Ok event))
  event-same w event answer after n (inl a) = a.1
  event-same w event answer after n (inr (inl a)) = absurd (is-fault answer _ a.1 n)
  event-same w event answer after n (inr (inr a)) = absurd (is-fault answer _ a.0 n)

  answer-same : (w : Writing O) (last answer : Answer (Event I)) (after : Writing O) → fault_in answer ≡ None → AnswerApplied value meta w last answer after → answer ≡ last
  answer-same w (Ok (Item (Ok event))) answer after n a = event-same w event answer after n a
  answer-same w (Ok (Item (Err e))) answer after n a = a.0
  answer-same w (Ok NotReady) answer after n a = a.0
  answer-same w (Ok Spent) answer after n a = a.0
  answer-same w (Ok End) answer after n a = a.0
  answer-same w (Err fault) answer after n a = a.0

  -- a poll with fuel 1 that answers no fault polled the stream once, which answered the same
  pub passed-same : {S : Type 0} (polls : S → ℕ → ℕ → Answer (Event I) → S → Type 0) (fault : Option StreamFault) (now : ℕ) (a : Applying O S) (answer : Answer (Event I)) (b : Applying O S)
      → fault_in answer ≡ None → Applied value meta polls fault now 1 a answer b → polls a.stream now 1 answer b.stream
  passed-same polls (Some fault) now a answer b n p = absurd (is-fault answer fault p.0 n)
  passed-same polls None now a answer b n p =
      subst (λ x. polls a.stream now 1 x b.stream) (sym (answer-same a.writer p.last answer b.writer n p.applied)) (asked-once polls now a.stream p.last b.stream p.asked)

-- what is made of an answer
module _ {J : Type 0} where
  abbrev pub Takes : ℕ → List J → Told (Event J) → List (Told J) → List J → Type 0
  Takes now l told given m = (given ≡ settled l told) × (m ≡ listed_after l told)

  abbrev pub NeverUnnamed : List J → Told (Event J) → Type 0
  NeverUnnamed l told = ⊥

  pub record Made (l : List J) (answer : Answer (Event J)) (given : List (Told J)) (m : List J) : Type 0 where
    pub sound : fault_in answer ≡ None
    pub gives : given ≡ all_settled l (told_in answer)
    pub lists : m ≡ listed_through l (told_in answer)

  pub made-of : {S : Type 0} (polls : S → ℕ → ℕ → Answer (Event J) → S → Type 0) (now : ℕ) (l : List J) (answer : Answer (Event J)) (given : List (Told J)) (m : List J)
      → Gives polls Takes NeverUnnamed now l answer given m → Made l answer given m
  made-of polls now l (Ok (Item told)) given m g = record { sound = refl; gives = g.0 ∙ sym (append-nil (settled l told)); lists = g.1 }
  made-of polls now l (Ok NotReady) given m g = record { sound = refl; gives = g.0; lists = g.1 }
  made-of polls now l (Ok Spent) given m g = record { sound = refl; gives = g.0; lists = g.1 }
  made-of polls now l (Ok End) given m g = record { sound = refl; gives = g.0; lists = g.1 }
  made-of polls now l (Err fault) given m g = absurd g

module _ {A V : Type 0} (meta : V → ObjectMeta) (api : Api A V) where
  -- polls of the watcher, and of what applies its events
  abbrev pub WatchPolls : Watching A V → ℕ → ℕ → Answer (Event (Arc V Global)) → Watching A V → Type 0
  WatchPolls = Said (λ old now fuel answer new. IsPolled api now fuel old answer new) (λ w. None)

  abbrev pub ApplyPolls : Applying V (Watching A V) → ℕ → ℕ → Answer (Event (Arc V Global)) → Applying V (Watching A V) → Type 0
  ApplyPolls = Said (λ a now fuel answer b. Applied arc_value meta WatchPolls a.fault now fuel a answer b) (λ a. None)

  module _ (settings : Settings) where
    -- what was heard of the watcher after these exchanges, and given
    pub record Heard (ds : List (Dated V)) (a : Watching A V) (l : List (Arc V Global)) (given : List (Told (Arc V Global))) (b : Watching A V) (m : List (Arc V Global)) : Type 0 where
      pub asked : List (Dated V)
      pub came : List (Told (Event (Arc V Global)))
      pub owed : AreOwed settings ds asked
      pub called : AreCalled api settings a.api asked b.api
      pub watches : StandsFor (ds ++ asked) b
      pub config : settings_in b ≡ settings
      pub told : map told_of came ++ b.waiting ≡ a.waiting ++ told_of_all settings (exchanges_in ds) (exchanges_in asked)
      pub gives : given ≡ all_settled l came
      pub lists : m ≡ listed_through l came

    heard-none : (ds : List (Dated V)) (a b : Watching A V) (l m : List (Arc V Global)) (given : List (Told (Arc V Global))) → StandsFor ds a → settings_in a ≡ settings
        → given ≡ [] → b ≡ a → m ≡ l → (h : Heard ds a l given b m) × (h.came ≡ [])
    heard-none ds a b l m given stands config none same listed = (
      record {
        asked = [];
        came = [];
        owed = tt;
        called = ap (λ (w : Watching A V). w.api) same;
        watches = subst (λ d. StandsFor d b) (sym (append-nil ds)) (subst (StandsFor ds) (sym same) stands);
        config = ap (λ (w : Watching A V). settings_in w) same ∙ config;
        told = ap (λ (w : Watching A V). w.waiting) same ∙ sym (append-nil a.waiting);
        gives = none;
        lists = listed;
      },
      refl,
    )

    -- one poll of the watcher
    heard-one : (ds : List (Dated V)) (now : ℕ) (a : Watching A V) (l : List (Arc V Global)) (answer : Answer (Event (Arc V Global))) (given : List (Told (Arc V Global))) (b : Watching A V) (m : List (Arc V Global))
        → StandsFor ds a → settings_in a ≡ settings → Made l answer given m → WatchPolls a now 1 answer b → (h : Heard ds a l given b m) × (h.came ≡ told_in answer)
    heard-one ds now a l (Err fault) given b m stands config made p = absurd (let f : Some fault ≡ None = made.sound in cc)
    heard-one ds now a l (Ok answer) given b m stands config made p =
        let q = p.0.1 in
        let xs = q.exchanges in
        let e = q.exchanged in (
          record {
            asked = map (dated_now now) xs;
            came = told_in (Ok answer);
            owed = owed-now settings now ds xs (subst (λ s. AreNext s ds now xs) config (e.made ds stands));
            called = called-now api settings now a.api b.api xs (subst (λ s. AreCalls api s now a.api xs b.api) config e.calls);
            watches = e.stands ds stands;
            config = ap settings_of e.config ∙ config;
            told =
                ap (λ ts. ts ++ b.waiting) (next-told answer)
                ∙ (polled-told a.waiting 1 (looks (settings_in a) (exchanges_in ds) xs) (next_told answer) b.waiting (q.answered ds stands)
                ∙ ap (λ ts. a.waiting ++ ts)
                (looks-told (settings_in a) (exchanges_in ds) xs
                ∙ ap₂ (λ s ys. told_of_all s (exchanges_in ds) ys) config (sym (exchanges-now now xs))));
            gives = made.gives;
            lists = made.lists;
          },
          refl,
        )

    heard-then : (ds : List (Dated V)) (a q b : Watching A V) (l v m : List (Arc V Global)) (first rest given : List (Told (Arc V Global))) → (h : Heard ds a l first q v) → (k : Heard (ds ++ h.asked) q v rest b m)
        → given ≡ first ++ rest → (j : Heard ds a l given b m) × (j.came ≡ h.came ++ k.came)
    heard-then ds a q b l v m first rest given h k joined = (
      record {
        asked = h.asked ++ k.asked;
        came = h.came ++ k.came;
        owed = owed-then settings ds h.asked k.asked h.owed k.owed;
        called = called-then api settings a.api q.api b.api h.asked k.asked h.called k.called;
        watches = subst (λ d. StandsFor d b) (append_assoc ds h.asked k.asked) k.watches;
        config = k.config;
        told =
            ap (λ ts. ts ++ b.waiting) (map-append told_of h.came k.came)
            ∙ (append_assoc (map told_of h.came) (map told_of k.came) b.waiting
            ∙ (ap (λ ts. map told_of h.came ++ ts) k.told
            ∙ (sym (append_assoc (map told_of h.came) q.waiting (told_of_all settings (exchanges_in (ds ++ h.asked)) (exchanges_in k.asked)))
            ∙ (ap (λ ts. ts ++ told_of_all settings (exchanges_in (ds ++ h.asked)) (exchanges_in k.asked)) h.told
            ∙ (append_assoc a.waiting (told_of_all settings (exchanges_in ds) (exchanges_in h.asked)) (told_of_all settings (exchanges_in (ds ++ h.asked)) (exchanges_in k.asked))
            ∙ ap (λ ts. a.waiting ++ ts)
            (ap (λ b. told_of_all settings (exchanges_in ds) (exchanges_in h.asked) ++ told_of_all settings b (exchanges_in k.asked)) (map-append (λ (d : Dated V). d.exchange) ds h.asked)
            ∙ (sym (all-told-then settings (exchanges_in ds) (exchanges_in h.asked) (exchanges_in k.asked))
            ∙ ap (told_of_all settings (exchanges_in ds)) (sym (map-append (λ (d : Dated V). d.exchange) h.asked k.asked)))))))));
        gives =
            joined
            ∙ (ap₂ (λ x y. x ++ y) h.gives (k.gives ∙ ap (λ y. all_settled y k.came) h.lists)
            ∙ sym (settled-append l h.came k.came));
        lists = k.lists ∙ (ap (λ y. listed_through y k.came) h.lists ∙ sym (fold-append listed_after l h.came k.came));
      },
      refl,
    )

    -- the same, and what the writer has applied of it
    pub record HeardAndApplied (ds : List (Dated V)) (a : Applying V (Watching A V)) (l : List (Arc V Global)) (given : List (Told (Arc V Global))) (b : Applying V (Watching A V)) (m : List (Arc V Global)) : Type 0 where
      pub heard : Heard ds a.stream l given b.stream m
      pub applied : HasApplied arc_value meta a.writer heard.came b.writer

    -- all answers of what applies the watcher's events
    pub heard-all : (ds : List (Dated V)) (a : Applying V (Watching A V)) (l : List (Arc V Global)) (came : List (ℕ × Answer (Event (Arc V Global)))) (given : List (Told (Arc V Global)))
        (b : Applying V (Watching A V)) (m : List (Arc V Global)) → StandsFor ds a.stream → settings_in a.stream ≡ settings
        → Came ApplyPolls Takes NeverUnnamed a l came given b m → HeardAndApplied ds a l given b m
    heard-all ds a l [] given b m stands config c =
        let none = heard-none ds a.stream b.stream l m given stands config c.0 (ap (λ (x : Applying V (Watching A V)). x.stream) c.1) c.2 in
        record {
          heard = none.0;
          applied =
              subst (λ ts. HasApplied arc_value meta a.writer ts b.writer) (sym none.1)
              (record { kind = ap (λ (x : Applying V (Watching A V)). x.writer.kind) c.1; kept = ap (λ (x : Applying V (Watching A V)). x.writer.kept) c.1 });
        }
    heard-all ds a l (x ∷ came) given b m stands config c =
        let made = made-of ApplyPolls x.0 l x.1 c.2 c.1 c.5 in
        let one = heard-one ds x.0 a.stream l x.1 c.2 c.0.stream c.1 stands config made (passed-same arc_value meta WatchPolls a.fault x.0 a x.1 c.0 made.sound c.4.0) in
        let rest = heard-all (ds ++ one.0.asked) c.0 c.1 came c.3 b m one.0.watches one.0.config c.6 in
        let all = heard-then ds a.stream c.0.stream b.stream l c.1 m c.2 c.3 given one.0 rest.heard c.7 in
        record {
          heard = all.0;
          applied =
              subst (λ ts. HasApplied arc_value meta a.writer ts b.writer) (sym all.1)
              (applied-then arc_value meta a.writer c.0.writer b.writer one.0.came rest.heard.came
              (subst (λ ts. HasApplied arc_value meta a.writer ts c.0.writer) (sym one.1) (applied-all arc_value meta WatchPolls a x.0 1 x.1 c.0 c.4.0 made.sound))
              rest.applied);
        }
