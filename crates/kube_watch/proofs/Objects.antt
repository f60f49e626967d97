-- What the exchanges of one poll of an object come to.
use Rattle.std.proofs.Common.{◌≡◌, ℕ, ◌+◌, ◌<◌, length, Bool, true, false, not, List, [], ◌∷◌, ◌++◌, Some, None, refl, sym, ap, ◌∙◌, subst, append_assoc, append-nil, inr, arith}
use Rattle.std.proofs.lemmas.List.{length-append}
use Rattle.kube_meta.specs.declared.poll.Next.{Next}
use Rattle.kube_meta.specs.declared.poll.Next.TheVariants.{Item, NotReady, Spent}
use Rattle.kube_model.specs.World.{Settings, Watched}
use Rattle.kube_model.specs.History.{Dated, Exchange}
use Rattle.kube_model.specs.Owed.{is_not_ready, owed}
use Rattle.kube_watch.specs.Calls.{IsAskedOnce}
use Rattle.kube_watch.specs.Stands.{StandsFor, exchanges_in, row_of, settings_in}
use Rattle.kube_watch.specs.Watching.{Told, Watching}
use Rattle.kube_watch.specs.Polls.{look_of, answered_by, polled, told_by, Api, Exchanged, LostAfter, Filled}
use Rattle.kube_watch.specs.Objects.{Found, GiveNothing, LostObject, answer_to, answers_to, answers_in, held_after, held_by, held_through, is_held, object_looks, with_answer, Observing, PolledObject}
use Rattle.kube_watch.proofs.Polls.{quiets, quiets-of, quiets-snoc, ended_by, answered-then, answered-quiet, look-unready, look-ready, exchanged-none, exchanged-more, exchanged-as, told-last, lost-after}

module _ {V : Type 0} (settings : Settings) where
  looks-snoc : (held : Bool) (before xs : List (Exchange V)) (x : Exchange V)
      → object_looks settings held before (xs ++ x ∷ [])
      ≡ object_looks settings held before xs ++ look_of (answers_to (held_through settings held before xs) (told_by (row_of settings (before ++ xs) x))) x.answer ∷ []
  looks-snoc held before [] x = ap (λ b. look_of (answers_to held (told_by (row_of settings b x))) x.answer ∷ []) (sym (append-nil before))
  looks-snoc held before (y ∷ xs) x =
      let k = held_by held (told_by (row_of settings before y)) in
      let b = before ++ y ∷ [] in
      ap (λ ls. look_of (answers_to held (told_by (row_of settings before y))) y.answer ∷ ls)
      (looks-snoc k b xs x
      ∙ ap (λ c. object_looks settings k b xs ++ look_of (answers_to (held_through settings k b xs) (told_by (row_of settings c x))) x.answer ∷ []) (append_assoc before (y ∷ []) xs))

  held-snoc : (held : Bool) (before xs : List (Exchange V)) (x : Exchange V)
      → held_through settings held before (xs ++ x ∷ []) ≡ held_by (held_through settings held before xs) (told_by (row_of settings (before ++ xs) x))
  held-snoc held before [] x = ap (λ b. held_by held (told_by (row_of settings b x))) (sym (append-nil before))
  held-snoc held before (y ∷ xs) x =
      let k = held_by held (told_by (row_of settings before y)) in
      let b = before ++ y ∷ [] in
      held-snoc k b xs x ∙ ap (λ c. held_by (held_through settings k b xs) (told_by (row_of settings c x))) (append_assoc before (y ∷ []) xs)

-- after one thing that is told
pub answers-more : {V : Type 0} (held : Bool) (t : Told V) (ts : List (Told V)) → answer_to held t ≡ None → answers_to held (t ∷ ts) ≡ answers_to (held_after held t) ts
answers-more held t ts none = ap (λ a. with_answer a (answers_to (held_after held t) ts)) none

pub answers-first : {V : Type 0} (held : Bool) (t : Told V) (ts : List (Told V)) (a : Found V) → answer_to held t ≡ Some a → answers_to held (t ∷ ts) ≡ a ∷ answers_to (held_after held t) ts
answers-first held t ts a some = ap (λ b. with_answer b (answers_to (held_after held t) ts)) some

module _ {A V : Type 0} (api : Api A V) (now : ℕ) where
  -- so many exchanges were made that gave nothing to answer
  pub record AllQuiet (n : ℕ) (old o : Observing A V) : Type 0 where
    pub exchanges : List (Exchange V)
    pub exchanged : Exchanged api now old.watcher exchanges o.watcher
    pub count : length exchanges ≡ n
    pub quiet : (ds : List (Dated V)) → StandsFor ds old.watcher → object_looks (settings_in old.watcher) (is_held old) (exchanges_in ds) exchanges ≡ quiets n
    pub waiting : o.watcher.waiting ≡ []
    pub held : (ds : List (Dated V)) → StandsFor ds old.watcher → o.held ≡ held_through (settings_in old.watcher) (is_held old) (exchanges_in ds) exchanges

  pub none-made : (o : Observing A V) → o.watcher.waiting ≡ [] → AllQuiet 0 o o
  none-made o none = record {
    exchanges = [];
    exchanged = exchanged-none api now o.watcher;
    count = refl;
    quiet = λ ds h. refl;
    waiting = none;
    held = λ ds h. sym (ap (held_by o.held) none);
  }

  -- one more exchange, whatever it tells
  pub record OneMore (n : ℕ) (old o : Observing A V) (was_ready : Bool) : Type 0 where
    pub exchanges : List (Exchange V)
    pub last : Exchange V
    pub exchanged : Exchanged api now old.watcher (exchanges ++ last ∷ []) o.watcher
    pub count : length exchanges ≡ n
    pub looked : (ds : List (Dated V)) → StandsFor ds old.watcher
        → object_looks (settings_in old.watcher) (is_held old) (exchanges_in ds) (exchanges ++ last ∷ []) ≡ quiets n ++ look_of (answers_in o) last.answer ∷ []
    pub ready : was_ready ≡ not (is_not_ready last.answer)
    pub held : (ds : List (Dated V)) → StandsFor ds old.watcher → is_held o ≡ held_through (settings_in old.watcher) (is_held old) (exchanges_in ds) (exchanges ++ last ∷ [])

  one-more-of : (n : ℕ) (old o : Observing A V) (w : Watching A V) (was_ready : Bool) → AllQuiet n old o → Filled api now o.watcher was_ready w
      → OneMore n old (record { watcher = w; held = o.held }) was_ready
  one-more-of n old o w was_ready q f =
      let settings = settings_in old.watcher in
      record {
        exchanges = q.exchanges;
        last = f.exchange;
        exchanged = exchanged-more api now old.watcher o.watcher w q.exchanges was_ready q.exchanged f;
        count = q.count;
        looked = λ ds h.
            looks-snoc settings (is_held old) (exchanges_in ds) q.exchanges f.exchange
            ∙ (ap (λ ls. ls ++ look_of (answers_to (held_through settings (is_held old) (exchanges_in ds) q.exchanges) (told_by (row_of settings (exchanges_in ds ++ q.exchanges) f.exchange))) f.exchange.answer ∷ []) (q.quiet ds h)
            ∙ (ap (λ k. quiets n ++ look_of (answers_to k (told_by (row_of settings (exchanges_in ds ++ q.exchanges) f.exchange))) f.exchange.answer ∷ []) (sym (q.held ds h))
            ∙ ap (λ t. quiets n ++ look_of (answers_to o.held t) f.exchange.answer ∷ []) (told-last api now old.watcher o.watcher w q.exchanges was_ready q.exchanged f ds h)));
        ready = f.ready;
        held = λ ds h.
            sym (held-snoc settings (is_held old) (exchanges_in ds) q.exchanges f.exchange
            ∙ (ap (λ k. held_by k (told_by (row_of settings (exchanges_in ds ++ q.exchanges) f.exchange))) (sym (q.held ds h))
            ∙ ap (held_by o.held) (told-last api now old.watcher o.watcher w q.exchanges was_ready q.exchanged f ds h)));
      }

  -- v is o, as the code has it in parts
  pub one-more : (n : ℕ) (old o v : Observing A V) (w : Watching A V) (was_ready : Bool) → v ≡ o → AllQuiet n old o → Filled api now v.watcher was_ready w
      → OneMore n old (record { watcher = w; held = v.held }) was_ready
  one-more n old o v w was_ready same q f = one-more-of n old v w was_ready (subst (λ u. AllQuiet n old u) (sym same) q) f

  -- the poll ends by the last of these exchanges
  ended : (n fuel : ℕ) (old o new : Observing A V) (b : Bool) (m : OneMore n old o b) (answer : Next (Found V)) → old.watcher.waiting ≡ [] → n < fuel
      → new.watcher ≡ record o.watcher { waiting = new.watcher.waiting } → is_held new ≡ is_held o → ended_by (look_of (answers_in o) m.last.answer) ≡ Some (answer, answers_in new)
      → PolledObject api now fuel old answer new
  ended n fuel old o new b m answer none less same held ends = record {
    exchanges = m.exchanges ++ m.last ∷ [];
    exchanged = exchanged-as api now old.watcher o.watcher new.watcher (m.exchanges ++ m.last ∷ []) m.exchanged same;
    answered = λ ds h.
        ap (λ ts. polled (answers_to old.held ts) fuel (object_looks (settings_in old.watcher) (is_held old) (exchanges_in ds) (m.exchanges ++ m.last ∷ []))) none
        ∙ (ap (answered_by fuel) (m.looked ds h) ∙ answered-then n fuel (look_of (answers_in o) m.last.answer) (answer, answers_in new) ends less);
    held = λ ds h. held ∙ m.held ds h;
  }

  pub ended-found : (n fuel : ℕ) (old o new : Observing A V) (b : Bool) → OneMore n old o b → (found : Found V) → old.watcher.waiting ≡ [] → n < fuel
      → answers_in o ≡ found ∷ answers_in new → new.watcher ≡ record o.watcher { waiting = new.watcher.waiting } → is_held new ≡ is_held o → PolledObject api now fuel old (Item found) new
  ended-found n fuel old o new b m found none less first same held =
      ended n fuel old o new b m (Item found) none less same held (ap (λ ws. ended_by (look_of ws m.last.answer)) first)

  pub ended-unready : (n fuel : ℕ) (old o new : Observing A V) (b : Bool) → OneMore n old o b → old.watcher.waiting ≡ [] → n < fuel
      → answers_in o ≡ [] → new.watcher.waiting ≡ [] → new.watcher ≡ record o.watcher { waiting = new.watcher.waiting } → is_held new ≡ is_held o → b ≡ false → PolledObject api now fuel old NotReady new
  ended-unready n fuel old o new b m none less first left same held unready =
      ended n fuel old o new b m NotReady none less same held
      (ap (λ ws. ended_by (look_of ws m.last.answer)) first
      ∙ (ap ended_by (look-unready m.last.answer (sym m.ready ∙ unready)) ∙ ap (λ ts. Some (NotReady, answers_to new.held ts)) (sym left)))

  pub went-on : (n : ℕ) (old o new : Observing A V) (b : Bool) → OneMore n old o b
      → answers_in o ≡ [] → new.watcher.waiting ≡ [] → new.watcher ≡ record o.watcher { waiting = new.watcher.waiting } → is_held new ≡ is_held o → b ≡ true → AllQuiet (n + 1) old new
  went-on n old o new b m first left same held ready = record {
    exchanges = m.exchanges ++ m.last ∷ [];
    exchanged = exchanged-as api now old.watcher o.watcher new.watcher (m.exchanges ++ m.last ∷ []) m.exchanged same;
    count = length-append m.exchanges (m.last ∷ []) ∙ ap (λ k. k + 1) m.count;
    quiet = λ ds h.
        m.looked ds h
        ∙ (ap (λ ws. quiets n ++ look_of ws m.last.answer ∷ []) first
        ∙ (ap (λ l. quiets n ++ l ∷ []) (look-ready m.last.answer (sym m.ready ∙ ready)) ∙ quiets-snoc n));
    waiting = left;
    held = λ ds h. sym (ap (held_by new.held) left) ∙ (held ∙ m.held ds h);
  }

  pub ended-spent : (n fuel : ℕ) (old o : Observing A V) → AllQuiet n old o → n ≡ fuel → old.watcher.waiting ≡ [] → PolledObject api now fuel old Spent o
  ended-spent n fuel old o q all none = record {
    exchanges = q.exchanges;
    exchanged = q.exchanged;
    answered = λ ds h.
        ap (λ ts. polled (answers_to old.held ts) fuel (object_looks (settings_in old.watcher) (is_held old) (exchanges_in ds) q.exchanges)) none
        ∙ (ap (answered_by fuel) (q.quiet ds h) ∙ (ap (λ k. answered_by fuel (quiets k)) all ∙ (answered-quiet fuel ∙ ap (λ ts. Some (Spent, answers_to o.held ts)) (sym q.waiting))));
    held = λ ds h. ap (held_by o.held) q.waiting ∙ q.held ds h;
  }

  -- memory could not be had after these
  pub lost-quiet : (n fuel : ℕ) (old o v : Observing A V) (new : Watching A V) → v ≡ o → AllQuiet n old o → n < fuel
      → ((ds : List (Dated V)) → StandsFor ds v.watcher
      → IsAskedOnce (settings_in v.watcher) (owed (Watched (settings_in v.watcher)) (exchanges_in ds)) (api.talk v.watcher.api) (api.talk new.api))
      → LostAfter api now fuel (GiveNothing (settings_in old.watcher) (is_held old)) old.watcher new
  lost-quiet n fuel old o v new same q less lost =
      lost-after api now fuel (GiveNothing (settings_in old.watcher) (is_held old)) old.watcher v.watcher new q.exchanges
      (subst (λ (u : Observing A V). Exchanged api now old.watcher q.exchanges u.watcher) (sym same) q.exchanged)
      (let k = q.count in omega arith) (λ ds h. q.quiet ds h ∙ quiets-of q.exchanges n q.count) lost

  -- what waited gave no answer
  pub lost-taken : (fuel : ℕ) (old o new : Observing A V) → answers_in old ≡ [] → o.watcher ≡ record old.watcher { waiting = o.watcher.waiting } → is_held o ≡ is_held old
      → LostAfter api now fuel (GiveNothing (settings_in o.watcher) (is_held o)) o.watcher new.watcher → LostObject api now fuel old new
  lost-taken fuel old o new none same held l =
      let m = subst (λ (w : Watching A V). LostAfter api now fuel (GiveNothing (settings_in w) (is_held o)) w new.watcher) same l in
      inr (
        none,
        record {
          exchanges = m.exchanges;
          reached = m.reached;
          few = m.few;
          calls = m.calls;
          made = λ ds h. m.made ds (record { stands = h.stands; unspent = h.unspent });
          told = λ ds h. subst (λ k. GiveNothing (settings_in old.watcher) k (exchanges_in ds) m.exchanges) held (m.told ds (record { stands = h.stands; unspent = h.unspent }));
          once = λ ds h. m.once ds (record { stands = h.stands; unspent = h.unspent });
        },
      )

  -- the first answer to what waits is given without an exchange
  pub given-first : (fuel : ℕ) (old new : Observing A V) (found : Found V) → answers_in old ≡ found ∷ answers_in new → new.watcher ≡ record old.watcher { waiting = new.watcher.waiting }
      → is_held new ≡ is_held old → PolledObject api now fuel old (Item found) new
  given-first fuel old new found first same held = record {
    exchanges = [];
    exchanged = exchanged-as api now old.watcher old.watcher new.watcher [] (exchanged-none api now old.watcher) same;
    answered = λ ds h. ap (λ ws. polled ws fuel []) first;
    held = λ ds h. held;
  }
