-- What the events of a stream keep, beside what is given of them as settled objects.
use Rattle.std.proofs.Common.{◌≡◌, ℕ, inl, inr, Option, Some, None, List, [], ◌∷◌, ◌++◌, map, Ok, Err, refl, sym, ap, ap₂, subst, ◌∙◌, append-nil}
use Rattle.std.specs.List.{fold, AllByRecursion}
use Rattle.std.specs.Arc.{arc_value}
use Rattle.std.specs.declared.sync.Arc.{Arc}
use Rattle.std.specs.declared.alloc.Global.{Global}
use Rattle.std.proofs.lemmas.List.{map-append}
use Rattle.std.proofs.lemmas.List.Sums.{fold-append}
use Rattle.kube_meta.specs.declared.metadata.ObjectMeta.{ObjectMeta}
use Rattle.kube_meta.specs.declared.poll.Next.TheVariants.{Item, NotReady, Spent, End}
use Rattle.kube_meta.specs.Keys.{key_of}
use Rattle.kube_meta.specs.Reference.{Reference}
use Rattle.kube_model.specs.declared.error.Error.{Error}
use Rattle.kube_model.specs.World.{Settings}
use Rattle.kube_model.specs.History.{Exchange}
use Rattle.kube_model.specs.Store.{put, drop}
use Rattle.kube_model.proofs.Alls.{all-filter, all-left, all-map, all-right}
use Rattle.kube_model.proofs.Stores.{AreDistinct, all-put, all-puts, distinct-filter, distinct-put, distinct-puts}
use Rattle.kube_watch.specs.declared.event.Event.{Event}
use Rattle.kube_watch.specs.declared.event.Event.TheVariants.{Apply, Delete, Init, InitApply, InitDone}
use Rattle.kube_watch.specs.declared.stream.StreamFault.{StreamFault}
use Rattle.kube_watch.specs.Asking.{fault_in}
use Rattle.kube_watch.specs.Events.{event_map}
use Rattle.kube_watch.specs.Order.{events_after}
use Rattle.kube_watch.specs.Polls.{told_by}
use Rattle.kube_watch.specs.Stands.{row_of}
use Rattle.kube_watch.specs.Table.{Row}
use Rattle.kube_watch.specs.Watching.{failed, told_of}
use Rattle.kube_watch.specs.Streams.{Answer}
use Rattle.kube_reflect.specs.Cached.{Kept, applied, drop_under, keyed, put_under}
use Rattle.kube_reflect.specs.Exchanged.{all_keyed}
use Rattle.kube_reflect.proofs.Keying.{gone-changes, more-keyed, puts-keyed}
use Rattle.kube_reflect.specs.Writers.{Writing}
use Rattle.kube_streams.specs.Adapts.{Told, told_in}
use Rattle.kube_streams.specs.Applies.{AnswerApplied, Applied, Applying, IsApplied}
use Rattle.kube_streams.specs.Decodes.{listed_after, settled}
use Rattle.kube_alike.specs.Keeps.{AppliesAll, HasApplied, after_told}
use Rattle.kube_alike.specs.Settles.{all_settled, listed_through, objects_in, told_of_all}
use Rattle.kube_alike.proofs.SettlesRequests.{objects-all, objects-append}

module _ {I V : Type 0} (value : I → V) (key : V → Reference) where
  -- what is kept: objects of which each is P, no two under one key, and those of the list under way
  pub record Holds (P : V → Type 0) (k : Kept V) (l : List I) : Type 0 where
    pub stored : List V
    pub cached : k.cache ≡ all_keyed key stored
    pub distinct : AreDistinct key stored
    pub each : AllByRecursion P stored
    pub buffered : k.buffer ≡ all_keyed key (fold (put key) [] (map value l))

  pub holds-map : (P Q : V → Type 0) → ((o : V) → P o → Q o) → (k : Kept V) (l : List I) → Holds P k l → Holds Q k l
  holds-map P Q f k l h = record { stored = h.stored; cached = h.cached; distinct = h.distinct; each = all-map P Q f h.stored h.each; buffered = h.buffered }

  module _ (P : V → Type 0) where
    -- one more event: what it brings into the store is given with it
    holds-one : (k : Kept V) (l : List I) (t : Told (Event I)) → Holds P k l → AllByRecursion P (map value (objects_in (settled l t))) → Holds P (after_told value key k t) (listed_after l t)
    holds-one k l (Ok (Apply o)) h p = record {
      stored = put key h.stored (value o);
      cached = ap (λ c. put_under c (keyed key (value o))) h.cached ∙ puts-keyed key h.stored (value o ∷ []);
      distinct = distinct-put key h.stored (value o) h.distinct;
      each = all-put key P h.stored (value o) h.each p.0;
      buffered = h.buffered;
    }
    holds-one k l (Ok (Delete o)) h p = record {
      stored = drop key h.stored (value o);
      cached = ap (λ c. drop_under c (keyed key (value o))) h.cached ∙ gone-changes key h.stored (value o ∷ []);
      distinct = distinct-filter key _ h.stored h.distinct;
      each = all-filter P _ h.stored h.each;
      buffered = h.buffered;
    }
    holds-one k l (Ok Init) h p = record { stored = h.stored; cached = h.cached; distinct = h.distinct; each = h.each; buffered = refl }
    holds-one k l (Ok (InitApply o)) h p = record {
      stored = h.stored;
      cached = h.cached;
      distinct = h.distinct;
      each = h.each;
      buffered =
          more-keyed key k.buffer (map value l) (value o ∷ []) h.buffered
          ∙ ap (λ os. all_keyed key (fold (put key) [] os)) (sym (map-append value l (o ∷ [])));
    }
    holds-one k l (Ok InitDone) h p = record {
      stored = fold (put key) [] (map value l);
      cached = h.buffered;
      distinct = distinct-puts key [] (map value l) tt;
      each = all-puts key P [] (map value l) tt (subst (λ os. AllByRecursion P (map value os)) (objects-all l) p);
      buffered = refl;
    }
    holds-one k l (Err e) h p = h

    -- all that is told
    pub holds-all : (k : Kept V) (l : List I) (ts : List (Told (Event I))) → Holds P k l → AllByRecursion P (map value (objects_in (all_settled l ts)))
        → Holds P (fold (after_told value key) k ts) (listed_through l ts)
    holds-all k l [] h p = h
    holds-all k l (t ∷ ts) h p =
        let q =
        subst (AllByRecursion P)
        (ap (map value) (objects-append (settled l t) (all_settled (listed_after l t) ts)) ∙ map-append value (objects_in (settled l t)) (objects_in (all_settled (listed_after l t) ts))) p in
        holds-all (after_told value key k t) (listed_after l t) ts
        (holds-one k l t h (all-left P (map value (objects_in (settled l t))) (map value (objects_in (all_settled (listed_after l t) ts))) q))
        (all-right P (map value (objects_in (settled l t))) (map value (objects_in (all_settled (listed_after l t) ts))) q)

-- ---- a stream that applies its events to a writer

module _ {O I : Type 0} (value : I → O) (meta : O → ObjectMeta) where
  no-fault : (answer : Answer (Event I)) (fault : StreamFault) → answer ≡ Err fault → fault_in answer ≡ None → ⊥
  no-fault answer fault e n = (let f : Some fault ≡ None = sym (ap (λ a. fault_in a) e) ∙ n in cc)

  event-applied : (w : Writing O) (event : Event I) (answer : Answer (Event I)) (after : Writing O) → fault_in answer ≡ None → IsApplied value meta w event answer after
      → HasApplied value meta w (told_in answer) after
  event-applied w event answer after n (inl a) =
      subst (λ x. HasApplied value meta w (told_in x) after) (sym a.1) (record { kind = ap (λ (x : Writing O). x.kind) a.2; kept = ap (λ (x : Writing O). x.kept) a.2 })
  event-applied w event answer after n (inr (inl a)) = absurd (no-fault answer _ a.1 n)
  event-applied w event answer after n (inr (inr a)) = absurd (no-fault answer _ a.0 n)

  none-applied : (w : Writing O) (told answer : Answer (Event I)) (after : Writing O) → fold (after_told value (λ o. key_of w.kind (meta o))) w.kept (told_in told) ≡ w.kept → answer ≡ told → after ≡ w
      → HasApplied value meta w (told_in answer) after
  none-applied w told answer after none e same =
      subst (λ x. HasApplied value meta w (told_in x) after) (sym e)
      (record { kind = ap (λ (x : Writing O). x.kind) same; kept = ap (λ (x : Writing O). x.kept) same ∙ sym none })

  answer-applied : (w : Writing O) (last answer : Answer (Event I)) (after : Writing O) → fault_in answer ≡ None → AnswerApplied value meta w last answer after → HasApplied value meta w (told_in answer) after
  answer-applied w (Ok (Item (Ok event))) answer after n a = event-applied w event answer after n a
  answer-applied w (Ok (Item (Err e))) answer after n a = none-applied w (Ok (Item (Err e))) answer after refl a.0 a.1
  answer-applied w (Ok NotReady) answer after n a = none-applied w (Ok NotReady) answer after refl a.0 a.1
  answer-applied w (Ok Spent) answer after n a = none-applied w (Ok Spent) answer after refl a.0 a.1
  answer-applied w (Ok End) answer after n a = none-applied w (Ok End) answer after refl a.0 a.1
  answer-applied w (Err fault) answer after n a = absurd (no-fault answer fault a.0 n)

  pub applied-all : {S : Type 0} (polls : S → ℕ → ℕ → Answer (Event I) → S → Type 0) (a : Applying O S) (now fuel : ℕ) (answer : Answer (Event I)) (b : Applying O S)
      → Applied value meta polls a.fault now fuel a answer b → fault_in answer ≡ None → HasApplied value meta a.writer (told_in answer) b.writer
  applied-all polls a now fuel answer b p n = go a.fault p
    where
      go : (fault : Option StreamFault) → Applied value meta polls fault now fuel a answer b → HasApplied value meta a.writer (told_in answer) b.writer
      go (Some fault) q = absurd (no-fault answer fault q.0 n)
      go None q = answer-applied a.writer q.last answer b.writer n q.applied

  -- more was told after it
  pub applied-then : (w v u : Writing O) (ts us : List (Told (Event I))) → HasApplied value meta w ts v → HasApplied value meta v us u → HasApplied value meta w (ts ++ us) u
  applied-then w v u ts us h k = record {
    kind = k.kind ∙ h.kind;
    kept =
        k.kept
        ∙ (ap₂ (λ kind kept. fold (after_told value (λ o. key_of kind (meta o))) kept us) h.kind h.kept
        ∙ sym (fold-append (after_told value (λ o. key_of w.kind (meta o))) w.kept ts us));
  }

-- ---- the events among what is told

abbrev pub events_told : {O : Type 0} → List (Told (Event O)) → List (Event O)
events_told [] = []
events_told (Ok event ∷ ts) = event ∷ events_told ts
events_told (Err e ∷ ts) = events_told ts

module _ {V : Type 0} where
  -- what is told of shared objects is applied as what is told of the objects
  pub told-applied : (key : V → Reference) (k : Kept V) (ts : List (Told (Event (Arc V Global)))) → fold (after_told arc_value key) k ts ≡ fold (applied key) k (events_told (map told_of ts))
  told-applied key k [] = refl
  told-applied key k (Ok event ∷ ts) = told-applied key (applied key k (event_map arc_value event)) ts
  told-applied key k (Err e ∷ ts) = told-applied key k ts

  events-append : (ts us : List (Told (Event V))) → events_told (ts ++ us) ≡ events_told ts ++ events_told us
  events-append [] us = refl
  events-append (Ok event ∷ ts) us = ap (λ es. event ∷ es) (events-append ts us)
  events-append (Err e ∷ ts) us = events-append ts us

  events-all : (es : List (Event V)) → events_told (map Ok es) ≡ es
  events-all [] = refl
  events-all (e ∷ es) = ap (λ fs. e ∷ fs) (events-all es)

  none-failed : (error : Option Error) → events_told {O = V} (failed error) ≡ []
  none-failed None = refl
  none-failed (Some e) = refl

  -- the events of what a watcher tells of exchanges
  pub told-events : (settings : Settings) (before xs : List (Exchange V)) → events_told (told_of_all settings before xs) ≡ events_after settings before xs
  told-events settings before [] = refl
  told-events settings before (x ∷ xs) =
      let row : Row V = row_of settings before x in
      events-append (told_by row) (told_of_all settings (before ++ x ∷ []) xs)
      ∙ ap₂ (λ a b. a ++ b)
      (events-append (map Ok row.events) (failed row.error) ∙ (ap₂ (λ a b. a ++ b) (events-all row.events) (none-failed row.error) ∙ append-nil row.events))
      (told-events settings (before ++ x ∷ []) xs)
