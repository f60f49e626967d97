-- Names of what came, and of what is told of it.
use Rattle.std.proofs.Common.{◌≡◌, ℕ, Bool, true, false, not, ◌&&◌, ◌||◌, List, [], ◌∷◌, Option, is_some, if◌then◌else◌, IsTrue, refl, sym, ap, subst, ◌∙◌}
use Rattle.std.specs.List.{list_any, list_all, AllByRecursion}
use Rattle.kube_meta.specs.declared.metadata.ObjectMeta.{ObjectMeta}
use Rattle.kube_meta.specs.Keys.{is_named}
use Rattle.kube_model.specs.declared.call.Call.{Call}
use Rattle.kube_model.specs.declared.call.Call.TheVariants.{List as ListCall, Watch, Next, Stream}
use Rattle.kube_model.specs.declared.call.Answer.{Answer}
use Rattle.kube_model.specs.World.{World}
use Rattle.kube_model.specs.History.{Dated, Exchange}
use Rattle.kube_model.specs.Owed.{is_initial}
use Rattle.kube_model.specs.Fits.{answers, brings_references}
use Rattle.kube_model.specs.Raw.{Raw, RawAnswer, is_fault, FaultRose, Waits, Fails, GivesPage, Opens, GivesAdded, GivesModified, GivesDeleted, GivesBookmark, GivesError, Ends}
use Rattle.kube_model.specs.Recorded.{IsAnsweredBy, AsItCame, PastItsWindow, answer_of, items_of}
use Rattle.kube_model.specs.Named.{AreNamed, OfCall, has_names}
use Rattle.kube_watch.specs.Stands.{exchanges_in}
use Rattle.kube_watch.specs.Calls.{is_fault_answer}
use Rattle.kube_asks.specs.Noting.{any_unnamed}

any-not : {O : Type 0} (p : O → Bool) (os : List O) → list_any (λ o. not (p o)) os ≡ not (list_all p os)
any-not p [] = refl
any-not p (o ∷ os) = go (p o) (any-not p os)
  where
    go : (b : Bool) → list_any (λ x. not (p x)) os ≡ not (list_all p os) → (not b || list_any (λ x. not (p x)) os) ≡ not (b && list_all p os)
    go true e = e
    go false e = refl

module _ {V : Type 0} (version : V → Option (List ℕ)) where
  brings-raw : (initial failed : Bool) (r : RawAnswer V) → brings_references initial failed (answer_of version r) ≡ brings_references initial false (answer_of version r)
  brings-raw initial failed Waits = refl
  brings-raw initial failed (Fails error) = refl
  brings-raw initial failed (GivesPage items token reached) = refl
  brings-raw initial failed Opens = refl
  brings-raw initial failed (GivesAdded o) = refl
  brings-raw initial failed (GivesModified o) = refl
  brings-raw initial failed (GivesDeleted o) = refl
  brings-raw initial failed (GivesBookmark reached annotations) = refl
  brings-raw initial failed (GivesError status) = refl
  brings-raw initial failed Ends = refl

  -- what is recorded must become references where what came must
  brings-came : (initial failed : Bool) (raw : Raw V) (a : Answer) → IsAnsweredBy version raw a → brings_references initial failed a ≡ brings_references initial false (answer_of version raw.answer)
  brings-came initial failed raw a (AsItCame e) = ap (brings_references initial failed) e ∙ brings-raw initial failed raw.answer
  brings-came initial failed raw a (PastItsWindow c w e) = ap (brings_references initial failed) e ∙ sym (ap (λ r. brings_references initial false (answer_of version r)) w)

  may-wait : (call : Call) (r : RawAnswer V) → r ≡ Waits → IsTrue (answers call (answer_of version r))
  may-wait (ListCall token) r e = ap (λ z. answers (ListCall token) (answer_of version z)) e
  may-wait (Watch from initial) r e = ap (λ z. answers (Watch from initial) (answer_of version z)) e
  may-wait Next r e = ap (λ z. answers Next (answer_of version z)) e
  may-wait Stream r e = ap (λ z. answers Stream (answer_of version z)) e

  -- what came answers the call that what is recorded answers
  pub answers-came : (call : Call) (raw : Raw V) (a : Answer) → IsAnsweredBy version raw a → IsTrue (answers call a) → IsTrue (answers call (answer_of version raw.answer))
  answers-came call raw a (AsItCame e) ok = subst (λ z. IsTrue (answers call z)) e ok
  answers-came call raw a (PastItsWindow c w e) ok = may-wait call raw.answer w

  fault-raw : (r : RawAnswer V) → is_fault_answer (answer_of version r) ≡ is_fault r
  fault-raw Waits = refl
  fault-raw (Fails error) = refl
  fault-raw (GivesPage items token reached) = refl
  fault-raw Opens = refl
  fault-raw (GivesAdded o) = refl
  fault-raw (GivesModified o) = refl
  fault-raw (GivesDeleted o) = refl
  fault-raw (GivesBookmark reached annotations) = refl
  fault-raw (GivesError status) = refl
  fault-raw Ends = refl

  fault-came : (raw : Raw V) (a : Answer) → IsAnsweredBy version raw a → is_fault_answer a ≡ is_fault raw.answer
  fault-came raw a (AsItCame e) = ap is_fault_answer e ∙ fault-raw raw.answer
  fault-came raw a (PastItsWindow c w e) = ap is_fault_answer e ∙ sym (ap is_fault w)

  -- a fault is recorded where one came
  pub rose-came : (raw : Raw V) (a : Answer) (old new : ℕ) → IsAnsweredBy version raw a → FaultRose (is_fault_answer a) old new → FaultRose (is_fault raw.answer) old new
  rose-came raw a old new h rose = subst (λ b. FaultRose b old new) (fault-came raw a h) rose

  module _ (meta : V → ObjectMeta) where
    by-case : (b : Bool) (os : List V) → any_unnamed meta (if b then os else []) ≡ not (not b || list_all (λ o. is_named (meta o)) os)
    by-case true os = any-not (λ o. is_named (meta o)) os
    by-case false os = refl

    -- some object that is told of has no name exactly where one that came must have one and hasn't
    pub names-came : {O : Type 0} (own : List (Exchange O)) (failed : Bool) (raw : Raw V) (a : Answer) (told : List V) → IsAnsweredBy version raw a
        → told ≡ (if brings_references (is_initial own) failed a then items_of raw.answer else [])
        → any_unnamed meta told ≡ not (has_names (λ o. is_named (meta o)) version own (OfCall raw))
    names-came own failed raw a told h e =
        ap (any_unnamed meta) e
        ∙ (ap (λ b. any_unnamed meta (if b then items_of raw.answer else [])) (brings-came (is_initial own) failed raw a h)
        ∙ by-case (brings_references (is_initial own) false (answer_of version raw.answer)) (items_of raw.answer))

all-hold : {O : Type 0} (p : O → Bool) (os : List O) → list_all p os ≡ true → AllByRecursion (λ o. IsTrue (p o)) os
all-hold p [] e = tt
all-hold p (o ∷ os) e = go (p o) refl e (all-hold p os)
  where
    go : (b : Bool) → p o ≡ b → (b && list_all p os) ≡ true → (list_all p os ≡ true → AllByRecursion (λ z. IsTrue (p z)) os) → IsTrue (p o) × AllByRecursion (λ z. IsTrue (p z)) os
    go true e k rest = (e, rest k)
    go false e k rest = absurd (let z : false ≡ true = k in cc)

-- what is recorded has its names where what came has them
pub recorded-named : {V B : Type 0} (version : V → Option (List ℕ)) (meta : V → ObjectMeta) (w : World V B) → w.is_named ≡ (λ o. is_named (meta o)) → (own : List (Dated V)) (x : Exchange V) (raw : Raw V)
    → IsAnsweredBy version raw x.answer → x.items ≡ items_of raw.answer → has_names (λ o. is_named (meta o)) version (exchanges_in own) (OfCall raw) ≡ true → AreNamed w (exchanges_in own) x
recorded-named version meta w is own x raw came items named must =
    let brings : brings_references (is_initial (exchanges_in own)) false (answer_of version raw.answer) ≡ true =
    sym (brings-came version (is_initial (exchanges_in own)) (is_some x.error) raw x.answer came) ∙ must in
    let all : list_all (λ o. is_named (meta o)) (items_of raw.answer) ≡ true = ap (λ b. not b || list_all (λ o. is_named (meta o)) (items_of raw.answer)) (sym brings) ∙ named in
    subst (λ p. AllByRecursion (λ o. IsTrue (p o)) x.items) (sym is) (subst (AllByRecursion (λ o. IsTrue (is_named (meta o)))) (sym items) (all-hold (λ o. is_named (meta o)) (items_of raw.answer) all))

pub not-false : (b : Bool) → not b ≡ false → b ≡ true
not-false true h = refl
not-false false h = sym h

pub not-true : (b : Bool) → not b ≡ true → b ≡ false
not-true true h = sym h
not-true false h = refl
