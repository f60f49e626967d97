-- What is kept was made by the events that were applied, and one event more makes what is kept then.
use Rattle.std.proofs.Common.{◌≡◌, ℕ, ◌+◌, ◌<◌, Bool, true, false, ◌&&◌, List, [], ◌∷◌, ◌++◌, take, length, get_or, Option, Result, Ok, Err, OnOk, zero, suc, refl, sym, ap, ap₂, ◌∙◌, fold, arith}
use Rattle.std.specs.List.{list_all}
use Rattle.std.proofs.lemmas.List.{take_more}
use Rattle.std.proofs.lemmas.List.Folds.{list_all-append}
use Rattle.logbook.specs.Pages.{Book}
use Rattle.kube_meta.specs.declared.metadata.ObjectMeta.{ObjectMeta}
use Rattle.kube_meta.specs.Reference.{ObjectType, Reference}
use Rattle.kube_meta.specs.Keys.{key_of}
use Rattle.kube_watch.specs.declared.event.Event.{Event}
use Rattle.kube_reflect.specs.Cached.{Kept, applied, nothing, kept_after}
use Rattle.kube_reflect.specs.declared.copies.law.Entry.{Entry}
use Rattle.kube_reflect.specs.Published.{Keeping, IsMade, keeping_with}
use Rattle.kube_reflect.specs.Subscribers.{Ring}
use Rattle.kube_reflect.specs.Writers.{Writing, with_event}

pub fold-more : {A B : Type 0} (f : B → A → B) (b : B) (xs : List A) (x : A) → fold f b (xs ++ x ∷ []) ≡ f (fold f b xs) x
fold-more f b [] x = refl
fold-more f b (y ∷ ys) x = fold-more f (f b y) ys x

-- what follows from an Ok
pub on-ok : {A E P Q : Type 0} (r : Result A E) → (P → Q) → OnOk r P → OnOk r Q
on-ok (Ok a) f h = f h
on-ok (Err e) f h = tt

-- the same, up to a place
pub fold-next : {A B : Type 0} (f : B → A → B) (b : B) (xs : List A) (i : ℕ) (x : A) → i < length xs → x ≡ get_or xs i x → fold f b (take (i + 1) xs) ≡ f (fold f b (take i xs)) x
fold-next f b xs i x h e = ap (fold f b) (take_more xs i x h ∙ ap (λ y. take i xs ++ y ∷ []) (sym e)) ∙ fold-more f b (take i xs) x

-- a test of all, up to a place
pub all-next : {A : Type 0} (p : A → Bool) (xs : List A) (i : ℕ) (x : A) → i < length xs → x ≡ get_or xs i x → list_all p (take i xs) ≡ true → p x ≡ true → list_all p (take (i + 1) xs) ≡ true
all-next p xs i x h e all here =
    ap (list_all p) (take_more xs i x h ∙ ap (λ y. take i xs ++ y ∷ []) (sym e)) ∙ (list_all-append p (take i xs) (x ∷ []) ∙ ap₂ (λ a b. a && (b && true)) all here)

-- one that fails it
pub fails-at : {A : Type 0} (p : A → Bool) (xs : List A) (i : ℕ) (x : A) → i < length xs → x ≡ get_or xs i x → p x ≡ false → list_all p xs ≡ false
fails-at p [] i x h e f = absurd (omega arith)
fails-at p (y ∷ xs) zero x h e f = ap (λ b. b && list_all p xs) (sym (ap p e) ∙ f)
fails-at p (y ∷ xs) (suc i) x h e f = ap (λ b. p y && b) (fails-at p xs i x (omega arith) e f) ∙ and-false (p y)
  where
    and-false : (b : Bool) → (b && false) ≡ false
    and-false true = refl
    and-false false = refl

-- a writer that keeps this
abbrev pub writing : {O : Type 0} → Keeping O → List (Entry O) → ℕ → Option Ring → Book → Writing O
writing k shown readers ring book = record { kind = k.kind; kept = k.kept; events = k.events; shown = shown; readers = readers; ring = ring; book = book }

module _ {O : Type 0} (meta : O → ObjectMeta) where
  pub made-then : (kind : ObjectType) (kept new : Kept O) (events log : List (Event O)) (event : Event O) → IsMade meta (record { kind = kind; kept = kept; events = events })
      → new ≡ applied (λ o. key_of kind (meta o)) kept event → log ≡ events ++ event ∷ [] → IsMade meta (record { kind = kind; kept = new; events = log })
  made-then kind kept new events log event made is more =
      let key = λ (o : O). key_of kind (meta o) in
      is ∙ (ap (λ k. applied key k event) made ∙ (sym (fold-more (applied key) nothing events event) ∙ ap (kept_after key) (sym more)))

  module _ {A : Type 0} (value : A → O) where
    made-with : (k : Keeping O) (event : Event A) → IsMade meta k → IsMade meta (keeping_with value meta k event)
    made-with k event made = made-then k.kind k.kept _ k.events _ _ made refl refl

    pub made-all : (k : Keeping O) (events : List (Event A)) → IsMade meta k → IsMade meta (fold (keeping_with value meta) k events)
    made-all k [] made = made
    made-all k (e ∷ es) made = made-all (keeping_with value meta k e) es (made-with k e made)

    -- events that are applied to what is kept are applied to the writer
    pub all-applied : (k : Keeping O) (shown : List (Entry O)) (readers : ℕ) (ring : Option Ring) (book : Book) (events : List (Event A))
        → writing (fold (keeping_with value meta) k events) shown readers ring book ≡ fold (with_event value meta) (writing k shown readers ring book) events
    all-applied k shown readers ring book [] = refl
    all-applied k shown readers ring book (e ∷ es) = all-applied (keeping_with value meta k e) shown readers ring book es

  -- an object beside its key, told in two parts
  pub beside-key : (kind kind' : ObjectType) (r : Reference) (o o' x : O) → kind' ≡ kind → x ≡ o → r ≡ key_of kind (meta x) → o' ≡ o
      → ◌≡◌ {A = Reference × O} (r, o') (key_of kind' (meta o), o)
  beside-key kind kind' r o o' x k e is same =
      ap₂ (λ a b. (a, b)) (is ∙ (ap (λ y. key_of kind (meta y)) e ∙ ap (λ d. key_of d (meta o)) (sym k))) same
