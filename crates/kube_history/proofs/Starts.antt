-- What settings do to an owed call: they say the form of a start, and no more.
use Rattle.std.proofs.Common.{◌≡◌, ◌⊎◌, ℕ, Bool, true, false, ◌||◌, ◌==◌, cond, List, [], Option, Some, None, is_some, refl, sym, ap, ◌∙◌, inl, inr}
use Rattle.kube_model.specs.declared.call.Call.{Call}
use Rattle.kube_model.specs.declared.call.Call.TheVariants.{List as ListCall, Watch, Next, Stream}
use Rattle.kube_model.specs.declared.call.Answer.{Answer}
use Rattle.kube_model.specs.declared.call.Answer.TheVariants.{Page, Opened, Added, Modified, Deleted, Bookmark, ErrorItem, Fault, End, NotReady, Idle, Item, Spent}
use Rattle.kube_model.specs.declared.error.ApiError.{ApiError}
use Rattle.kube_model.specs.World.{Settings, Watched, start_by}
use Rattle.kube_model.specs.History.{Exchange}
use Rattle.kube_model.specs.Cuts.{last}
use Rattle.kube_model.specs.Owed.{owed, owed_by, owed_after, answered, is_initial, seen}
use Rattle.kube_model.specs.Store.{under_way}
use Rattle.kube_history.specs.CoreEvents.{starting}
use Rattle.kube_history.specs.Legal.{is_stream}

-- Two settings: the calls that are owed by them are the same, or both starts.
module _ (s s' : Settings) where
  abbrev pub AreAlike : Call → Call → Type 0
  AreAlike c d = (c ≡ d) ⊎ ((c ≡ start_by s) × (d ≡ start_by s'))

  starts : AreAlike (start_by s) (start_by s')
  starts = inr (refl, refl)

  next-or : (b : Bool) → AreAlike (cond b Next (start_by s)) (cond b Next (start_by s'))
  next-or true = inl refl
  next-or false = starts

  start-or : (b : Bool) (d : Call) → AreAlike (cond b (start_by s) d) (cond b (start_by s') d)
  start-or true d = starts
  start-or false d = inl refl

  module _ {O : Type 0} (i : Bool) (v : List ℕ) where
    faulted : (x : Exchange O) (e : ApiError) (call : Call) → AreAlike (owed_after s i v (record x { answer = Fault e; call = call })) (owed_after s' i v (record x { answer = Fault e; call = call }))
    faulted x e (ListCall token) = starts
    faulted x e (Watch version initial) = start-or initial (Watch v false)
    faulted x e Next = inl refl
    faulted x e Stream = inl refl

    after : (x : Exchange O) (answer : Answer) → AreAlike (owed_after s i v (record x { answer = answer })) (owed_after s' i v (record x { answer = answer }))
    after x (Page (Some token) version) = inl refl
    after x (Page None (Some version)) = inl refl
    after x (Page None None) = starts
    after x Opened = inl refl
    after x (Added version) = next-or (i || is_some version)
    after x (Modified version) = next-or (i || is_some version)
    after x (Deleted version) = next-or (i || is_some version)
    after x (Bookmark version ending) = inl refl
    after x (ErrorItem status) = start-or (status.code == 410) Next
    after x (Fault e) = faulted x e x.call
    after x End = start-or i (Watch v false)
    after x Idle = start-or i (Watch v false)
    after x NotReady = inl refl
    after x Item = inl refl
    after x Spent = inl refl

    by : (o : Option (Exchange O)) → AreAlike (owed_by s i v o) (owed_by s' i v o)
    by None = starts
    by (Some x) = after x x.answer

  pub alike : {O : Type 0} (xs : List (Exchange O)) → AreAlike (owed (Watched s) xs) (owed (Watched s') xs)
  alike xs = by (is_initial xs) (seen xs) (last (answered xs))

-- the form of start alone matters
pub same-form : {O : Type 0} (s : Settings) (xs : List (Exchange O)) → owed (Watched s) xs ≡ owed (Watched (starting s.streaming)) xs
same-form s xs = go (alike s (starting s.streaming) xs)
  where
    go : AreAlike s (starting s.streaming) (owed (Watched s) xs) (owed (Watched (starting s.streaming)) xs) → owed (Watched s) xs ≡ owed (Watched (starting s.streaming)) xs
    go (inl e) = e
    go (inr p) = p.0 ∙ sym p.1

none-starting : {O : Type 0} (s : Settings) (xs : List (Exchange O)) → under_way (start_by s) xs ≡ []
none-starting s xs = go s.streaming
  where
    go : (b : Bool) → under_way (start_by (starting b)) xs ≡ []
    go true = refl
    go false = refl

-- the list under way is the same whatever the settings
pub same-listing : {O : Type 0} (s s' : Settings) (xs : List (Exchange O)) → under_way (owed (Watched s) xs) xs ≡ under_way (owed (Watched s') xs) xs
same-listing s s' xs = go (alike s s' xs)
  where
    go : AreAlike s s' (owed (Watched s) xs) (owed (Watched s') xs) → under_way (owed (Watched s) xs) xs ≡ under_way (owed (Watched s') xs) xs
    go (inl e) = ap (λ c. under_way c xs) e
    go (inr p) = ap (λ c. under_way c xs) p.0 ∙ (none-starting s xs ∙ sym (ap (λ c. under_way c xs) p.1 ∙ none-starting s' xs))

-- A watcher owes no stream's item.
module _ (s : Settings) where
  start-asks : is_stream (start_by s) ≡ false
  start-asks = go s.streaming
    where
      go : (b : Bool) → is_stream (start_by (starting b)) ≡ false
      go true = refl
      go false = refl

  next-asks : (b : Bool) → is_stream (cond b Next (start_by s)) ≡ false
  next-asks true = refl
  next-asks false = start-asks

  anew-asks : (b : Bool) (d : Call) → is_stream d ≡ false → is_stream (cond b (start_by s) d) ≡ false
  anew-asks true d e = start-asks
  anew-asks false d e = e

  module _ {O : Type 0} (i : Bool) (v : List ℕ) where
    fault-asks : (x : Exchange O) (e : ApiError) (call : Call) → is_stream (owed_after s i v (record x { answer = Fault e; call = call })) ≡ false
    fault-asks x e (ListCall token) = start-asks
    fault-asks x e (Watch version initial) = anew-asks initial (Watch v false) refl
    fault-asks x e Next = refl
    fault-asks x e Stream = refl

    after-asks : (x : Exchange O) (answer : Answer) → is_stream (owed_after s i v (record x { answer = answer })) ≡ false
    after-asks x (Page (Some token) version) = refl
    after-asks x (Page None (Some version)) = refl
    after-asks x (Page None None) = start-asks
    after-asks x Opened = refl
    after-asks x (Added version) = next-asks (i || is_some version)
    after-asks x (Modified version) = next-asks (i || is_some version)
    after-asks x (Deleted version) = next-asks (i || is_some version)
    after-asks x (Bookmark version ending) = refl
    after-asks x (ErrorItem status) = anew-asks (status.code == 410) Next refl
    after-asks x (Fault e) = fault-asks x e x.call
    after-asks x End = anew-asks i (Watch v false) refl
    after-asks x Idle = anew-asks i (Watch v false) refl
    after-asks x NotReady = refl
    after-asks x Item = refl
    after-asks x Spent = refl

    by-asks : (o : Option (Exchange O)) → is_stream (owed_by s i v o) ≡ false
    by-asks None = start-asks
    by-asks (Some x) = after-asks x x.answer

  pub owed-asks : {O : Type 0} (xs : List (Exchange O)) → is_stream (owed (Watched s) xs) ≡ false
  owed-asks xs = by-asks (is_initial xs) (seen xs) (last (answered xs))
