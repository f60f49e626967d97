-- An exchange that fits in a world is one that a core may be answered with.
use Rattle.std.proofs.Common.{◌≡◌, IsTrue, zero, suc, ℕ, Bool, true, false, not, ◌||◌, ◌==◌, List, [], ◌∷◌, ◌++◌, Option, refl, sym, ap, subst, ◌∙◌, inl, inr, append_assoc, append-nil}
use Rattle.std.specs.List.{list_any, AllByRecursion}
use Rattle.std.proofs.lemmas.Bool.{eqb-true}
use Rattle.kube_model.specs.declared.call.Call.{Call}
use Rattle.kube_model.specs.declared.call.Answer.{Answer}
use Rattle.kube_model.specs.declared.call.Answer.TheVariants.{Page, Opened, Added, Modified, Deleted, Bookmark, ErrorItem, Fault, End, NotReady, Idle, Item, Spent}
use Rattle.kube_model.specs.World.{World, Settings, Feed, Watched, Streamed, Queued, feed_of, is_watched}
use Rattle.kube_model.specs.History.{Exchange, Dated, exchanges_of}
use Rattle.kube_model.specs.Owed.{owed}
use Rattle.kube_model.specs.Fits.{IsFitting, IsOneOf, WatchItemsFit, IsOfWatch, IsOfRoot, IsOfSource}
use Rattle.kube_model.specs.Named.{AreNamed, RootIsNamed}
use Rattle.kube_model.proofs.Alls.{all-append}
use Rattle.kube_model.proofs.Histories.{exchanges_of-own, exchanges_of-other}
use Rattle.kube_history.specs.CoreWorld.{core_world, world_of}
use Rattle.kube_history.specs.Legal.{is_stream, are_streams, MayOwe, RelatedMayOwe, SourceMayOwe, MayBeAnswered}
use Rattle.kube_history.specs.Agrees.{EachFits}
use Rattle.kube_history.proofs.Starts.{same-form, owed-asks}

module _ {O B : Type 0} (w : World O B) where
  pub each-push : (before : List (Dated O)) (ds : List (Dated O)) (d : Dated O) → EachFits w before ds → IsFitting w (before ++ ds) d.at d.exchange → EachFits w before (ds ++ d ∷ [])
  each-push before [] d k f = (subst (λ es. IsFitting w es d.at d.exchange) (append-nil before) f, tt)
  each-push before (e ∷ es) d k f = (k.0, each-push (before ++ e ∷ []) es d k.1 (subst (λ g. IsFitting w g d.at d.exchange) (sym (append_assoc before (e ∷ []) es)) f))

  -- each exchange of a source polls a stream exactly where the source is no watcher
  abbrev pub IsShaped : Feed → Exchange O → Type 0
  IsShaped feed x = is_stream x.call ≡ not (is_watched feed)

  abbrev pub AreShaped : List (Dated O) → Type 0
  AreShaped ds = (source : ℕ) → AllByRecursion (IsShaped (feed_of w source)) (exchanges_of source ds)

  one-shaped : (feed : Feed) (own : List (Exchange O)) (x : Exchange O) → x.call ≡ owed feed own → IsShaped feed x
  one-shaped (Watched settings) own x e = ap is_stream e ∙ owed-asks settings own
  one-shaped Streamed own x e = ap is_stream e
  one-shaped Queued own x e = ap is_stream e

  pub shaped-push : (ds : List (Dated O)) (d : Dated O) → AreShaped ds → IsFitting w ds d.at d.exchange → AreShaped (ds ++ d ∷ [])
  shaped-push ds d k f source = go (d.exchange.source == source) refl
    where
      x : Exchange O
      x = d.exchange

      go : (b : Bool) → (d.exchange.source == source) ≡ b → AllByRecursion (IsShaped (feed_of w source)) (exchanges_of source (ds ++ d ∷ []))
      go true e =
          let is : d.exchange.source ≡ source = eqb-true d.exchange.source source e in
          let this : IsShaped (feed_of w source) d.exchange =
          subst (λ s. IsShaped (feed_of w s) d.exchange) is (one-shaped (feed_of w d.exchange.source) (exchanges_of d.exchange.source ds) d.exchange f.owes) in
          subst (AllByRecursion (IsShaped (feed_of w source))) (sym (exchanges_of-own source ds d e))
          (all-append (IsShaped (feed_of w source)) (exchanges_of source ds) (d.exchange ∷ []) (k source) (this, tt))
      go false e = subst (AllByRecursion (IsShaped (feed_of w source))) (sym (exchanges_of-other source ds d e)) (k source)

  pub all-shaped : (before ds : List (Dated O)) → AreShaped before → EachFits w before ds → AreShaped (before ++ ds)
  all-shaped before [] k f = subst AreShaped (sym (append-nil before)) k
  all-shaped before (d ∷ ds) k f = subst AreShaped (append_assoc before (d ∷ []) ds) (all-shaped (before ++ d ∷ []) ds (shaped-push before d k f.0) f.1)

  pub shaped : (ds : List (Dated O)) → EachFits w [] ds → AreShaped ds
  shaped ds f = all-shaped [] ds (λ source. tt) f

  -- What is owed.

  watcher-owes : (settings : Settings) (xs : List (Exchange O)) (call : Call) → call ≡ owed (Watched settings) xs → MayOwe xs call
  watcher-owes settings xs call e = (settings.streaming, e ∙ same-form settings xs)

  some-asks : (xs : List (Exchange O)) → AllByRecursion (λ x. is_stream x.call ≡ true) xs → are_streams xs ≡ true
  some-asks [] k = refl
  some-asks (x ∷ xs) k = ap (λ b. not (not b || list_any (λ x. not (is_stream x.call)) xs)) k.0 ∙ some-asks xs k.1

  related-owes : (feed : Feed) (xs : List (Exchange O)) (call : Call) → AllByRecursion (IsShaped feed) xs → call ≡ owed feed xs → RelatedMayOwe (are_streams xs) xs call
  related-owes (Watched settings) [] call k e = inl (watcher-owes settings [] call e)
  related-owes (Watched settings) (x ∷ xs) call k e =
      subst (λ b. RelatedMayOwe b (x ∷ xs) call) (sym (ap (λ b. not (not b || list_any (λ x. not (is_stream x.call)) xs)) k.0)) (watcher-owes settings (x ∷ xs) call e)
  related-owes Streamed [] call k e = inr e
  related-owes Streamed (x ∷ xs) call k e = subst (λ b. RelatedMayOwe b (x ∷ xs) call) (sym (some-asks (x ∷ xs) k)) e
  related-owes Queued [] call k e = inr e
  related-owes Queued (x ∷ xs) call k e = subst (λ b. RelatedMayOwe b (x ∷ xs) call) (sym (some-asks (x ∷ xs) k)) e

  source-owes : (settings : Settings) → feed_of w 0 ≡ Watched settings → (source : ℕ) (own : List (Exchange O)) (call : Call) → AllByRecursion (IsShaped (feed_of w source)) own
      → call ≡ owed (feed_of w source) own → SourceMayOwe source own call
  source-owes settings watched zero own call k e = watcher-owes settings own call (e ∙ ap (λ f. owed f own) watched)
  source-owes settings watched (suc place) own call k e = related-owes (feed_of w (suc place)) own call k e

  -- What came.

  one-of : (version : Option (List ℕ)) (items : List O) → IsOneOf w version items → IsOneOf (world_of (core_world w)) version items
  one-of version [] k = k
  one-of version (o ∷ []) k = k
  one-of version (o ∷ p ∷ os) k = k

  items-fit : (answer : Answer) (items : List O) → WatchItemsFit w answer items → WatchItemsFit (world_of (core_world w)) answer items
  items-fit (Page token version) items k = k
  items-fit (Added version) items k = one-of version items k
  items-fit (Modified version) items k = one-of version items k
  items-fit (Deleted version) items k = one-of version items k
  items-fit Item items k = k
  items-fit Opened items k = k
  items-fit (Bookmark version ending) items k = k
  items-fit (ErrorItem status) items k = k
  items-fit (Fault e) items k = k
  items-fit End items k = k
  items-fit NotReady items k = k
  items-fit Idle items k = k
  items-fit Spent items k = k

  content : (settings : Settings) → feed_of w 0 ≡ Watched settings → (source : ℕ) (own : List (Exchange O)) (x : Exchange O) → IsOfSource w source own x
      → IsOfSource (world_of (core_world w)) source own x
  content settings watched zero own x k =
      let is : IsOfWatch w own x = subst (λ f. IsOfRoot w f own x) watched k in
      record { items = items-fit x.answer x.items is.items; requests = is.requests }
  content settings watched (suc place) own x k = k

  names : (source : ℕ) (own : List (Exchange O)) (x : Exchange O) → IsOfSource w source own x → RootIsNamed w source own x → AreNamed (world_of (core_world w)) own x
  names zero own x k n = n
  names (suc place) own x k n = λ r. subst (AllByRecursion (λ o. IsTrue (w.is_named o))) (sym k.items) tt

  pub answerable : (settings : Settings) → feed_of w 0 ≡ Watched settings → (ds : List (Dated O)) (at : ℕ) (x : Exchange O) → AreShaped ds → IsFitting w ds at x
      → RootIsNamed w x.source (exchanges_of x.source ds) x → MayBeAnswered (core_world w) ds x
  answerable settings watched ds at x k f n = record {
    owes = source-owes settings watched x.source (exchanges_of x.source ds) x.call (k x.source) f.owes;
    answer = f.answer;
    content = content settings watched x.source (exchanges_of x.source ds) x f.content;
    named = names x.source (exchanges_of x.source ds) x f.content n;
  }
