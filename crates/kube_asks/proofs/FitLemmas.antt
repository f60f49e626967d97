-- What its own exchanges say of an exchange, among all exchanges of a controller.
use Rattle.std.proofs.Common.{◌≡◌, ◌≢◌, ℕ, zero, suc, ◌+◌, ◌-◌, ◌<◌, ◌≤◌, ◌==◌, List, [], ◌∷◌, ◌++◌, map, length, Option, unwrap_or, slice_get, refl, sym, ap, subst, ◌∙◌, arith}
use Rattle.std.proofs.lemmas.Bool.{eq-eqb, ne_eqb}
use Rattle.kube_meta.specs.Reference.{ObjectType, Reference}
use Rattle.kube_meta.specs.declared.metadata.ObjectMeta.{ObjectMeta}
use Rattle.kube_meta.specs.Keys.{key_of}
use Rattle.kube_model.specs.declared.call.Answer.{Answer}
use Rattle.kube_model.specs.declared.call.Answer.TheVariants.{Page, Opened, Added, Modified, Deleted, Bookmark, ErrorItem, Fault, End, NotReady, Idle, Item, Spent}
use Rattle.kube_model.specs.World.{World, Feed, Settings, Watched, Streamed, Queued, feed_of}
use Rattle.kube_model.specs.History.{Dated, Exchange, dated_of, exchanges_of}
use Rattle.kube_model.specs.Fits.{IsFitting, IsAnswered, IsOfRelated, IsOfRoot, IsOneOf, WatchItemsFit, requests_of_watch, nonempty}
use Rattle.kube_model.specs.Reason.{ObjectUpdated}
use Rattle.kube_model.proofs.Marks.{filter-hit, filter-miss}
use Rattle.kube_asks.specs.Sources.{IsRelatedNext, IsRootNext, fed, feed_at, root_world}

module _ {O : Type 0} where
  -- an exchange is answered whatever its source
  answered-as : (own : List (Exchange O)) (x : Exchange O) (source : ℕ) → IsAnswered own x → IsAnswered own (record x { source = source })
  answered-as own x source h = record { answered = h.answered; texts = h.texts; error = h.error }

  related-as : (own : List (Exchange O)) (x : Exchange O) (source : ℕ) → IsOfRelated own x → IsOfRelated own (record x { source = source })
  related-as own x source h = record { items = h.items; requests = h.requests }

module _ {O B : Type 0} (w : World O B) (t : ObjectType) (meta : O → ObjectMeta) where
  one-of : (feed : Feed) (version : Option (List ℕ)) (os : List O) → w.version ≡ (λ o. (meta o).resource_version) → IsOneOf (root_world t meta feed) version os → IsOneOf w version os
  one-of feed version [] e h = h
  one-of feed version (o ∷ []) e h = h ∙ ap (λ v. nonempty (v o)) (sym e)
  one-of feed version (o ∷ p ∷ os) e h = h

  watch-items : (feed : Feed) (answer : Answer) (os : List O) → w.version ≡ (λ o. (meta o).resource_version)
      → WatchItemsFit (root_world t meta feed) answer os → WatchItemsFit w answer os
  watch-items feed (Page token version) os e h = h
  watch-items feed Opened os e h = h
  watch-items feed (Added version) os e h = one-of feed version os e h
  watch-items feed (Modified version) os e h = one-of feed version os e h
  watch-items feed (Deleted version) os e h = one-of feed version os e h
  watch-items feed (Bookmark version ending) os e h = h
  watch-items feed (ErrorItem status) os e h = h
  watch-items feed (Fault error) os e h = h
  watch-items feed End os e h = h
  watch-items feed NotReady os e h = h
  watch-items feed Idle os e h = h
  watch-items feed Item os e h = h
  watch-items feed Spent os e h = h

  of-root : (feed : Feed) (own : List (Exchange O)) (x : Exchange O) → w.version ≡ (λ o. (meta o).resource_version) → w.key ≡ (λ o. key_of t (meta o))
      → IsOfRoot (root_world t meta feed) feed own x → IsOfRoot w feed own x
  of-root (Watched settings) own x e k h = record {
    items = watch-items (Watched settings) x.answer x.items e h.items;
    requests = subst (λ (f : O → Reference). x.requests ≡ requests_of_watch (record w { key = f }) own x) (sym k) h.requests;
  }
  of-root Streamed own x e k h = record {
    items = h.items;
    requests = subst (λ (f : O → Reference). x.requests ≡ map (λ o. record { reference = f o; reason = ObjectUpdated }) x.items) (sym k) h.requests;
  }
  of-root Queued own x e k h = record { items = h.items; requests = h.requests }

  -- the root's
  pub root-fits : (feed : Feed) (ds : List (Dated O)) (at : ℕ) (x : Exchange O) → feed_of w 0 ≡ feed
      → w.version ≡ (λ o. (meta o).resource_version) → w.key ≡ (λ o. key_of t (meta o))
      → IsRootNext t meta feed (dated_of 0 ds) at (record x { source = 0 }) → IsFitting w ds at (record x { source = 0 })
  root-fits feed ds at x same v k h = subst (λ f. IsRootNext t meta f (dated_of 0 ds) at (record x { source = 0 }) → IsFitting w ds at (record x { source = 0 })) same
      (λ (g : IsRootNext t meta (feed_of w 0) (dated_of 0 ds) at (record x { source = 0 })). record {
        owes = g.owed.owes;
        idle = g.owed.idle;
        answer = g.owed.answer;
        content = of-root (feed_of w 0) (exchanges_of 0 ds) (record x { source = 0 }) v k g.content;
      }) h

  -- a related source's
  pub related-fits : (feed : Feed) (ds : List (Dated O)) (at place : ℕ) (x : Exchange O) → feed_of w (suc place) ≡ feed
      → IsRelatedNext feed (dated_of (suc place) ds) at x → IsFitting w ds at (record x { source = suc place })
  related-fits feed ds at place x same h = subst (λ f. IsRelatedNext f (dated_of (suc place) ds) at x → IsFitting w ds at (record x { source = suc place })) same
      (λ (g : IsRelatedNext (feed_of w (suc place)) (dated_of (suc place) ds) at x). record {
        owes = g.owed.owes;
        idle = g.owed.idle;
        answer = answered-as (exchanges_of (suc place) ds) x (suc place) g.owed.answer;
        content = related-as (exchanges_of (suc place) ds) x (suc place) g.content;
      }) h

-- How sources are fed.
module _ {O B : Type 0} (w : World O B) where
  pub feed-root : (feed : Feed) (feeds : List (Option Settings)) → w.feeds ≡ feed ∷ map fed feeds → feed_of w 0 ≡ feed
  feed-root feed feeds e = ap (λ fs. unwrap_or (slice_get fs 0) Streamed) e

  pub feed-related : (feed : Feed) (feeds : List (Option Settings)) (place : ℕ) → w.feeds ≡ feed ∷ map fed feeds → feed_of w (suc place) ≡ feed_at feeds place
  feed-related feed feeds place e = ap (λ fs. unwrap_or (slice_get fs (suc place)) Streamed) e

-- One more exchange is its own source's, and no other's.
module _ {O : Type 0} where
  pub own-push : (ds : List (Dated O)) (d : Dated O) → dated_of d.exchange.source (ds ++ d ∷ []) ≡ dated_of d.exchange.source ds ++ d ∷ []
  own-push ds d = filter-hit (λ e. e.exchange.source == d.exchange.source) ds d (eq-eqb d.exchange.source d.exchange.source refl)

  pub other-push : (ds : List (Dated O)) (d : Dated O) (source : ℕ) → d.exchange.source ≢ source → dated_of source (ds ++ d ∷ []) ≡ dated_of source ds
  other-push ds d source h = filter-miss (λ e. e.exchange.source == source) ds d (ne_eqb d.exchange.source source h)

-- How the places of two sets are fed.

pub feed-first : (xs ys : List (Option Settings)) (place : ℕ) → place < length xs → feed_at (xs ++ ys) place ≡ feed_at xs place
feed-first [] ys place h = absurd (omega arith)
feed-first (x ∷ xs) ys zero h = refl
feed-first (x ∷ xs) ys (suc place) h = feed-first xs ys place (omega arith)

feed-later : (xs ys : List (Option Settings)) (place : ℕ) → feed_at (xs ++ ys) (length xs + place) ≡ feed_at ys place
feed-later [] ys place = let e : 0 + place ≡ place = omega arith in ap (feed_at ys) e
feed-later (x ∷ xs) ys place = let e : length (x ∷ xs) + place ≡ suc (length xs + place) = omega arith in ap (feed_at (x ∷ (xs ++ ys))) e ∙ feed-later xs ys place

pub feed-rest : (xs ys : List (Option Settings)) (place : ℕ) → length xs ≤ place → feed_at (xs ++ ys) place ≡ feed_at ys (place - length xs)
feed-rest xs ys place h = let e : place ≡ length xs + (place - length xs) = omega arith in ap (feed_at (xs ++ ys)) e ∙ feed-later xs ys (place - length xs)
