-- Sources that determine what is exchanged with them: an API and a mapper that answer one way. O is the type of the root's objects, D that of their dynamic types.
use Rattle.std.specs.Prelude.{◌≡◌, ℕ, IsTrue, List}
use Rattle.kube_meta.specs.Reference.{Reference}
use Rattle.kube_model.specs.World.{Feed, window_of}
use Rattle.kube_model.specs.History.{Dated, Exchange}
use Rattle.kube_model.specs.Owed.{is_next, owed}
use Rattle.kube_model.specs.Fits.{IsAnswered, idle_fits, is_window_over, silent_since}
use Rattle.kube_model.specs.Raw.{Raw}
use Rattle.kube_watch.specs.Stands.{exchanges_in}
use Rattle.kube_asks.specs.Sources.{fed, feed_at}
use Rattle.kube_asks.specs.declared.related.Related as related_source
use Rattle.kube_asks.specs.declared.set.RelatedSet as related_set

-- calls move an API one way: what a call at a moment is answered, and what it leaves, is determined
abbrev pub IsOneWay : {A V : Type 0} → (A → ℕ → Raw V → A → Type 0) → Type 0
IsOneWay {A} {V} moves = (a : A) (at : ℕ) (r q : Raw V) (b c : A) → moves a at r b → moves a at q c → r.call ≡ q.call → (r ≡ q) × (b ≡ c)

-- a mapper answers one thing of an object
abbrev pub AnswersOnce : {M V : Type 0} → (M → V → List Reference → Type 0) → Type 0
AnswersOnce {M} {V} answers = (m : M) (o : V) (rs qs : List Reference) → answers m o rs → answers m o qs → rs ≡ qs

-- the exchange's call is owed by a source so fed after these exchanges of its own, it is idle exactly where the window is over, and its error is that of its answer
pub record IsOwedNext {O : Type 0} (feed : Feed) (own : List (Dated O)) (at : ℕ) (x : Exchange O) : Type 0 where
  pub owes : x.call ≡ owed feed (exchanges_in own)
  pub idle : IsTrue (is_next x.call) → IsTrue (idle_fits (is_window_over (window_of feed) (silent_since own) at) x.answer)
  pub answer : IsAnswered (exchanges_in own) x

-- two related sources that are asked alike are fed alike; after the same exchanges and at the same moment they make the same exchange, where it is one that is owed, and are asked alike afterwards
pub record IsDetermined {T O D : Type 0} (source : related_source.Ghosts T O D) : Type 0 where
  pub fed_alike : (a b : T) → source.alike a b → source.settings a ≡ source.settings b
  pub same : (a b a' b' : T) (own : List (Dated O)) (at : ℕ) (x y : Exchange O) → source.alike a b
      → IsOwedNext (fed (source.settings a)) own at x → IsOwedNext (fed (source.settings a)) own at y → x.source ≡ y.source → source.polls a own at x a' → source.polls b own at y b'
      → (x ≡ y) × source.alike a' b' × (source.settings a' ≡ source.settings a)

-- so it is with the sources of two sets, at each place
pub record AreDetermined {S O D : Type 0} (set : related_set.Ghosts S O D) : Type 0 where
  pub fed_alike : (s u : S) → set.alike s u → set.feeds s ≡ set.feeds u
  pub same : (s u s' u' : S) (place : ℕ) (own : List (Dated O)) (at : ℕ) (x y : Exchange O) → set.alike s u
      → IsOwedNext (feed_at (set.feeds s) place) own at x → IsOwedNext (feed_at (set.feeds s) place) own at y → x.source ≡ y.source → set.polls s place own at x s' → set.polls u place own at y u'
      → (x ≡ y) × set.alike s' u' × (set.feeds s' ≡ set.feeds s)
