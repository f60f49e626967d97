-- A turn as the calls that make it, however its root is fed: reads, and takes one after another, each with what its look-up answered. O is the type of objects. (Crate: `Controller`, `applier`.)
use Rattle.std.specs.Prelude.{◌≡◌, ℕ, Bool, true, false, not, ◌&&◌, List, [], ◌++◌, map, Option, is_some}
use Rattle.kube_model.specs.World.{World, Feed, Watched, Streamed, Queued, feed_of}
use Rattle.kube_model.specs.Reads.{Reads, nothing_read}
use Rattle.kube_model.specs.History.{Message, Exchange, Turn, Finished, Taken, Step}
use Rattle.kube_model.specs.Queue.{QueueEvent}
use Rattle.kube_model.specs.Shutdowns.{is_closed, is_over}
use Rattle.kube_model.specs.Stored.{store_in, may_take, was_ready}
use Rattle.kube_model.specs.Requests.{Timed, asked_at, waiting_in}
use Rattle.kube_model.specs.Turns.{running_in}
use Rattle.kube_history.specs.InTurn.{AreTaken, look_in, look_so}

-- the queue after more requests at a moment
abbrev pub with_requests : List (QueueEvent Message) → ℕ → List Timed → List (QueueEvent Message)
with_requests events at requests = events ++ map (asked_at at) requests

module _ {O B : Type 0} (w : World O B) (h : List (Step O)) (t : Turn) (r : Reads O) (finished : List Finished) (xs : List (Exchange O)) where
  -- what the n-th look-up answers: a watched root looks into its store, a stream or a queue asks its reader
  abbrev pub look_by : Feed → ℕ → Message → Option O
  look_by (Watched settings) n m = look_in w.key (store_in w h t xs) n m
  look_by Streamed n m = look_so r.looked_up n m
  look_by Queued n m = look_so r.looked_up n m

  -- takes of first candidates until none is left, where the turn takes; else none
  abbrev pub TakesBy : Feed → Bool → List (Taken O) → Type 0
  TakesBy feed true ts = AreTaken w.limit (look_by feed) 0 (waiting_in w h t r finished xs) (running_in w h t) ts
  TakesBy feed false ts = ts ≡ []

  -- the reads of a stream or a queue: `poll_ready` until it told that the store is ready, a reload's, one look-up for each take, and what is shown
  pub record ReaderAnswers (ts : List (Taken O)) : Type 0 where
    pub polled : is_some r.readiness ≡ not (was_ready h) && not (is_over w h t xs)
    pub reloaded : is_some r.reloaded ≡ t.reload && not (is_closed w h t)
    pub looked_up : r.looked_up ≡ map (λ taken. taken.object) ts
    pub shown : is_some r.shown ≡ t.show

  abbrev pub ReadsBy : Feed → List (Taken O) → Type 0
  ReadsBy (Watched settings) ts = r ≡ nothing_read
  ReadsBy Streamed ts = ReaderAnswers ts
  ReadsBy Queued ts = ReaderAnswers ts

  -- a turn that took these, after its asks
  pub record ReadsAndTakes (ts : List (Taken O)) : Type 0 where
    pub reads : ReadsBy (feed_of w 0) ts
    pub takes : TakesBy (feed_of w 0) (may_take w h t r xs) ts
