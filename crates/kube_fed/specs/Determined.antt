-- Streams that determine what is answered. (Crate: the streams of `Controller::watches_stream`.)
use Rattle.std.specs.Prelude.{◌≡◌, ℕ}
use Rattle.kube_watch.specs.Streams.{Answer}

-- polls move a stream one way: what one is answered at a moment, and what it leaves, is determined
abbrev pub MovesOneWay : {S I : Type 0} → (S → ℕ → ℕ → Answer I → S → Type 0) → Type 0
MovesOneWay {S} {I} polls = (s : S) (now fuel : ℕ) (a b : Answer I) (t u : S) → polls s now fuel a t → polls s now fuel b u → (a ≡ b) × (t ≡ u)
