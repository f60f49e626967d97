-- How a stream is asked by one that stands on it. (Crate: the streams of `WatchStreamExt`.)
use Rattle.std.specs.Prelude.{◌≡◌, ℕ, ◌+◌, ◌<◌, Bool, true, false, List, [], ◌∷◌, ◌++◌, replicate, Option, Some, None, Ok, Err}
use Rattle.kube_meta.specs.declared.poll.Next.TheVariants.{Item, NotReady, Spent, End}
use Rattle.kube_watch.specs.declared.stream.StreamFault.{StreamFault}
use Rattle.kube_watch.specs.Streams.{Answer, told_after}

-- the fault that an answer leaves
abbrev pub fault_in : {I : Type 0} → Answer I → Option StreamFault
fault_in (Ok a) = None
fault_in (Err fault) = Some fault

-- whether an answer gives something: all but that the work of one call was done
abbrev pub gives_something : {I : Type 0} → Answer I → Bool
gives_something (Ok (Item i)) = true
gives_something (Ok NotReady) = true
gives_something (Ok Spent) = false
gives_something (Ok End) = true
gives_something (Err fault) = true

-- what a poll of a stream says: what it says of itself, and that the answer is told where it tells its answers
abbrev pub Said : {S I : Type 0} → (S → ℕ → ℕ → Answer I → S → Type 0) → (S → Option (List (Answer I))) → S → ℕ → ℕ → Answer I → S → Type 0
Said polls told s now fuel answer s' = polls s now fuel answer s' × (told s' ≡ told_after (told s) answer)

module _ {S I : Type 0} (polls : S → ℕ → ℕ → Answer I → S → Type 0) where
  -- polls of a stream at one moment, one after another, each with fuel 1
  abbrev pub Polls : ℕ → S → List (Answer I) → S → Type 0
  Polls now s [] s' = s ≡ s'
  Polls now s (a ∷ more) s' = (m : S) × polls s now 1 a m × Polls now m more s'

  -- the stream was asked until it gave something, or `fuel` times: this is its last answer
  pub record Asked (now fuel : ℕ) (s : S) (last : Answer I) (s' : S) : Type 0 where
    pub idle : ℕ
    pub polled : Polls now s (replicate idle (Ok Spent) ++ last ∷ []) s'
    pub few : idle < fuel
    pub spent : last ≡ Ok Spent → idle + 1 ≡ fuel
