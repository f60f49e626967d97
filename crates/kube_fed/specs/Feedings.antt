-- How a stream that feeds a source is asked. S is the type of streams, I that of what they give. (Crate: the stream of `Controller::for_stream`, the queue of `applier`; futures: `StreamExt::fuse`.)
use Rattle.std.specs.Prelude.{◌≡◌, ℕ, Bool, true, false, Option, Some, None, Ok, Err}
use Rattle.kube_meta.specs.declared.poll.Next.TheVariants.{Item, NotReady, Spent, End}
use Rattle.kube_watch.specs.Streams.{Answer}
use Rattle.kube_watch.specs.declared.stream.StreamFault.{StreamFault}
use Rattle.kube_watch.specs.declared.stream.StreamFault.TheVariants.{NoMemory, Unnamed}
use Rattle.kube_fed.specs.declared.feeding.Standing.{Standing}
use Rattle.kube_fed.specs.declared.feeding.Standing.TheVariants.{Open, Ended, Failed}
use Rattle.kube_fed.specs.declared.feeding.Feeding.{Feeding}

-- how a stream stands after an answer
abbrev pub standing_after : {I : Type 0} → Answer I → Standing
standing_after (Ok (Item told)) = Open
standing_after (Ok NotReady) = Open
standing_after (Ok Spent) = Open
standing_after (Ok End) = Ended
standing_after (Err fault) = Failed fault

abbrev pub has_ended : Standing → Bool
has_ended Open = false
has_ended Ended = true
has_ended (Failed fault) = false

-- the fault that came of it, which is all that is answered from then on
abbrev pub failed_in : Standing → Option StreamFault
failed_in Open = None
failed_in Ended = None
failed_in (Failed fault) = Some fault

module _ {S I : Type 0} (polls : S → ℕ → ℕ → Answer I → S → Type 0) where
  -- an open stream is polled once, with fuel 1; one that has ended tells not ready, and one of which a fault came answers that, and neither is polled
  abbrev pub IsAskedAs : Standing → ℕ → Feeding S → Answer I → Feeding S → Type 0
  IsAskedAs Open now old answer new = polls old.stream now 1 answer new.stream × (new.standing ≡ standing_after answer)
  IsAskedAs Ended now old answer new = (answer ≡ Ok NotReady) × (new ≡ old)
  IsAskedAs (Failed fault) now old answer new = (answer ≡ Err fault) × (new ≡ old)

  abbrev pub IsAsked : ℕ → Feeding S → Answer I → Feeding S → Type 0
  IsAsked now old answer new = IsAskedAs old.standing now old answer new

-- of these answers memory may be wanting: an item of which an exchange is made, and that there was none
abbrev pub takes_memory : {I : Type 0} → Answer I → Bool
takes_memory (Ok (Item (Ok item))) = true
takes_memory (Ok (Item (Err error))) = false
takes_memory (Ok NotReady) = false
takes_memory (Ok Spent) = false
takes_memory (Ok End) = false
takes_memory (Err NoMemory) = true
takes_memory (Err Unnamed) = false
