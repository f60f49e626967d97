-- What a stream answers when it is polled. (Crate: the streams of `WatchStreamExt`.)
use Rattle.std.specs.Prelude.{List, Option, Some, None, Result, Ok, Err}
use Rattle.kube_meta.specs.declared.poll.Next.{Next}
use Rattle.kube_meta.specs.declared.poll.Next.TheVariants.{Item, NotReady, Spent, End}
use Rattle.kube_model.specs.declared.error.Error.{Error}
use Rattle.kube_model.specs.Raw.{grown}
use Rattle.kube_model.specs.Streams.{StreamAnswer, Gives, GivesError, IsWaiting, GivesNothing, Ends, Unnamed as HasNoName}
use Rattle.kube_watch.specs.declared.stream.StreamFault.{StreamFault}
use Rattle.kube_watch.specs.declared.stream.StreamFault.TheVariants.{NoMemory, Unnamed}

-- an item or an error, or that nothing came, or that nothing will come, or a fault
abbrev pub Answer : Type 0 → Type 0
Answer I = Result (Next (Result I Error)) StreamFault

-- the answers so far, where they are told, after one more; want of memory is not told
abbrev pub told_after : {I : Type 0} → Option (List (Answer I)) → Answer I → Option (List (Answer I))
told_after told (Ok answer) = grown told (Ok answer)
told_after told (Err Unnamed) = grown told (Err Unnamed)
told_after told (Err NoMemory) = told

-- an answer in the words of the model, which has none for want of memory; value gives what an item stands for, as the object that is shared
abbrev pub stream_answer : {I O : Type 0} → (I → O) → Answer I → Option (StreamAnswer O)
stream_answer value (Ok (Item (Ok item))) = Some (Gives (value item))
stream_answer value (Ok (Item (Err error))) = Some (GivesError error)
stream_answer value (Ok NotReady) = Some IsWaiting
stream_answer value (Ok Spent) = Some GivesNothing
stream_answer value (Ok End) = Some Ends
stream_answer value (Err Unnamed) = Some HasNoName
stream_answer value (Err NoMemory) = None
