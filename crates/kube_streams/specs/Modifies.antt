-- Events whose objects a closure changes. (Crate: `EventModify`.)
use Rattle.std.specs.Prelude.{◌≡◌, ℕ, List, [], ◌∷◌, Option, Some, None, Ok, Err}
use Rattle.std.specs.Fn.{Mut, CalledAtMut}
use Rattle.std.specs.Borrow.{MutBor}
use Rattle.kube_meta.specs.declared.poll.Next.TheVariants.{Item, NotReady, Spent, End}
use Rattle.kube_watch.specs.declared.event.Event.{Event}
use Rattle.kube_watch.specs.declared.event.Event.TheVariants.{Apply, Delete, Init, InitApply, InitDone}
use Rattle.kube_watch.specs.declared.stream.StreamFault.{StreamFault}
use Rattle.kube_watch.specs.Streams.{Answer}
use Rattle.kube_watch.specs.Asking.{Asked, fault_in}
use Rattle.kube_streams.specs.Adapts.{Told, all_told}
use Rattle.kube_streams.specs.InOrder.{Answered, answers_told}

-- a stream S, the closure F that changes the objects, and the fault that is answered from then on
pub record Modifying (S F : Type 0) : Type 0 where
  pub stream : S
  pub f : F
  pub fault : Option StreamFault

module _ {F T : Type 0} (g : Mut F (MutBor T × Unit {0}) (Unit {0} × (MutBor T × Unit {0}))) where
  -- a call of f changed the object of the event, and left f so; an event without an object is as before
  abbrev pub IsChanged : F → Event T → Event T → F → Type 0
  IsChanged f (Apply x) e after = (y : T) × CalledAtMut g f x tt after y × (e ≡ Apply y)
  IsChanged f (Delete x) e after = (y : T) × CalledAtMut g f x tt after y × (e ≡ Delete y)
  IsChanged f Init e after = (e ≡ Init) × (after ≡ f)
  IsChanged f (InitApply x) e after = (y : T) × CalledAtMut g f x tt after y × (e ≡ InitApply y)
  IsChanged f InitDone e after = (e ≡ InitDone) × (after ≡ f)

  -- all but events is given as it is
  abbrev pub AnswerChanged : F → Answer (Event T) → Answer (Event T) → F → Type 0
  AnswerChanged f (Ok (Item (Ok event))) answer after = (e : Event T) × IsChanged f event e after × (answer ≡ Ok (Item (Ok e)))
  AnswerChanged f (Ok (Item (Err error))) answer after = (answer ≡ Ok (Item (Err error))) × (after ≡ f)
  AnswerChanged f (Ok NotReady) answer after = (answer ≡ Ok NotReady) × (after ≡ f)
  AnswerChanged f (Ok Spent) answer after = (answer ≡ Ok Spent) × (after ≡ f)
  AnswerChanged f (Ok End) answer after = (answer ≡ Ok End) × (after ≡ f)
  AnswerChanged f (Err fault) answer after = (answer ≡ Err fault) × (after ≡ f)

  module _ {S : Type 0} (polls : S → ℕ → ℕ → Answer (Event T) → S → Type 0) where
    -- the stream is asked, and its answer is given with the object changed
    pub record Passed (now fuel : ℕ) (m : Modifying S F) (answer : Answer (Event T)) (n : Modifying S F) : Type 0 where
      pub last : Answer (Event T)
      pub asked : Asked polls now fuel m.stream last n.stream
      pub changed : AnswerChanged m.f last answer n.f
      pub fault : n.fault ≡ fault_in answer

    -- a poll: after a fault it answers only that
    abbrev pub Modified : Option StreamFault → ℕ → ℕ → Modifying S F → Answer (Event T) → Modifying S F → Type 0
    Modified (Some fault) now fuel m answer n = (answer ≡ Err fault) × (n ≡ m)
    Modified None now fuel m answer n = Passed now fuel m answer n

  -- ---- over many polls

  -- a call of f changed the object of what was told, and left f so; an error is as before
  abbrev pub ToldChanged : F → Told (Event T) → Told (Event T) → F → Type 0
  ToldChanged f (Ok event) told after = (e : Event T) × IsChanged f event e after × (told ≡ Ok e)
  ToldChanged f (Err error) told after = (told ≡ Err error) × (after ≡ f)

  -- so each of these in order, by calls that follow one another
  abbrev pub AllChanged : F → List (Told (Event T)) → List (Told (Event T)) → F → Type 0
  AllChanged f [] [] after = after ≡ f
  AllChanged f [] (y ∷ ys) after = ⊥
  AllChanged f (x ∷ xs) [] after = ⊥
  AllChanged f (x ∷ xs) (y ∷ ys) after = (m : F) × ToldChanged f x y m × AllChanged m xs ys after

  module _ {S : Type 0} (polls : S → ℕ → ℕ → Answer (Event T) → S → Type 0) where
    -- what was told is all that the stream's answers tell, in order, each changed
    pub record ModifiedSoFar (m : Modifying S F) (ps : List (ℕ × ℕ × Answer (Event T))) (n : Modifying S F) : Type 0 where
      pub answers : List (ℕ × Answer (Event T))
      pub answered : Answered polls m.stream answers n.stream
      pub changed : AllChanged m.f (answers_told answers) (all_told ps) n.f
