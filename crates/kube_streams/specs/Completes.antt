-- A stream at whose end a closure is called once. (Crate: `utils`.)
use Rattle.std.specs.Prelude.{◌≡◌, ℕ, ⊤, Bool, true, false, cond, List, [], ◌∷◌, Option, Some, None, Ok, Err}
use Rattle.std.specs.Fn.{Once, FnOnceReturns}
use Rattle.std.specs.List.{list_any}
use Rattle.kube_meta.specs.declared.poll.Next.TheVariants.{Item, NotReady, Spent, End}
use Rattle.kube_watch.specs.Streams.{Answer}
use Rattle.kube_watch.specs.declared.stream.StreamFault.{StreamFault}
use Rattle.kube_watch.specs.Asking.{Asked, fault_in}
use Rattle.kube_streams.specs.InOrder.{PassedOn}

-- a stream S, the closure F until it is called at the end, and the fault that is answered from then on
pub record Completing (S F : Type 0) : Type 0 where
  pub stream : S
  pub f : Option F
  pub fault : Option StreamFault

-- a closure that is there can be called
abbrev pub CanCall : {F : Type 0} → (F → Type 0) → Option F → Type 0
CanCall callable None = ⊤
CanCall callable (Some f) = callable f

-- it was called, where it was there
abbrev pub WasCalled : {F : Type 0} → Once F (Unit {0}) (Unit {0}) → Option F → Type 0
WasCalled g None = ⊤
WasCalled g (Some f) = FnOnceReturns g f tt tt

-- at the end it was called
abbrev pub IsCalledAt : {F I : Type 0} → Once F (Unit {0}) (Unit {0}) → Option F → Answer I → Type 0
IsCalledAt g f (Ok (Item told)) = ⊤
IsCalledAt g f (Ok NotReady) = ⊤
IsCalledAt g f (Ok Spent) = ⊤
IsCalledAt g f (Ok End) = WasCalled g f
IsCalledAt g f (Err fault) = ⊤

-- the closure after an answer: the end calls it
abbrev pub left_after : {F I : Type 0} → Option F → Answer I → Option F
left_after f (Ok (Item told)) = f
left_after f (Ok NotReady) = f
left_after f (Ok Spent) = f
left_after f (Ok End) = None
left_after f (Err fault) = f

-- whether one of these answers is the end
abbrev pub is_end : {I : Type 0} → Answer I → Bool
is_end (Ok (Item told)) = false
is_end (Ok NotReady) = false
is_end (Ok Spent) = false
is_end (Ok End) = true
is_end (Err fault) = false

abbrev pub has_ended : {I : Type 0} → List (ℕ × ℕ × Answer I) → Bool
has_ended ps = list_any (λ p. is_end p.2) ps

-- every answer is the end, and nothing changed
abbrev pub OnlyEnds : {S F I : Type 0} → Completing S F → List (ℕ × ℕ × Answer I) → Completing S F → Type 0
OnlyEnds c [] d = d ≡ c
OnlyEnds c (p ∷ ps) d = (p.2 ≡ Ok End) × OnlyEnds c ps d

module _ {S F I : Type 0} (g : Once F (Unit {0}) (Unit {0})) (polls : S → ℕ → ℕ → Answer I → S → Type 0) where
  -- the stream is asked, and its answer is given
  pub record Passed (now fuel : ℕ) (c : Completing S F) (answer : Answer I) (d : Completing S F) : Type 0 where
    pub asked : Asked polls now fuel c.stream answer d.stream
    pub called : IsCalledAt g c.f answer
    pub f : d.f ≡ left_after c.f answer
    pub fault : d.fault ≡ fault_in answer

  -- a poll: after a fault it answers only that, and after the end only the end
  abbrev pub Completed : Option StreamFault → Option F → ℕ → ℕ → Completing S F → Answer I → Completing S F → Type 0
  Completed (Some fault) f now fuel c answer d = (answer ≡ Err fault) × (d ≡ c)
  Completed None None now fuel c answer d = (answer ≡ Ok End) × (d ≡ c)
  Completed None (Some f) now fuel c answer d = Passed now fuel c answer d

  -- ---- over many polls

  -- all that the stream's answers tell was told, in order; and the closure is called and gone where the end was answered, and else there still
  pub record CompletedSoFar (c : Completing S F) (ps : List (ℕ × ℕ × Answer I)) (d : Completing S F) : Type 0 where
    pub passed_on : PassedOn polls c.stream ps d.stream
    pub called : has_ended ps ≡ true → WasCalled g c.f
    pub left : d.f ≡ cond (has_ended ps) None c.f
