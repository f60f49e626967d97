-- Streams made of other ones: what they give, by what the other one answers. (Crate: the streams of `WatchStreamExt`.)
use Rattle.std.specs.Prelude.{◌≡◌, ◌⊎◌, ℕ, zero, suc, ◌<◌, ◌≤◌, ⊤, List, [], ◌∷◌, ◌++◌, map, Option, Some, None, Result, Ok, Err}
use Rattle.kube_meta.specs.declared.poll.Next.TheVariants.{Item, NotReady, Spent, End}
use Rattle.kube_model.specs.declared.error.Error.{Error}
use Rattle.kube_watch.specs.declared.stream.StreamFault.{StreamFault}
use Rattle.kube_watch.specs.declared.stream.StreamFault.TheVariants.{NoMemory, Unnamed}
use Rattle.kube_watch.specs.Streams.{Answer}
use Rattle.kube_watch.specs.Asking.{fault_in}

-- what a stream gives: an item, or an error
abbrev pub Told : Type 0 → Type 0
Told I = Result I Error

-- what was made of one thing; or it has no name; or memory can't be had
abbrev pub IsTaken : Type 0 → Type 0 → Result (Unit {0}) StreamFault → Type 0
IsTaken taken unnamed (Ok _) = taken
IsTaken taken unnamed (Err NoMemory) = ⊤
IsTaken taken unnamed (Err Unnamed) = unnamed

-- what an answer gives, and what many give
abbrev pub told_in : {J : Type 0} → Answer J → List (Told J)
told_in (Ok (Item told)) = told ∷ []
told_in (Ok NotReady) = []
told_in (Ok Spent) = []
told_in (Ok End) = []
told_in (Err fault) = []

abbrev pub all_told : {J : Type 0} → List (ℕ × ℕ × Answer J) → List (Told J)
all_told [] = []
all_told (p ∷ ps) = told_in p.2 ++ all_told ps

-- moments that never fall, from one on
abbrev pub NeverFall : ℕ → List ℕ → Type 0
NeverFall from [] = ⊤
NeverFall from (moment ∷ more) = (from ≤ moment) × NeverFall moment more

-- a stream S, the state T of what is made of what it gives, what waits, and the fault that is answered from then on
pub record Adapting (S T J : Type 0) : Type 0 where
  pub stream : S
  pub adapt : T
  pub waiting : List (Told J)
  pub fault : Option StreamFault

-- what is made of one thing at a moment: by the state before it, what is given, in order, and the state after it; and whether it has no name
module _ {S T I J : Type 0} (polls : S → ℕ → ℕ → Answer I → S → Type 0) (takes : ℕ → T → Told I → List (Told J) → T → Type 0) (unnamed : T → Told I → Type 0) where
  -- an answer gives nothing: one of which nothing is made, and one that says that the work of one call was done
  abbrev pub IsQuiet : ℕ → T → Answer I → T → Type 0
  IsQuiet now t (Ok (Item told)) u = takes now t told [] u
  IsQuiet now t (Ok Spent) u = u ≡ t
  IsQuiet now t (Ok NotReady) u = ⊥
  IsQuiet now t (Ok End) u = ⊥
  IsQuiet now t (Err fault) u = ⊥

  -- so many polls of the stream, each with fuel 1, gave nothing
  abbrev pub AreQuiet : ℕ → ℕ → S → T → S → T → Type 0
  AreQuiet zero now s t r u = (r ≡ s) × (u ≡ t)
  AreQuiet (suc n) now s t r u = (answer : Answer I) × (q : S) × (v : T) × polls s now 1 answer q × IsQuiet now t answer v × AreQuiet n now q v r u

  -- what an answer comes to: the first that is given, and the rest waits; where it is a fault, all is as before; not ready, the end and faults are passed on
  abbrev pub ComesTo : ℕ → T → Answer I → Answer J → List (Told J) → T → Type 0
  ComesTo now t (Ok (Item told)) (Ok (Item first)) rest u = takes now t told (first ∷ rest) u
  ComesTo now t (Ok (Item told)) (Ok NotReady) rest u = ⊥
  ComesTo now t (Ok (Item told)) (Ok Spent) rest u = ⊥
  ComesTo now t (Ok (Item told)) (Ok End) rest u = ⊥
  ComesTo now t (Ok (Item told)) (Err NoMemory) rest u = (rest ≡ []) × (u ≡ t)
  ComesTo now t (Ok (Item told)) (Err Unnamed) rest u = unnamed t told × (rest ≡ []) × (u ≡ t)
  ComesTo now t (Ok NotReady) answer rest u = (answer ≡ Ok NotReady) × (rest ≡ []) × (u ≡ t)
  ComesTo now t (Ok Spent) answer rest u = ⊥
  ComesTo now t (Ok End) answer rest u = (answer ≡ Ok End) × (rest ≡ []) × (u ≡ t)
  ComesTo now t (Err fault) answer rest u = (answer ≡ Err fault) × (rest ≡ []) × (u ≡ t)

  -- an answer gives nothing, or comes to this one
  abbrev pub Comes : ℕ → T → Answer I → Option (Answer J) → List (Told J) → T → Type 0
  Comes now t last None rest u = IsQuiet now t last u × (rest ≡ [])
  Comes now t last (Some answer) rest u = ComesTo now t last answer rest u

  -- after some that gave nothing, one came to this answer
  pub record Gave (now fuel : ℕ) (s : S) (t : T) (answer : Answer J) (rest : List (Told J)) (r : S) (u : T) : Type 0 where
    pub idle : ℕ
    pub few : idle < fuel
    pub stream : S
    pub adapt : T
    pub quiet : AreQuiet idle now s t stream adapt
    pub last : Answer I
    pub polled : polls stream now 1 last r
    pub comes : ComesTo now adapt last answer rest u

  -- the stream is asked until something comes of it, or exactly `fuel` times
  abbrev pub Asked : ℕ → ℕ → S → T → Answer J → List (Told J) → S → T → Type 0
  Asked now fuel s t answer rest r u =
      Gave now fuel s t answer rest r u
      ⊎ ((answer ≡ Ok Spent) × (rest ≡ []) × AreQuiet fuel now s t r u)

  -- what waits comes first, else the stream is asked
  abbrev pub Advanced : List (Told J) → Adapting S T J → ℕ → ℕ → Answer J → Adapting S T J → Type 0
  Advanced (first ∷ rest) a now fuel answer b = (answer ≡ Ok (Item first)) × (b ≡ record a { waiting = rest })
  Advanced [] a now fuel answer b = Asked now fuel a.stream a.adapt answer b.waiting b.stream b.adapt × (b.fault ≡ fault_in answer)

  -- a poll: after a fault it answers only that
  abbrev pub Adapted : Option StreamFault → Adapting S T J → ℕ → ℕ → Answer J → Adapting S T J → Type 0
  Adapted (Some fault) a now fuel answer b = (answer ≡ Err fault) × (b ≡ a)
  Adapted None a now fuel answer b = Advanced a.waiting a now fuel answer b

  -- ---- over many polls

  -- what an answer of the stream gives, in order, and the state after it
  abbrev pub Gives : ℕ → T → Answer I → List (Told J) → T → Type 0
  Gives now t (Ok (Item told)) given u = takes now t told given u
  Gives now t (Ok NotReady) given u = (given ≡ []) × (u ≡ t)
  Gives now t (Ok Spent) given u = (given ≡ []) × (u ≡ t)
  Gives now t (Ok End) given u = (given ≡ []) × (u ≡ t)
  Gives now t (Err fault) given u = ⊥

  -- answers of the stream, each with its moment, and all that they give, in order
  abbrev pub Came : S → T → List (ℕ × Answer I) → List (Told J) → S → T → Type 0
  Came s t [] given r u = (given ≡ []) × (r ≡ s) × (u ≡ t)
  Came s t (a ∷ more) given r u =
      (q : S) × (v : T) × (first : List (Told J)) × (rest : List (Told J))
      × polls s a.0 1 a.1 q × Gives a.0 t a.1 first v × Came q v more rest r u × (given ≡ first ++ rest)

  -- polls, one after another, each with its moment, its fuel and its answer
  abbrev pub Polled : Adapting S T J → List (ℕ × ℕ × Answer J) → Adapting S T J → Type 0
  Polled a [] b = b ≡ a
  Polled a (p ∷ more) b = (m : Adapting S T J) × Adapted a.fault a p.0 p.1 p.2 m × Polled m more b

  -- what was given so far, and what waits, is what waited at first and all that the answers of the stream gave since, in order
  pub record GivenSoFar (a : Adapting S T J) (ps : List (ℕ × ℕ × Answer J)) (b : Adapting S T J) : Type 0 where
    pub answers : List (ℕ × Answer I)
    pub given : List (Told J)
    pub came : Came a.stream a.adapt answers given b.stream b.adapt
    pub told : all_told ps ++ b.waiting ≡ a.waiting ++ given
    pub moments : (from : ℕ) → NeverFall from (map (λ p. p.0) ps) → NeverFall from (map (λ x. x.0) answers)
