-- Objects that pass where a property of theirs changed. (Crate: `utils::PredicateFilter`.)
use Rattle.std.specs.Prelude.{◌≡◌, ◌⊎◌, ℕ, ◌-◌, ⊤, Bool, true, false, not, ◌&&◌, cond, nat_lt, nat_eq, bytes_eq, List, [], ◌∷◌, ◌++◌, map, Option, Some, None, Ok, Err, unwrap_or, if◌then◌else◌}
use Rattle.std.specs.Option.{option_eq}
use Rattle.std.specs.Map.{lookup}
use Rattle.std.specs.List.{filter}
use Rattle.kube_meta.specs.declared.metadata.ObjectMeta.{ObjectMeta}
use Rattle.kube_meta.specs.declared.poll.Next.TheVariants.{Item, NotReady, Spent, End}
use Rattle.kube_watch.specs.Streams.{Answer}
use Rattle.kube_streams.specs.Adapts.{Told, Adapting, all_told}
use Rattle.kube_streams.specs.InOrder.{Answered}

-- what says which object it is: its name, empty where it has none, its namespace and its uid
pub record Key : Type 0 where
  pub name : List ℕ
  pub namespace : Option (List ℕ)
  pub uid : Option (List ℕ)

abbrev pub same_key : Key → Key → Bool
same_key a b = bytes_eq a.name b.name && option_eq bytes_eq a.namespace b.namespace && option_eq bytes_eq a.uid b.uid

abbrev pub filter_key : ObjectMeta → Key
filter_key meta = record { name = unwrap_or meta.name []; namespace = meta.namespace; uid = meta.uid }

-- the value that an object had when it was seen last, and when that was
pub record Sight : Type 0 where
  pub value : ℕ
  pub seen : ℕ

-- the last sight of each object
abbrev pub Sights : Type 0
Sights = Key → Option Sight

abbrev pub no_sights : Sights
no_sights key = None

-- with one more
abbrev pub with_sight : Sights → Key → Sight → Sights
with_sight sights key sight = λ k. cond (same_key key k) (Some sight) (sights k)

-- whether a sight counts: less than the ttl has passed since
abbrev pub is_fresh : ℕ → ℕ → Sight → Bool
is_fresh ttl now sight = nat_lt (now - sight.seen) ttl

-- whether an object with this value passes: unless it had the same value at a sight that counts
abbrev pub passes : ℕ → ℕ → Option Sight → ℕ → Bool
passes ttl now None value = true
passes ttl now (Some sight) value = not (is_fresh ttl now sight && nat_eq sight.value value)

-- no sight, or one that doesn't count
abbrev pub DoesNotCount : ℕ → ℕ → Option Sight → Type 0
DoesNotCount ttl now None = ⊤
DoesNotCount ttl now (Some sight) = is_fresh ttl now sight ≡ false

-- sights that don't count may be forgotten, and no others
abbrev pub IsForgotten : ℕ → ℕ → Sights → Sights → Type 0
IsForgotten ttl now old new =
    (key : Key) → (new key ≡ old key) ⊎ ((new key ≡ None) × DoesNotCount ttl now (old key))

-- the same sights
abbrev pub SameSights : Sights → Sights → Type 0
SameSights a b = (key : Key) → a key ≡ b key

-- a predicate, the sights as they are kept, the ttl in nanoseconds, and when the sights that don't count were forgotten last
pub record Filtering (P : Type 0) : Type 0 where
  pub predicate : P
  pub kept : List (Key × Sight)
  pub ttl : ℕ
  pub evicted : ℕ

abbrev pub sights_of : List (Key × Sight) → Sights
sights_of kept = λ key. lookup (same_key key) kept

abbrev pub sights_in : {P : Type 0} → Filtering P → Sights
sights_in f = sights_of f.kept

-- as it is before it judges an object: where the ttl has passed since it forgot last, only the sights that count are kept
abbrev pub swept : {P : Type 0} → ℕ → Filtering P → Filtering P
swept now f =
    if nat_lt (now - f.evicted) f.ttl then f
    else record f { kept = filter (λ e. is_fresh f.ttl now e.1) f.kept; evicted = now }

-- only sights changed
abbrev pub KeepsSettings : {P : Type 0} → Filtering P → Filtering P → Type 0
KeepsSettings f g = (g.predicate ≡ f.predicate) × (g.ttl ≡ f.ttl)

-- ---- one object, by the value of its property; none where it hasn't the property

-- whether it passes: without the property always, else where it changed
abbrev pub lets_pass : ℕ → ℕ → Sights → Key → Option ℕ → Bool
lets_pass ttl now sights key None = true
lets_pass ttl now sights key (Some value) = passes ttl now (sights key) value

-- the sights after it: without the property it is not seen
abbrev pub sights_after : ℕ → Sights → Key → Option ℕ → Sights
sights_after now sights key None = sights
sights_after now sights key (Some value) = with_sight sights key (record { value = value; seen = now })

-- it is judged: whether it passes, and the sights after it
abbrev pub Judged : ℕ → ℕ → Sights → Key → Option ℕ → Bool → Sights → Type 0
Judged ttl now sights key property passed after = (passed ≡ lets_pass ttl now sights key property) × SameSights after (sights_after now sights key property)

module _ {P O : Type 0} (gives : P → O → Option ℕ → Type 0) (meta : O → ObjectMeta) where
  -- an object is judged after the sights that don't count are forgotten, where that is due
  pub record JudgedAt (now : ℕ) (f : Filtering P) (object : O) (passed : Bool) (g : Filtering P) : Type 0 where
    pub property : Option ℕ
    pub forgotten : IsForgotten f.ttl now (sights_in f) (sights_in (swept now f))
    pub given_by : gives f.predicate object property
    pub judged : Judged f.ttl now (sights_in (swept now f)) (filter_key (meta object)) property passed (sights_in g)
    pub settings : KeepsSettings f g
    pub evicted : g.evicted ≡ (swept now f).evicted

  -- an object is given where it passes, and so is each error
  abbrev pub Filtered : {A : Type 0} → (A → O) → ℕ → Filtering P → Told A → List (Told A) → Filtering P → Type 0
  Filtered value now f (Ok object) given g = (passed : Bool) × JudgedAt now f (value object) passed g × (given ≡ cond passed (Ok object ∷ []) [])
  Filtered value now f (Err e) given g = (given ≡ Err e ∷ []) × (g ≡ f)

-- ---- many objects, one after another

-- an object that came at a moment, with the value of its property; none where it hasn't the property
pub record Showing : Type 0 where
  pub at : ℕ
  pub key : Key
  pub value : Option ℕ

-- which of these pass where no sight is forgotten
abbrev pub passing : ℕ → Sights → List Showing → List Bool
passing ttl sights [] = []
passing ttl sights (s ∷ ss) = lets_pass ttl s.at sights s.key s.value ∷ passing ttl (sights_after s.at sights s.key s.value) ss

-- these pass where each is judged after some sights may be forgotten
abbrev pub Passing : ℕ → Sights → List Showing → List Bool → Type 0
Passing ttl sights [] bs = bs ≡ []
Passing ttl sights (s ∷ ss) bs =
    (left : Sights) × (passed : Bool) × (after : Sights) × (rest : List Bool)
    × IsForgotten ttl s.at sights left × Judged ttl s.at left s.key s.value passed after × Passing ttl after ss rest × (bs ≡ passed ∷ rest)

-- an object that a filter judged at a moment, and whether it passed
pub record Judgement (O : Type 0) : Type 0 where
  pub at : ℕ
  pub object : O
  pub passed : Bool

module _ {P O : Type 0} (gives : P → O → Option ℕ → Type 0) (meta : O → ObjectMeta) where
  -- objects were judged, one after another
  abbrev pub JudgedInTurn : Filtering P → List (Judgement O) → Filtering P → Type 0
  JudgedInTurn f [] g = g ≡ f
  JudgedInTurn f (j ∷ js) g = (h : Filtering P) × JudgedAt gives meta j.at f j.object j.passed h × JudgedInTurn h js g

  -- an object came so: at its moment, with its key and a value that the predicate gives
  abbrev pub IsShown : P → Judgement O → Showing → Type 0
  IsShown p j s = (s.at ≡ j.at) × (s.key ≡ filter_key (meta j.object)) × gives p j.object s.value

  -- and so did each of them
  abbrev pub AreShown : P → List (Judgement O) → List Showing → Type 0
  AreShown p [] [] = ⊤
  AreShown p [] (s ∷ ss) = ⊥
  AreShown p (j ∷ js) [] = ⊥
  AreShown p (j ∷ js) (s ∷ ss) = IsShown p j s × AreShown p js ss

  -- those passed that pass where no sight is forgotten
  pub record PassedWithoutForgetting (f : Filtering P) (js : List (Judgement O)) : Type 0 where
    pub showings : List Showing
    pub shown : AreShown f.predicate js showings
    pub passed : map (λ j. j.passed) js ≡ passing f.ttl (sights_in f) showings

-- ---- the stream of a filter

-- the objects that an answer gives, with its moment
abbrev pub objects_in : {A O : Type 0} → (A → O) → ℕ → Answer A → List (ℕ × O)
objects_in value now (Ok (Item (Ok object))) = (now, value object) ∷ []
objects_in value now (Ok (Item (Err e))) = []
objects_in value now (Ok NotReady) = []
objects_in value now (Ok Spent) = []
objects_in value now (Ok End) = []
objects_in value now (Err fault) = []

abbrev pub objects_of_all : {A O : Type 0} → (A → O) → List (ℕ × Answer A) → List (ℕ × O)
objects_of_all value [] = []
objects_of_all value (x ∷ xs) = objects_in value x.0 x.1 ++ objects_of_all value xs

-- what is given of an answer, where this says of each object that is to come whether it passes, and what it says of those after
abbrev pub through : {A : Type 0} → Answer A → List Bool → List (Told A) × List Bool
through (Ok (Item (Ok object))) [] = ([], [])
through (Ok (Item (Ok object))) (b ∷ bs) = (cond b (Ok object ∷ []) [], bs)
through (Ok (Item (Err e))) bs = (Err e ∷ [], bs)
through (Ok NotReady) bs = ([], bs)
through (Ok Spent) bs = ([], bs)
through (Ok End) bs = ([], bs)
through (Err fault) bs = ([], bs)

abbrev pub let_through : {A : Type 0} → List (ℕ × Answer A) → List Bool → List (Told A)
let_through [] bs = []
let_through (x ∷ xs) bs = (through x.1 bs).0 ++ let_through xs (through x.1 bs).1

module _ {P O A S : Type 0} (gives : P → O → Option ℕ → Type 0) (meta : O → ObjectMeta) (value : A → O) (polls : S → ℕ → ℕ → Answer A → S → Type 0) where
  -- what was given is what its stream gave without the objects that don't pass, and those pass that would if no sight were forgotten
  pub record FilteredSoFar (a : Adapting S (Filtering P) A) (ps : List (ℕ × ℕ × Answer A)) (b : Adapting S (Filtering P) A) : Type 0 where
    pub answers : List (ℕ × Answer A)
    pub answered : Answered polls a.stream answers b.stream
    pub judgements : List (Judgement O)
    pub judged : map (λ j. (j.at, j.object)) judgements ≡ objects_of_all value answers
    pub passed : PassedWithoutForgetting gives meta a.adapt judgements
    pub told : all_told ps ++ b.waiting ≡ a.waiting ++ let_through answers (map (λ j. j.passed) judgements)
