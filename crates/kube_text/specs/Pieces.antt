-- A text that is written in pieces.
use Rattle.std.specs.Prelude.{◌≡◌, ℕ, Bool, true, List, ◌++◌, Option, Result, IfOk, OnErr}
use Rattle.std.specs.Io.KnownBytes.{Appends}
use Rattle.std.specs.declared.vec.Vec.{Vec}
use Rattle.std.specs.declared.alloc.Global.{Global}
use Rattle.serde_json.specs.Data.{Members}
use Rattle.serde_json.specs.Written.{members_text}
use Rattle.kube_text.specs.Part.{AppendsPart}

-- the first of the text's bytes went to a sink, those that are held come next, and then those that are left
pub record Holds (start now : Option (List ℕ)) (held left whole : List ℕ) : Type 0 where
  pub gone : List ℕ
  pub went : Appends start now gone
  pub split : whole ≡ gone ++ (held ++ left)

-- a step from what is due of the text to what is left of it
abbrev pub Steps : {E : Type 0} → Result (Vec ℕ Global) E → Option (List ℕ) → Option (List ℕ) → List ℕ → List ℕ → List ℕ → Type 0
Steps result old new held due left =
    (start : Option (List ℕ)) (whole : List ℕ) → Holds start old held due whole → IfOk result (λ line. Holds start new line.items left whole)

-- a step that failed: the first of the text's bytes were written, or none
abbrev pub Stops : {T E : Type 0} → Result T E → Option (List ℕ) → Option (List ℕ) → List ℕ → List ℕ → Type 0
Stops result old new held due = (start : Option (List ℕ)) (whole : List ℕ) → Holds start old held due whole → OnErr result (AppendsPart start new whole)

-- the same of bytes, whatever comes behind them
abbrev pub Adds : {E : Type 0} → Result (Vec ℕ Global) E → Option (List ℕ) → Option (List ℕ) → List ℕ → (List ℕ → List ℕ) → Type 0
Adds result old new held text = (left : List ℕ) → Steps result old new held (text left) left

abbrev pub BreaksOff : {T E : Type 0} → Result T E → Option (List ℕ) → Option (List ℕ) → List ℕ → (List ℕ → List ℕ) → Type 0
BreaksOff result old new held text = (left : List ℕ) → Stops result old new held (text left)

-- and of an object's members, where others stand before them, or none
abbrev pub AddsMembers : {E : Type 0} → Result (Vec ℕ Global) E → Option (List ℕ) → Option (List ℕ) → List ℕ → Bool → (Members → Members) → Type 0
AddsMembers result old new held later members =
    (rest : Members) (end : List ℕ) → Steps result old new held (members_text later (members rest) ++ end) (members_text true rest ++ end)

abbrev pub BreaksOffMembers : {T E : Type 0} → Result T E → Option (List ℕ) → Option (List ℕ) → List ℕ → Bool → (Members → Members) → Type 0
BreaksOffMembers result old new held later members =
    (rest : Members) (end : List ℕ) → Stops result old new held (members_text later (members rest) ++ end)
