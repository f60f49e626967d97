-- The lines that tell of a refusal: each is an object in the compact text, with its members by the bytes of their names, and a line feed.
use Rattle.std.specs.Prelude.{ℕ, List, [], ◌∷◌, ◌++◌, codes}
use Rattle.serde_json.specs.Data.{Data, number, unsigned, string, object, Members, no_members, member}
use Rattle.serde_json.specs.Written.{compact_text}
use Rattle.kube_text.specs.declared.refusal.Refusal.{Refusal}
use Rattle.kube_text.specs.declared.refusal.Refusal.TheVariants as refusals

-- a fault of the script
abbrev pub script_members : List ℕ → Members → Members
script_members fault rest = member (codes "error") (string (codes "script")) (member (codes "fault") (string fault) rest)

-- and where it stands
abbrev pub placed_members : List ℕ → List ℕ → Members → Members
placed_members fault place rest = script_members fault (member (codes "place") (string place) rest)

-- a turn that may not be
abbrev pub turn_members : ℕ → List ℕ → Members → Members
turn_members turn why rest =
    member (codes "error") (string (codes "turn")) (member (codes "turn") (number (unsigned turn)) (member (codes "why") (string why) rest))

-- a finish of it that may not be
abbrev pub finish_members : ℕ → ℕ → List ℕ → Members → Members
finish_members finish turn why rest =
    member (codes "error") (string (codes "turn")) (member (codes "finish") (number (unsigned finish))
    (member (codes "turn") (number (unsigned turn)) (member (codes "why") (string why) rest)))

-- an object without a name that a source gave
abbrev pub unnamed_members : ℕ → ℕ → Members → Members
unnamed_members source turn rest =
    member (codes "error") (string (codes "unnamed")) (member (codes "source") (number (unsigned source)) (member (codes "turn") (number (unsigned turn)) rest))

abbrev pub refusal_members : Refusal → Members → Members
refusal_members refusals.Usage rest = member (codes "error") (string (codes "usage")) rest
refusal_members refusals.TooLong rest = script_members (codes "too long") rest
refusal_members refusals.Syntax rest = script_members (codes "syntax") rest
refusal_members (refusals.Shape place) rest = placed_members (codes "shape") place rest
refusal_members (refusals.Fraction place) rest = placed_members (codes "fraction") place rest
refusal_members (refusals.Moment turn) rest = turn_members turn (codes "moment") rest
refusal_members (refusals.NotRunning turn finish) rest = finish_members finish turn (codes "not running") rest
refusal_members (refusals.Twice turn finish) rest = finish_members finish turn (codes "twice") rest
refusal_members (refusals.Unnamed source turn) rest = unnamed_members source turn rest

unfoldable pub refusal_data : Refusal → Data
refusal_data r = object (refusal_members r no_members)

-- its text, and a line feed
abbrev pub refusal_text : Refusal → List ℕ
refusal_text r = compact_text (refusal_data r) ++ 10 ∷ []
