-- A value that is set once and seen later, as plain data. T is the type of the value. (kube-runtime's `utils::delayed_init`.)
use Rattle.std.specs.Prelude.{Option, Some, None, Result, Err}
use Rattle.logbook.specs.Pages.{Book}
use Rattle.kube_meta.specs.declared.poll.Polled.{Polled}
use Rattle.kube_meta.specs.declared.poll.Polled.TheVariants.{Ready, NotReady}
use Rattle.kube_reflect.specs.declared.delayed_init.InitDropped.{InitDropped}

-- the side that sets: the book of its value
pub record Setter : Type 0 where
  pub book : Book

-- the outcome that was set
pub record Noted (T : Type 0) : Type 0 where
  pub book : Book
  pub outcome : Result T InitDropped

-- the side that sees: the outcome that it knows
pub record Delayed (T : Type 0) : Type 0 where
  pub book : Book
  pub outcome : Option (Result T InitDropped)

-- the outcome where no value follows
abbrev pub abandoned : {T : Type 0} → Result T InitDropped
abandoned = Err (record {})

-- a poll answers with the outcome that is known
abbrev pub answer_of : {A : Type 0} → Option A → Polled A
answer_of None = NotReady
answer_of (Some o) = Ready o
