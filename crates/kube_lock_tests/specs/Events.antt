-- The entry that an event is.
use Rattle.std.specs.Prelude.{ℕ}
use Rattle.kube_lock_tests.specs.declared.entry.What.{What}
use Rattle.kube_lock_tests.specs.declared.entry.What.TheVariants.{Took as TookIt, Marked as LeftMark}
use Rattle.kube_lock_tests.specs.Stocks.{Entry, Took, Marked}

abbrev pub entry_of : {K : Type 0} → ℕ → What K → Entry K
entry_of pass (TookIt thing) = Took pass thing
entry_of pass LeftMark = Marked pass
