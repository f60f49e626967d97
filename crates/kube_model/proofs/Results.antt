-- What is said of an answer that refuses.
use Rattle.std.specs.Prelude.{Result, Ok, Err, OnErr}

-- what holds, holds where there is an error
pub on_err : {T E : Type 0} (r : Result T E) (P : Type 0) → P → OnErr r P
on_err (Ok value) P p = tt
on_err (Err error) P p = p
