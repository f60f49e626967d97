-- Second forms of definitions, as a program keeps them: laws say that they are the same.
use Rattle.std.specs.Prelude.{Bool, not, ◌&&◌, List, ◌++◌}
use Rattle.std.specs.List.{filter_map}
use Rattle.kube_model.specs.declared.call.Answer.TheVariants.{Opened, Bookmark}
use Rattle.kube_model.specs.History.{Exchange, Step}
use Rattle.kube_model.specs.Owed.{is_initial_call}
use Rattle.kube_model.specs.Takes.{Running, unfinished, started}

-- one bit of a watcher: whether a `Next` belongs to an initial watch, after one more exchange
abbrev pub initial_after : {O : Type 0} → Bool → Exchange O → Bool
initial_after initial x =
    elim (x.answer) [ Opened ↦ is_initial_call x.call | Bookmark version ending ↦ initial && not ending | _ ↦ initial ]

-- a table of what runs, after one more turn
abbrev pub running_after : {O : Type 0} → List (Running O) → Step O → List (Running O)
running_after running s = unfinished running s.turn.finishes ++ filter_map started s.made.taken
