-- Worked turns of two controllers that are alike: one lists and watches, the other is fed what came there by a stream, and reads a store.
use Rattle.std.specs.Prelude.{ℕ, false, true, List, [], ◌∷◌, map, Option, Some, None, codes}
use Rattle.kube_model.specs.declared.call.Answer.TheVariants.{Modified, NotReady}
use Rattle.kube_model.specs.World.{World, Streamed}
use Rattle.kube_model.specs.Reads.{IsReady, nothing_read}
use Rattle.kube_model.specs.History.{Step, Turn}
use Rattle.kube_model.specs.Traces.{Made, steps}
use Rattle.kube_model.specs.Plays.{Play, Thing, came, played, thing, turn_at, watched, world_with}
use Rattle.kube_model.specs.Rows.{a, ending, item, limited, opened, page, silent}

abbrev pub b : List ℕ
b = codes "b"

abbrev pub a_first : Thing
a_first = thing a (codes "1")

abbrev pub a_changed : Thing
a_changed = thing a (codes "2")

abbrev pub b_first : Thing
b_first = thing b (codes "1")

-- one reference may run at a time
abbrev pub watching : World Thing (List (Option ℕ))
watching = limited 1

abbrev pub fed : World Thing (List (Option ℕ))
fed = world_with (Streamed ∷ []) 1 0

-- a and b are listed, a changes while it runs, all are asked for again as a ends, and b ends
abbrev pub watching_turns : List Play
watching_turns =
    map watched
    ((turn_at 0 (3 ∷ []), page (codes "1") (a_first ∷ b_first ∷ []) ∷ opened ∷ silent ∷ [])
    ∷ (turn_at 1 (1 ∷ []), came (Modified (Some (codes "2"))) (a_changed ∷ []) ∷ [])
    ∷ (record (ending 2 (1 ∷ []) ((a, None) ∷ [])) { reload = true }, silent ∷ [])
    ∷ (ending 3 [] ((b, None) ∷ []), []) ∷ [])

-- the stream gives a and b, then a as it changed; what is looked up and read again is what is stored
abbrev pub fed_turns : List Play
fed_turns =
    record {
      turn = record (turn_at 0 (4 ∷ [])) { show = false };
      came = item a_first ∷ item b_first ∷ came NotReady [] ∷ [];
      reads = record nothing_read { readiness = Some IsReady; looked_up = Some a_first ∷ [] };
    }
    ∷ record { turn = record (turn_at 1 (2 ∷ [])) { show = false }; came = item a_changed ∷ came NotReady [] ∷ []; reads = nothing_read }
    ∷ record {
      turn = record (ending 2 [] ((a, None) ∷ [])) { reload = true; show = false };
      came = [];
      reads = record nothing_read { reloaded = Some (a_changed ∷ b_first ∷ []); looked_up = Some b_first ∷ [] };
    }
    ∷ record {
      turn = ending 3 [] ((b, None) ∷ []);
      came = [];
      reads = record nothing_read { looked_up = Some a_changed ∷ []; shown = Some (a_changed ∷ b_first ∷ []) };
    } ∷ []

abbrev pub turns_in : List Play → List Turn
turns_in ps = map (λ p. p.turn) ps

-- what both made
abbrev pub watching_made : List (Made Thing)
watching_made = played watching [] watching_turns

abbrev pub fed_made : List (Made Thing)
fed_made = played fed [] fed_turns

abbrev pub watching_steps : List (Step Thing)
watching_steps = steps (turns_in watching_turns) watching_made

abbrev pub fed_steps : List (Step Thing)
fed_steps = steps (turns_in fed_turns) fed_made
