-- What a seat knows, and how each kind of step changes it. E is the type of entries, P that of what was opened.
use Rattle.std.specs.Prelude.{ℕ, ◌+◌, true, false, List, [], ◌∷◌, ◌++◌, length, drop, Option, Some, None, if◌then◌else◌, nat_le}
use Rattle.std.specs.Option.{option_map}
use Rattle.kube_lock.specs.declared.view.View.{View}
use Rattle.kube_lock.specs.declared.view.Joined.{Joined}

-- the longer of two lists, the first where they are as long
abbrev pub longer : {E : Type 0} → List E → List E → List E
longer xs ys = if nat_le (length ys) (length xs) then xs else ys

-- the lesser of two counts, or the one that there is
abbrev pub lesser : Option ℕ → Option ℕ → Option ℕ
lesser None b = b
lesser (Some n) None = Some n
lesser (Some n) (Some m) = Some (if nat_le n m then n else m)

-- a number with its own entries, where there is one
abbrev pub kept_of : {E : Type 0} → Option ℕ → List E → List (Joined E)
kept_of None own = []
kept_of (Some n) own = record { number = n; own = own } ∷ []

module _ {E P : Type 0} where
  -- the first seat of a table, which keeps the count of numbers given
  abbrev pub root : P → View E P
  root opening = record { opening = Some opening; seen = []; own = []; number = None; ticket = None; holds = false; given = Some 0; fronts = []; joined = [] }

  -- that seat after it has given as many numbers
  abbrev pub dealer : P → ℕ → View E P
  dealer opening n = record (root opening) { given = Some n }

  -- a seat that was taken in knows nothing
  abbrev pub spent : View E P
  spent = record { opening = None; seen = []; own = []; number = None; ticket = None; holds = false; given = None; fronts = []; joined = [] }

  -- draw: it has this ticket
  abbrev pub with_ticket : View E P → ℕ → View E P
  with_ticket v t = record v { ticket = Some t }

  -- look, where its turn has come: it holds the slot, and has seen the history
  abbrev pub served : View E P → List E → View E P
  served v log = record v { seen = log; holds = true }

  -- commit: it has seen this history, and what is new of it are its own entries
  abbrev pub grown : View E P → List E → View E P
  grown v log = record v { seen = log; own = v.own ++ drop (length v.seen) log }

  -- release: no ticket, no slot
  abbrev pub released : View E P → View E P
  released v = record v { ticket = None; holds = false }

  -- split with a number: one number more was given ..
  abbrev pub counted : View E P → View E P
  counted v = record v { given = option_map (λ n. n + 1) v.given }

  -- .. to the new seat, which has no entries of its own yet
  abbrev pub numbered : View E P → View E P
  numbered v = record { opening = v.opening; seen = v.seen; own = []; number = v.given; ticket = None; holds = false; given = None; fronts = []; joined = [] }

  -- split without a number: the new seat has seen as much
  abbrev pub copied : View E P → View E P
  copied v = record { opening = v.opening; seen = v.seen; own = []; number = None; ticket = None; holds = false; given = None; fronts = []; joined = [] }

  -- join: the longer list was seen, and all that either knew is kept
  abbrev pub joined_in : View E P → View E P → View E P
  joined_in v w = record {
    opening = v.opening;
    seen = longer v.seen w.seen;
    own = v.own;
    number = v.number;
    ticket = v.ticket;
    holds = v.holds;
    given = lesser v.given w.given;
    fronts = v.seen ∷ w.seen ∷ v.fronts ++ w.fronts;
    joined = v.joined ++ (kept_of w.number w.own ++ w.joined);
  }
