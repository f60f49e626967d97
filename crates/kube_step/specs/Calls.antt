-- Which sources of a controller were asked, and what that made of them. O is the type of objects, R that of roots, S that of sets of related sources.
use Rattle.std.specs.Prelude.{◌≡◌, ℕ, List, [], ◌∷◌, ◌++◌}
use Rattle.std.specs.List.{flat_map}
use Rattle.kube_model.specs.History.{Dated, Exchange, TurnRecord, dated}
use Rattle.kube_asks.specs.Asking.{IsPolledAt}

-- polls one after another: each made its exchange at the source that the exchange tells, after all exchanges before it, and all other sources are as before. root_polls and related_polls say what a poll makes of a root, and of a set at a place
abbrev pub ArePolled : {O R S : Type 0} → (R → List (Dated O) → ℕ → Exchange O → R → Type 0) → (S → ℕ → List (Dated O) → ℕ → Exchange O → S → Type 0)
    → List (Dated O) → R → S → List (Dated O) → R → S → Type 0
ArePolled root_polls related_polls before root related [] root' related' = (root' ≡ root) × (related' ≡ related)
ArePolled {R = R} {S = S} root_polls related_polls before root related (d ∷ ds) root' related' =
    (r : R) × (s : S) × IsPolledAt root_polls related_polls before d.at d.exchange root related r s d.exchange.source
    × ArePolled root_polls related_polls (before ++ d ∷ []) r s ds root' related'

-- all exchanges of these records, each at its record's moment
abbrev pub dated_in : {O : Type 0} → List (TurnRecord O) → List (Dated O)
dated_in rs = flat_map (λ r. dated r.at r.exchanges) rs
