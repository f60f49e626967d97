-- Budgets that turns keep. O is the type of objects.
use Rattle.std.specs.Prelude.{◌≡◌, ◌≤◌, ℕ, true, List, [], ◌++◌, length, slice_index}
use Rattle.std.specs.List.{AllByRecursion}
use Rattle.kube_model.specs.World.{World, Settings, Watched, feed_of}
use Rattle.kube_model.specs.History.{Exchange, Turn, Step, dated, dated_of, exchanges_of}
use Rattle.kube_model.specs.Asks.{told_not_ready}
use Rattle.kube_watch.specs.Idling.{idles}

module _ {O B : Type 0} (w : World O B) where
  -- in a turn with these exchanges each source made at most as many as its budget allows, and none after it told that it was not ready; and a source that lists and watches idled at most once
  pub record KeepsBudget (t : Turn) (xs : List (Exchange O)) : Type 0 where
    pub at_most : (source : ℕ) → length (dated_of source (dated t.at xs)) ≤ slice_index t.budget source
    pub quiet : (source : ℕ) (front rest : List (Exchange O)) → xs ≡ front ++ rest → told_not_ready source (dated t.at front) ≡ true → dated_of source (dated t.at rest) ≡ []
    pub idle : (source : ℕ) (settings : Settings) → feed_of w source ≡ Watched settings → idles (exchanges_of source (dated t.at xs)) ≤ 1

  -- so in each of these turns
  abbrev pub EachKeepsBudget : List (Step O) → Type 0
  EachKeepsBudget h = AllByRecursion (λ s. KeepsBudget s.turn s.made.exchanges) h
