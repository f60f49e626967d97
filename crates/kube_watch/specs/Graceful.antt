-- The errors of a watcher that only say that the script of its test is used up. (Crate: `error_indicates_graceful_watch_seq_exhaustion`.)
use Rattle.std.specs.Prelude.{◌≡◌, ◌⊎◌, ℕ, List, codes}
use Rattle.kube_model.specs.declared.error.ApiError.TheVariants.{ReadEvents}
use Rattle.kube_model.specs.declared.error.Error.{Error}
use Rattle.kube_model.specs.declared.error.Error.TheVariants.{WatchStartFailed, WatchFailed}

abbrev pub exhausted : List ℕ
exhausted = codes "TestMode watch sequence exhausted"

abbrev pub IsGraceful : Error → Type 0
IsGraceful e = (e ≡ WatchStartFailed (ReadEvents exhausted)) ⊎ (e ≡ WatchFailed (ReadEvents exhausted))
