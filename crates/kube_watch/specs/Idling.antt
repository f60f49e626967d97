-- How often a watcher idles. (Crate: the idle timeout of `watcher`.)
use Rattle.std.specs.Prelude.{ℕ, ◌+◌, List, [], ◌∷◌}
use Rattle.kube_model.specs.declared.call.Answer.{Answer}
use Rattle.kube_model.specs.declared.call.Answer.TheVariants.{Idle}
use Rattle.kube_model.specs.History.{Exchange}

abbrev pub idle_count : Answer → ℕ
idle_count Idle = 1
idle_count _ = 0

-- how many of these exchanges are idle
abbrev pub idles : {O : Type 0} → List (Exchange O) → ℕ
idles [] = 0
idles (x ∷ xs) = idle_count x.answer + idles xs
