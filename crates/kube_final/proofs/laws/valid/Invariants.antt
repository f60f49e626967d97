use Rattle.std.proofs.Common.{◌≡◌, drop}
use Rattle.kube_final.specs.Lives.{is_life, is_life_from}
use Rattle.kube_final.specs.Pasts.{past_in}
use Rattle.kube_final.proofs.laws.valid.Given as goal

-- the rest decides, after the past
abbrev pub invariant-loop-step : goal.invariant-loop-step
invariant-loop-step l = is_life_from l.name (past_in l.past) (drop l.step-index l.life) ≡ is_life l.name l.life
