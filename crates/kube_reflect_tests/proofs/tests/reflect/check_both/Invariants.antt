use Rattle.std.proofs.Common.{◌≡◌, true}
use Rattle.kube_reflect.specs.Writers.{is_live}
use Rattle.kube_reflect_tests.proofs.tests.reflect.check_both.Given as goal

-- both subscribers stay
abbrev pub invariant-loop-turn : goal.invariant-loop-turn
invariant-loop-turn g l =
    record {
      first : is_live l.reflected.writer l.first.number ≡ true;
      second : is_live l.reflected.writer l.second.number ≡ true;
    }
