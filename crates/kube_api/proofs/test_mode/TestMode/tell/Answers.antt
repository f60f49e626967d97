use Rattle.kube_api.proofs.TalkLemmas.{All-front}
use Rattle.kube_api.proofs.test_mode.TestMode.tell.Goals as goal

pub invariant_of-self-then-failed : goal.invariant_of-self-then-failed
invariant_of-self-then-failed g c =
    λ never. c.self.invariant (All-front _ _ _ (rw c.in_ok-push.ensures.ok at never))

pub invariant_of-self-else-failed : goal.invariant_of-self-else-failed
invariant_of-self-else-failed g c =
    λ never. c.self.invariant (All-front _ _ _ (rw c.in_ok-push.ensures.ok at never))
