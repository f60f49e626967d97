-- Whether an answer is there. (`std::task::Poll`.)
use Rattle.kube_meta.specs.declared.poll.Polled.{Polled}
use Rattle.kube_meta.specs.declared.poll.Polled.TheVariants.{Ready, NotReady}

abbrev pub IsReady : {T : Type 0} → Polled T → Type 0
IsReady (Ready value) = Unit {0}
IsReady NotReady = ⊥

abbrev pub IsNotReady : {T : Type 0} → Polled T → Type 0
IsNotReady (Ready value) = ⊥
IsNotReady NotReady = Unit {0}
