-- What is said of a refusal or a fault, as something else that it gives.
use Rattle.std.proofs.Common.{◌≡◌, subst}
use Rattle.kube_model.specs.Traces.{Refusal}
use Rattle.kube_asks.specs.declared.asks.AskFault.{AskFault}
use Rattle.kube_step.specs.Errors.{refusal_of}
use Rattle.kube_step.specs.declared.refusal.BadTurn.{BadTurn}
use Rattle.kube_feed.specs.declared.stopped.Stopped.{Stopped}
use Rattle.kube_feed.specs.declared.stopped.Stopped.TheVariants as stopped
use Rattle.kube_feed.specs.Stops.{IfFaulted, IfRefusedTurn}

pub refused-map : (s : Stopped) (P Q : Refusal → Type 0) → ((why : Refusal) → P why → Q why) → IfRefusedTurn s P → IfRefusedTurn s Q
refused-map (stopped.Refused why) P Q f p = f (refusal_of why) p
refused-map (stopped.Faulted fault) P Q f p = tt

pub faulted-map : (s : Stopped) (P Q : AskFault → Type 0) → ((fault : AskFault) → P fault → Q fault) → IfFaulted s P → IfFaulted s Q
faulted-map (stopped.Faulted fault) P Q f p = f fault p
faulted-map (stopped.Refused why) P Q f p = tt

pub refused-now : (s : Stopped) (why : BadTurn) (P : Refusal → Type 0) → s ≡ stopped.Refused why → IfRefusedTurn s P → P (refusal_of why)
refused-now s why P arm k = subst (λ z. IfRefusedTurn z P) arm k

pub faulted-now : (s : Stopped) (f g : AskFault) (P : AskFault → Type 0) → s ≡ stopped.Faulted f → f ≡ g → IfFaulted s P → P g
faulted-now s f g P arm same k = subst P same (subst (λ z. IfFaulted z P) arm k)
