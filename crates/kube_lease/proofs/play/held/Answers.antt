use Rattle.std.proofs.Common.{sym, subst}
use Rattle.kube_meta.specs.Reading.{seen_object}
use Rattle.kube_lease.specs.Played.{IsSeenAs}
use Rattle.kube_lease.proofs.Serving.{sight-of}
use Rattle.kube_lease.proofs.play.held.Goals as goal

pub returns-in_ok-clone-in-Some : goal.returns-in_ok-clone-in-Some
returns-in_ok-clone-in-Some c l h =
    let seen = sight-of _ _ l _ h (rw c.in-Some.is at c.in_ok-object.ensures.held) in
    subst (λ x. IsSeenAs (seen_object x) l) (sym c.in_ok-clone-in-Some.ensures.cases) seen
