use Rattle.std.proofs.Common.{sym, subst}
use Rattle.kube_meta.specs.Reading.{seen_object}
use Rattle.kube_final.specs.Playing.{IsSeenAs}
use Rattle.kube_final.proofs.Sights.{sight-of}
use Rattle.kube_final.proofs.play.held.Goals as goal

pub returns-in_ok-clone-in-Some : goal.returns-in_ok-clone-in-Some
returns-in_ok-clone-in-Some c state h =
    let seen = sight-of _ _ state _ h (rw c.in-Some.is at c.in_ok-object.ensures.held) in
    (seen.0, subst (λ x. IsSeenAs (seen_object x) state) (sym c.in_ok-clone-in-Some.ensures.cases) seen.1)
