use Rattle.std.proofs.Common.{◌≡◌, Some, ap, ◌∙◌}
use Rattle.std.proofs.lemmas.List.Elements.{All-pop}
use Rattle.kube_reflect.specs.Ties.{home_of}
use Rattle.kube_reflect.proofs.copies.shared.Shared.as_reader.Goals as goal

pub invariant_of-self-2 : goal.invariant_of-self-2
invariant_of-self-2 g c =
    let inv = c.self.invariant in
    (inv.0, inv.1, inv.2, inv.3, (All-pop (λ p. p.home ≡ home_of c.self.inside.origin) _ _ (Some c.in_ok-place.place) c.in_ok-place.ensures.items inv.4).0)

pub returns-clause-handle : goal.returns-clause-handle
returns-clause-handle g c =
    let inv = c.self.invariant in
    let here = (All-pop (λ p. p.home ≡ home_of c.self.inside.origin) _ _ (Some c.in_ok-place.place) c.in_ok-place.ensures.items inv.4).1 in
    (c.new.ensures.0 ∙ (here ∙ ap (λ s. s.home) c.self.view_is), c.new.ensures.1)
