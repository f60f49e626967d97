use Rattle.std.proofs.Common.{◌≡◌, Some, arith}
use Rattle.std.proofs.lemmas.Grind.{common_steps}
use Rattle.kube_meta.specs.Reading.{unless_empty}
use Rattle.kube_model.proofs.Results.{on_err}
use Rattle.kube_text.proofs.metadata.full_list.Goals as goal

pub returns-in_err-member-in-Some-clause-front : goal.returns-in_err-member-in-Some-clause-front
returns-in_err-member-in-Some-clause-front g c rest =
    let full : unless_empty (Some c.in-Some.items) ≡ Some c.in-Some.items = grind (arith, common_steps) in
    rw (c.in-Some.is, full) (on_err _ _ (c.in_err-member-in-Some.ensures.front rest))
