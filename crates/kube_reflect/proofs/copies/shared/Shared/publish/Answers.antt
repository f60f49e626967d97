use Rattle.std.proofs.Common.{sym, subst, ◌∙◌}
use mathlib.Core.List.{IsPrefix}
use Rattle.kube_reflect.specs.Entries.{entries_of, told_in}
use Rattle.kube_reflect.proofs.Publishing.{publish_within}
use Rattle.kube_reflect.proofs.copies.shared.Shared.publish.Goals as goal

pub returns-in-Some-clause-begun : goal.returns-in-Some-clause-begun
returns-in-Some-clause-begun g c =
    let log = c.args.history.now.log in
    let begun = subst (λ s. IsPrefix (told_in s.named) (entries_of log)) (sym c.self.view_is) c.requires.begun in
    subst (λ n. IsPrefix (told_in n) (entries_of log)) (sym (c.show_list.ensures.named ∙ c.in-Some.ensures.list)) (publish_within c.self.inside.origin.mark.seen.log log begun)
