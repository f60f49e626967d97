use Rattle.std.proofs.Common.{◌∷◌, ◌++◌, [], ap, ◌∙◌}
use Rattle.kube_reflect.specs.declared.copies.law.Entry.TheVariants.{End}
use Rattle.kube_reflect.specs.Entries.{ended, told_in}
use Rattle.kube_reflect.proofs.Publishing.{told_end}
use Rattle.kube_reflect.proofs.store.Writer.end.Goals as goal

pub returns-in-Ok-clause-events : goal.returns-in-Ok-clause-events
returns-in-Ok-clause-events g c =
    ap (λ e. told_in e.shown) c.new.ensures
    ∙ (ap told_in c.finish.ensures.list
    ∙ (ap (λ s. told_in (s.named ++ End ∷ [])) c.in-Ok.ensures.ok
    ∙ (told_end c.show_kept.new.shared.named
    ∙ (ap (λ t. t ++ End ∷ []) c.in_default.ensures.shown.list.0 ∙ ap (λ w. ended w.events) c.self.view_is))))
