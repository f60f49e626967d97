use Rattle.std.proofs.Common.{refl, sym, ap, [], ◌∷◌}
use Rattle.std.proofs.lemmas.List.{append-nil}
use Rattle.kube_reflect.specs.declared.copies.copied.Op.TheVariants.{Name}
use Rattle.kube_reflect.proofs.Pending.{behind_more}
use Rattle.kube_reflect.proofs.copies.show.show.Goals as goal

pub show_pending-requires-clause-behind : goal.show_pending-requires-clause-behind
show_pending-requires-clause-behind g c =
    behind_more _ _ _ _ (Name c.again.result ∷ []) c.args.origin.now c.args.origin.now [] (ap (λ d. d.shown.value) c.append.ensures.desk) c.in-Ok.ensures.pending refl refl (sym (append-nil _)) c.requires.behind

pub show_pending-requires-clause-named : goal.show_pending-requires-clause-named
show_pending-requires-clause-named g c = (_, c.again.result, c.in-Ok.ensures.pending, c.again.ensures)
