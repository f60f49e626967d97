use Rattle.std.proofs.Common.{◌∷◌, ap, sym, ◌∙◌}
use Rattle.std.specs.Prelude.{Some}
use Rattle.atomic_table.specs.Table.{rest}
use Rattle.kube_lock.proofs.waiting.wait_turn.Goals as goal

pub exchange-requires : goal.exchange-requires
exchange-requires g c =
    let h = c.if-look.ensures.holding in
    (c.look.ensures.table.table, (Some h.value, h.hand ∙ ap (λ held. (0, Some h.value) ∷ rest held) (sym h.hand)))
