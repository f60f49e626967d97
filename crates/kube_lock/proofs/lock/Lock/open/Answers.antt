use Rattle.std.proofs.Common.{rules, ◌≡◌, List, [], ◌∷◌, ap, length, sym, subst, ◌∙◌}
use Rattle.std.specs.Prelude.{Option, Some}
use Rattle.atomic_table.specs.Table.{opening}
use Rattle.kube_lock.specs.Rule.{IsRuled}
use Rattle.kube_lock.specs.Views.{root}
use Rattle.kube_lock.proofs.Joining.{begins}
use Rattle.std.specs.List.{AllByRecursion}
use Rattle.kube_lock.specs.Passes.{Locking, IsPassOf}
use Rattle.kube_lock.proofs.Dealing.{all_length, all_theirs}
use Rattle.kube_lock.proofs.lock.Lock.open.Goals as goal

pub new-requires : goal.new-requires
new-requires g c =
    let opened = g.C.Kept.opened in
    let key = c.of-key.result.value in
    let items : c.push.new.self.items ≡ Some c.args.value ∷ [] = search rules in
    let same : opened c.args.value ≡ opened key = ap opened (sym c.of-key.ensures) in
    subst (λ (xs : List (Option g.row.C.Denot)). IsRuled g.C.Kept.entries g.C.Kept.number opened g.C.Kept.legal (opened key) (opening (0 ∷ 0 ∷ 0 ∷ []) xs (root (opened key)))) (sym items)
    (begins g.C.Kept.entries g.C.Kept.number opened g.C.Kept.legal (opened key) c.args.value c.requires.empty same (subst (λ o. g.C.Kept.legal o []) same c.requires.legal))

pub returns-in-Ok-new-clause-theirs : goal.returns-in-Ok-new-clause-theirs
returns-in-Ok-new-clause-theirs g c =
    let lock : Locking g.row.C-Opening.Denot = record { table = c.in-Ok-new.table.shared.table_id; opening = g.C.Kept.opened c.in-Ok-new.table.shared.key.value } in
    subst (AllByRecursion (IsPassOf lock)) (sym c.deal.ensures) (all_theirs g.row.C-Entry.Denot lock c.args.passes)

pub returns-in-Ok-new-clause-all : goal.returns-in-Ok-new-clause-all
returns-in-Ok-new-clause-all g c =
    let lock : Locking g.row.C-Opening.Denot = record { table = c.in-Ok-new.table.shared.table_id; opening = g.C.Kept.opened c.in-Ok-new.table.shared.key.value } in
    ap length c.deal.ensures ∙ all_length g.row.C-Entry.Denot lock c.args.passes
