use Rattle.std.proofs.Common.{◌≡◌, [], ◌∷◌, ap, ◌∙◌}
use Rattle.std.specs.Prelude.{Some}
use Rattle.atomic_table.specs.Table.{rest}
use Rattle.kube_lock.specs.Views.{grown, released}
use Rattle.kube_lock.proofs.Calls.{commits_own}
use Rattle.kube_lock.proofs.lock.Lock.commit.Goals as goal

pub returns-clause-own : goal.returns-clause-own
returns-clause-own g c own =
    let v = c.turn.inside.seat.me.0 in
    let value = c.args.value in
    let log = g.C.Kept.entries value in
    let e = c.requires.entry in
    let before : c.exchange.new.seat.me ≡ (v, (0, Some value) ∷ []) = c.exchange.ensures.3 ∙ ap (λ held. (v, (0, Some value) ∷ rest held)) c.turn.invariant.empty in
    let after : c.release.new.seat.me.0 ≡ released (grown v log) =
    ap (λ m. m.0) c.release.ensures.released ∙ (ap released (c.commit.ensures.grown value (ap (λ m. m.1) before)) ∙ ap (λ m. released (grown m.0 log)) before) in
    commits_own g.C.Kept.number v c.release.new.seat.me.0 c.args.turn c.turn.inside.seat.table_id c.turn.inside.number log e.0 c.turn.view_is after e.1 e.2 own
