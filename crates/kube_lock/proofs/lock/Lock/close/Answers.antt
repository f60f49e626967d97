use Rattle.std.proofs.Common.{subst}
use Rattle.kube_lock.specs.Whole.{Covers}
use Rattle.kube_lock.proofs.Telling.{covers_itself, whole_all}
use Rattle.kube_lock.proofs.lock.Lock.close.Goals as goal

pub returns-clause-whole : goal.returns-clause-whole
returns-clause-whole g c =
    let seat = c.last.inside.seat in
    let mine = subst (Covers g.C.Kept.number g.C.Kept.legal seat.me.0) c.last.view_is (covers_itself g.C.Kept.number g.C.Kept.legal seat.me.0 seat.table_id c.last.inside.number c.last.invariant.has) in
    (whole_all g.C.Kept.number g.C.Kept.legal c.gather.new.seat.me.0 (g.C.Kept.entries c.wait_turn.result) c.pop.new.self.items c.args.passes.items c.in-Some.last c.in-Some.ensures.items c.wait_turn.ensures.told
    c.gather.ensures.covers (c.gather.ensures.keeps c.in-Some.last mine)).0

pub returns-clause-others : goal.returns-clause-others
returns-clause-others g c =
    let seat = c.last.inside.seat in
    let mine = subst (Covers g.C.Kept.number g.C.Kept.legal seat.me.0) c.last.view_is (covers_itself g.C.Kept.number g.C.Kept.legal seat.me.0 seat.table_id c.last.inside.number c.last.invariant.has) in
    (whole_all g.C.Kept.number g.C.Kept.legal c.gather.new.seat.me.0 (g.C.Kept.entries c.wait_turn.result) c.pop.new.self.items c.args.passes.items c.in-Some.last c.in-Some.ensures.items c.wait_turn.ensures.told
    c.gather.ensures.covers (c.gather.ensures.keeps c.in-Some.last mine)).1
