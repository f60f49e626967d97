use Rattle.std.proofs.Common.{◌≡◌, [], ◌∷◌, ◌++◌, ap, sym, subst, ◌∙◌, append_assoc}
use Rattle.std.specs.List.{AllByRecursion}
use Rattle.kube_lock.specs.Seats.{IsOf}
use Rattle.kube_lock.specs.Views.{joined_in}
use Rattle.kube_lock.specs.Passes.{IsPassOf}
use Rattle.kube_lock.specs.Whole.{Covers}
use Rattle.kube_lock.proofs.Lists.{all_left, all_of, all_right}
use Rattle.kube_lock.proofs.Telling.{covers_left, covers_other}
use Rattle.kube_lock.proofs.closing.gather.Goals as goal

pub join-requires-clause-table : goal.join-requires-clause-table
join-requires-clause-table g c =
    subst (λ t. IsOf t c.loop-other.seat) (sym (ap (λ p. p.table) c.lock.view_is)) c.loop-other.invariant.table

pub join-requires-clause-idle : goal.join-requires-clause-idle
join-requires-clause-idle g c = c.loop-other.invariant.idle

pub join-requires-clause-other : goal.join-requires-clause-other
join-requires-clause-other g c =
    let mine = all_right (IsPassOf c.args.lock.now) c.pop.new.self.items (c.in-Some.other ∷ []) (subst (AllByRecursion (IsPassOf c.args.lock.now)) c.in-Some.ensures.items c.loop-other.invariant.passes) in
    let o = c.other in (
      record { table = ap (λ p. p.table) o.view_is ∙ (mine.0.here ∙ sym (ap (λ p. p.table) c.lock.view_is)); words = c.lock.invariant.0; slots = c.lock.invariant.1 },
      record { empty = o.invariant.empty; ticket = o.invariant.ticket; holds = o.invariant.holds },
    )

pub loop-other-preserved : goal.loop-other-preserved
loop-other-preserved g c =
    let i = c.loop-other.invariant in
    let v = c.loop-other.seat.me.0 in
    let w = c.other.inside.seat.me.0 in
    let joined : c.join.new.seat.me.0 ≡ joined_in v w = ap (λ m. m.0) c.join.ensures.joined in
    let items = c.in-Some.ensures.items in
    let theirs = subst (Covers g.C.Kept.number g.C.Kept.legal (joined_in v w)) c.other.view_is (covers_other g.C.Kept.number g.C.Kept.legal v w c.other.inside.seat.table_id c.other.inside.number c.other.invariant.has) in
    let left = covers_left g.C.Kept.number g.C.Kept.legal v w in
    record {
      table = subst (λ t. IsOf t c.join.new.seat) (ap (λ p. p.table) c.lock.view_is) c.join.ensures.table;
      idle = record { empty = ap (λ m. m.1) c.join.ensures.joined ∙ i.idle.empty; ticket = ap (λ m. m.0.ticket) c.join.ensures.joined ∙ i.idle.ticket; holds = ap (λ m. m.0.holds) c.join.ensures.joined ∙ i.idle.holds };
      number = ap (λ m. m.0.number) c.join.ensures.joined ∙ i.number;
      opening = ap (λ m. m.0.opening) c.join.ensures.joined ∙ i.opening;
      passes = all_left (IsPassOf c.args.lock.now) c.pop.new.self.items (c.in-Some.other ∷ []) (subst (AllByRecursion (IsPassOf c.args.lock.now)) items i.passes);
      keeps = λ p h. subst (λ u. Covers g.C.Kept.number g.C.Kept.legal u p) (sym joined) (left p (i.keeps p h));
      covers = (
        c.in-Some.other ∷ i.covers.0,
        i.covers.1 ∙ (ap (λ l. l ++ i.covers.0) items ∙ append_assoc c.pop.new.self.items (c.in-Some.other ∷ []) i.covers.0),
        subst (λ u. AllByRecursion (Covers g.C.Kept.number g.C.Kept.legal u) (c.in-Some.other ∷ i.covers.0)) (sym joined)
            (theirs, all_of (Covers g.C.Kept.number g.C.Kept.legal v) (Covers g.C.Kept.number g.C.Kept.legal (joined_in v w)) left i.covers.0 i.covers.2),
      );
    }
