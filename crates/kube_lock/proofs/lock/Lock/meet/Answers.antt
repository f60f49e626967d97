use Rattle.std.proofs.Common.{◌≡◌, ap, sym, subst, ◌∙◌}
use mathlib.Core.List.{IsPrefix}
use Rattle.kube_lock.specs.Steps.{IsTold}
use Rattle.kube_lock.specs.Views.{joined_in, copied, longer}
use Rattle.kube_lock.proofs.Lists.{if_some}
use Rattle.kube_lock.proofs.Joining.{longer_begins}
use Rattle.kube_lock.proofs.Together.{begins_both, front_passes, lesser_none, pass_is}
use Rattle.kube_lock.proofs.lock.Lock.meet.Goals as goal

pub returns-clause-met : goal.returns-clause-met
returns-clause-met g c =
    let one = c.a.inside.seat.me.0 in
    let two = c.b.inside.seat.me.0 in
    let two1 : c.join.new.seat.me.0 ≡ joined_in two (copied one) = ap (λ m. m.0) c.join.ensures.joined ∙ ap (λ m. joined_in two m.0) c.split_copy-copy.ensures.new in
    let two2 : c.tell.new.seat.me.0 ≡ joined_in two (copied one) = ap (λ m. m.0) c.tell.ensures.same ∙ two1 in
    let two_is : c.split_copy-back.new.seat.me.0 ≡ joined_in two (copied one) = ap (λ m. m.0) c.split_copy-back.ensures.old ∙ two2 in
    let back_is : c.split_copy-back.result.me.0 ≡ copied (joined_in two (copied one)) = ap (λ m. m.0) c.split_copy-back.ensures.new ∙ ap copied two2 in
    let one1 : c.split_copy-copy.new.seat.me.0 ≡ one = ap (λ m. m.0) c.split_copy-copy.ensures.old in
    let one_is : c.join-2.new.seat.me.0 ≡ joined_in one (copied (joined_in two (copied one))) =
    ap (λ m. m.0) c.join-2.ensures.joined ∙ (ap (λ v. joined_in v c.split_copy-back.result.me.0) one1 ∙ ap (λ v. joined_in one v) back_is) in
    let told = subst (λ v. IsTold g.C.Kept.number g.C.Kept.legal v c.tell.ensures.told.0) two1 c.tell.ensures.told.1 in
    let m = begins_both one.seen two.seen c.tell.ensures.told.0 told.fronts.1.0 told.fronts.0 in
    let here = ap (λ p. p.table) c.self.view_is in
    let seen = longer two.seen one.seen in
    record {
      seen = seen;
      first = pass_is _ c.a.inside.seat.table_id c.a.inside.number c.join-2.new.seat.me.0 one c.args.a seen c.a.view_is (c.join-2.ensures.table.table ∙ (here ∙ sym c.requires.passes.0.here)) (ap (λ v. v.opening) one_is) (ap (λ v. v.given) one_is ∙ lesser_none one.given) (ap (λ v. v.seen) one_is ∙ m.2) (ap (λ v. v.own) one_is);
      second = pass_is _ c.b.inside.seat.table_id c.b.inside.number c.split_copy-back.new.seat.me.0 two c.args.b seen c.b.view_is (c.split_copy-back.ensures.table.0.table ∙ (here ∙ sym c.requires.passes.1.here)) (ap (λ v. v.opening) two_is) (ap (λ v. v.given) two_is ∙ lesser_none two.given) (ap (λ v. v.seen) two_is) (ap (λ v. v.own) two_is);
      begins = subst (λ l. IsPrefix l seen) (ap (λ p. p.seen) c.a.view_is) m.0;
      begins_too = subst (λ l. IsPrefix l seen) (ap (λ p. p.seen) c.b.view_is) m.1;
    }

pub returns-clause-legal : goal.returns-clause-legal
unfolding returns-clause-met
returns-clause-legal g c =
    let one = c.a.inside.seat.me.0 in
    let two = c.b.inside.seat.me.0 in
    let two1 : c.join.new.seat.me.0 ≡ joined_in two (copied one) = ap (λ m. m.0) c.join.ensures.joined ∙ ap (λ m. joined_in two m.0) c.split_copy-copy.ensures.new in
    let log = c.tell.ensures.told.0 in
    let told = subst (λ v. IsTold g.C.Kept.number g.C.Kept.legal v log) two1 c.tell.ensures.told.1 in
    let opening = c.args.self.now.opening in
    let legal = if_some (λ o. g.C.Kept.legal o log) two.opening opening told.legal (ap (λ p. p.opening) c.b.view_is ∙ c.requires.passes.1.opens) in
    subst (g.C.Kept.legal opening) (sym (ap (λ p. p.seen) (returns-clause-met g c).first))
    (front_passes (g.C.Kept.legal opening) (g.C.Kept.fronts opening) (longer two.seen one.seen) log (longer_begins two.seen one.seen log told.fronts.0 told.fronts.1.0) legal)
