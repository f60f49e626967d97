use Rattle.std.proofs.Common.{◌≡◌, ◌<◌, ℕ, ◌+◌, ◌-◌, ◌/◌, ◌∙◌, List, arith, ap, sym, length, get_or}
use Rattle.std.specs.Arc.{arc_value}
use Rattle.kube_meta.specs.Reference.{ObjectType}
use Rattle.kube_meta.specs.Keys.{reference_of}
use Rattle.kube_meta.specs.declared.object_ref.ObjectRef.{ObjectRef}
use Rattle.kube_reflect.specs.declared.stored.Stored.{Stored}
use Rattle.kube_reflect.specs.Indexes.{reference_cmp, no_reference, sought, references, key_at, IsIndex}
use Rattle.kube_reflect.specs.Views.{stored_of, all_stored}
use Rattle.kube_reflect.proofs.Indexed.{at-item, length-references}
use Rattle.kube_reflect.proofs.Indexing.{below_more, above_more}
use Rattle.kube_reflect.proofs.Ordering.{reference_total, reference_tied}
use Rattle.kube_reflect.proofs.Halving.{halves_more, looked_up}
use Rattle.kube_reflect.proofs.places.look_up.Goals as goal

module _ {K D : Type 0} (type_of : D → ObjectType) (items : List (Stored K D)) (places : List ℕ) (index : IsIndex (references (all_stored type_of items)) places) where
  -- the reference that is looked at is the key there
  looked_at : (m : ℕ) (x : Stored K D) (r : ObjectRef K D) → m < length places → x ≡ get_or items (get_or places m 0) x → r ≡ arc_value (get_or items (get_or places m 0) x).reference
      → reference_of type_of r ≡ key_at reference_cmp no_reference (references (all_stored type_of items)) places m
  looked_at m x r h e d =
      let n = length-references (stored_of type_of) items in
      let l = index.len in
      let w = index.within m (omega arith) in
      ap (reference_of type_of) d
      ∙ (ap (λ (y : Stored K D). reference_of type_of (arc_value y.reference)) (sym e) ∙ sym (at-item (stored_of type_of) items (get_or places m 0) x (omega arith) e))

  count : length items ≡ length places
  count = let n = length-references (stored_of type_of) items in let l = index.len in omega arith

pub loop-low-preserved-in-Less : goal.loop-low-preserved-in-Less
loop-low-preserved-in-Less g c =
    let type_of = g.K.Resource.type_of in
    let items = c.args.items.now in
    let places = c.args.places.now in
    let index = c.requires.index in
    let i = c.loop-low.invariant in
    let end = i.end in
    let m = c.loop-low.low + (c.loop-low.high - c.loop-low.low) / 2 in
    let h : m < length places = omega arith in
    let l = index.len in
    let key = sought c.args.within (reference_of type_of c.args.reference.now) in
    let looked = looked_at type_of items places index m c.index-items-places.result c.deref.result.now h c.index-items-places.is c.deref.ensures in
    record {
      order = omega arith;
      end = end;
      below = below_more reference_cmp reference_total no_reference (references (all_stored type_of items)) places index key m (m + 1) (omega arith) (omega arith)
          (ap (λ r. reference_cmp r key) (sym looked) ∙ (sym c.compare.ensures ∙ c.in-Less.is));
      above = i.above;
      cost = halves_more _ _ _ _ _ _ i.cost c.tick.ensures (omega arith) (omega arith);
    }

pub loop-low-preserved : goal.loop-low-preserved
loop-low-preserved g c =
    let type_of = g.K.Resource.type_of in
    let items = c.args.items.now in
    let places = c.args.places.now in
    let index = c.requires.index in
    let i = c.loop-low.invariant in
    let end = i.end in
    let m = c.loop-low.low + (c.loop-low.high - c.loop-low.low) / 2 in
    let h : m < length places = omega arith in
    let key = sought c.args.within (reference_of type_of c.args.reference.now) in
    let looked = looked_at type_of items places index m c.index-items-places.result c.deref.result.now h c.index-items-places.is c.deref.ensures in
    record {
      order = omega arith;
      end = omega arith;
      below = i.below;
      above = above_more reference_cmp reference_total no_reference (references (all_stored type_of items)) places index key m
          (ap (λ r. reference_cmp r key) (sym looked) ∙ (sym c.compare.ensures ∙ c.in-Greater.is));
      cost = halves_more _ _ _ _ _ _ i.cost c.tick.ensures (omega arith) (omega arith);
    }

pub returns-in-Equal-clause-searched : goal.returns-in-Equal-clause-searched
returns-in-Equal-clause-searched g c =
    let type_of = g.K.Resource.type_of in
    let items = c.args.items.now in
    let places = c.args.places.now in
    let index = c.requires.index in
    let end = c.loop-low.invariant.end in
    let m = c.loop-low.low + (c.loop-low.high - c.loop-low.low) / 2 in
    let h : m < length places = omega arith in
    let l = index.len in
    let key = sought c.args.within (reference_of type_of c.args.reference.now) in
    let looked = looked_at type_of items places index m c.index-items-places.result c.deref.result.now h c.index-items-places.is c.deref.ensures in
    (omega arith, sym looked ∙ reference_tied _ _ (sym c.compare.ensures ∙ c.in-Equal.is))

pub returns-in-Equal-clause-cost : goal.returns-in-Equal-clause-cost
returns-in-Equal-clause-cost g c =
    looked_up _ _ _ 0 (halves_more _ _ _ _ _ 0 c.loop-low.invariant.cost c.tick.ensures (omega arith) (omega arith))
