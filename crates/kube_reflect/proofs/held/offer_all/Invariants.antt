use Rattle.std.proofs.Common.{◌≡◌, drop, take, map, []}
use Rattle.kube_meta.specs.Keys.{reference_of}
use Rattle.kube_reflect.specs.Writers.{AllStay}
use Rattle.kube_reflect.specs.Reflects.{offered_in}
use Rattle.kube_reflect.proofs.held.offer_all.Given as goal

-- those before were offered, and the rest decides
abbrev pub invariant-loop-offered : goal.invariant-loop-offered
invariant-loop-offered g l =
    let rs = map (reference_of g.K.Resource.type_of) l.fn.references.items in
    record {
      live : AllStay l.fn.writer l.writer;
      left : l.references.items ≡ drop l._offered l.fn.references.items;
      offered : offered_in l.fn.writer (take l._offered rs) ≡ (l.writer, []);
      decides : offered_in l.writer (map (reference_of g.K.Resource.type_of) l.references.items) ≡ offered_in l.fn.writer rs;
    }
