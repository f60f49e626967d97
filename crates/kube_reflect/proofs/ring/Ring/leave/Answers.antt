use Rattle.std.proofs.Common.{◌∙◌, ap, refl, length, None, map}
use Rattle.std.specs.List.{list_all}
use Rattle.kube_meta.specs.Keys.{reference_of}
use Rattle.kube_reflect.specs.Lags.{is_within}
use Rattle.kube_reflect.proofs.Lagging.{within-set, with_lag, there-seen}
use Rattle.kube_reflect.proofs.ring.Ring.leave.Goals as goal

pub invariant_of-self : goal.invariant_of-self
invariant_of-self g c =
    let n = length c.self.inside.references.items in
    ap (list_all (is_within n)) c.leave.ensures ∙ within-set n c.self.inside.lags c.args.number None c.self.invariant refl

pub returns : goal.returns
returns g c =
    with_lag c.self.inside.room (map (reference_of g.K.Resource.type_of) c.self.inside.references.items) c.self.inside.is_closed
    c.self.inside.lags c.leave.new.self c.args.number None c.args.self.now c.leave.ensures c.self.view_is

pub leave-requires : goal.leave-requires
leave-requires g c =
    there-seen c.self.inside.room (map (reference_of g.K.Resource.type_of) c.self.inside.references.items) c.self.inside.is_closed c.self.inside.lags c.args.number c.args.self.now
    c.self.view_is c.requires
