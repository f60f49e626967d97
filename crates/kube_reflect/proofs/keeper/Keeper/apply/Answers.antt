use Rattle.std.specs.Arc.{arc_value}
use Rattle.kube_watch.specs.Events.{event_map}
use Rattle.kube_reflect.proofs.Making.{made-then}
use Rattle.kube_reflect.proofs.keeper.Keeper.apply.Goals as goal

pub invariant_of-self-2 : goal.invariant_of-self-2
invariant_of-self-2 g c =
    let before = c.self.inside in
    made-then g.K.Resource.meta_of (g.K.Resource.type_of before.dyntype) before.made _ before.history.log _ (event_map arc_value c.args.event.now) c.self.invariant
    c.in_ok-apply.ensures.applied c.one_more.ensures
