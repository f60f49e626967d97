use Rattle.std.proofs.Common.{◌≡◌, []}
use Rattle.kube_watch.specs.Asking.{Said}
use Rattle.kube_streams.specs.Adapts.{AreQuiet}
use Rattle.kube_streams.proofs.adapted.Adapted.ask.Given as goal

-- so many polls gave nothing
abbrev pub invariant-loop-asked : goal.invariant-loop-asked
invariant-loop-asked g l =
    record {
      can : g.S.EventStream.can_poll l.self.stream;
      may : g.T.Adapt.may l.self.adapt;
      none : l.self.waiting ≡ [];
      fault : l.self.fault ≡ l.fn.self.fault;
      quiet : AreQuiet (Said g.S.EventStream.polls g.S.EventStream.told) g.T.Adapt.takes g.T.Adapt.unnamed l._asked l.now.0 l.fn.self.stream l.fn.self.adapt l.self.stream l.self.adapt;
    }
