use Rattle.kube_watch.specs.Calls.{version_of}
use Rattle.kube_asks.proofs.Names.{recorded-named}
use Rattle.kube_asks.proofs.laws.polled_roots_are_named.Goals as goal

pub returns : goal.returns
returns g c w is own now old new x p = recorded-named (version_of g.A.Value.Resource.meta_of) g.A.Value.Resource.meta_of w is own x p.call.raw p.call.recorded.answer p.call.recorded.items p.named
