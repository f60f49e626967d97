use Rattle.std.proofs.Common.{◌≡◌, true, false, ◌∙◌}
use Rattle.kube_server.specs.History.{object_of}
use Rattle.kube_server.specs.Numbers.{has_name}
use Rattle.kube_server.specs.Servers.{meta_of}
use Rattle.kube_server.specs.Stored.{change_of, name_of}
use Rattle.kube_server.proofs.IndexLemmas.{looks_past, stops_at}
use Rattle.kube_server.proofs.watching.first_named_from.Goals as goal

pub loop-index-preserved : goal.loop-index-preserved
loop-index-preserved c =
    let other : has_name (name_of c.args.name.now) (meta_of (object_of (change_of c.index-log-index.result))) ≡ false = (cc (c.is_of.ensures, c.object.ensures, c.deref.ensures)) in
    looks_past (name_of c.args.name.now) c.args.log.now c.loop-index.index c.index-log-index.result c.loop-index-test.true c.index-log-index.is other ∙ c.loop-index.invariant

pub returns-else-not-is_of : goal.returns-else-not-is_of
returns-else-not-is_of c =
    let here : has_name (name_of c.args.name.now) (meta_of (object_of (change_of c.index-log-index.result))) ≡ true = (cc (c.is_of.ensures, c.object.ensures, c.deref.ensures)) in
    record {
      same = c.loop-index.invariant;
      named = stops_at (name_of c.args.name.now) c.args.log.now c.loop-index.index c.index-log-index.result c.loop-index-test.true c.index-log-index.is here;
    }
