use Rattle.std.proofs.Common.{◌∙◌, ap, sym, arith}
use Rattle.kube_server.specs.History.{changed}
use Rattle.kube_server.specs.Servers.{meta_of}
use Rattle.kube_server.specs.Stored.{change_of}
use Rattle.kube_server.proofs.LogLemmas.{state_at-next}
use Rattle.kube_server.proofs.log.catch_up.Goals as goal

pub loop-applied-preserved : goal.loop-applied-preserved
loop-applied-preserved c = record {
  count = omega arith;
  made =
      c.in_ok-apply.ensures.ok
      ∙ (ap (λ s. changed meta_of s (change_of c.index-entries-applied.result)) c.loop-applied.invariant.made
      ∙ sym (state_at-next c.args.entries.now c.loop-applied.applied c.index-entries-applied.result c.loop-applied-test.true c.index-entries-applied.is));
}
