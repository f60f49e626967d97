use Rattle.std.proofs.Common.{sym, ◌∙◌}
use Rattle.kube_asks.specs.Kept.{may_ask_by}
use Rattle.kube_asks.proofs.Bools.{find-skip}
use Rattle.kube_asks.proofs.asks.Asks.first_between.Goals as goal

pub loop-source-preserved : goal.loop-source-preserved
loop-source-preserved g c =
    find-skip (may_ask_by c.args.self.now.kept) c.loop-source.source c.args.to c.loop-source-test.true (sym c.may_ask.ensures ∙ c.if-may_ask.false) ∙ c.loop-source.invariant
