use Rattle.std.proofs.Common.{◌++◌, [], length, sym, subst, append-nil}
use Rattle.std.proofs.lemmas.Result.{on_ok_weaker}
use Rattle.kube_asks.specs.Asking.{Asking, AskStands, SourcesStand}
use Rattle.kube_asks.proofs.Pushes.{kept-begun}
use Rattle.kube_asks.proofs.asks.Asks.begin.Goals as goal

pub returns-clause-stands : goal.returns-clause-stands
returns-clause-stands g c =
    on_ok_weaker c.begin_turn.result
    (λ begun w last before mine h.
    subst (λ (a : Asking g.row.R.Denot g.row.S.Denot g.row.B.Denot).
    AskStands w (g.R.RootSource.stands a.root) (g.S.RelatedSet.stands a.related) (length (g.S.RelatedSet.feeds c.args.self.now.related)) c.args.budget.items (before ++ mine) [] a.kept)
    (sym begun)
    (record {
      sources = subst (SourcesStand (g.R.RootSource.stands c.args.self.now.root) (g.S.RelatedSet.stands c.args.self.now.related) (length (g.S.RelatedSet.feeds c.args.self.now.related))) (sym (append-nil (before ++ mine))) h.sources;
      kept = kept-begun w last c.args.budget.items before mine c.args.self.now.kept h.kept;
    }))
    c.begin_turn.ensures.begun
