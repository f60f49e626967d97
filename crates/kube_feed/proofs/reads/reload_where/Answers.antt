use Rattle.std.proofs.Common.{None, Some, refl, sym, subst, append-nil}
use Rattle.std.proofs.lemmas.Result.{on_ok_weaker}
use Rattle.kube_core.specs.Pendings.{Stands}
use Rattle.kube_feed.proofs.Reading.{later-none}
use Rattle.kube_feed.proofs.reads.reload_where.Goals as goal

pub returns-then-not-asked-clause-same : goal.returns-then-not-asked-clause-same
returns-then-not-asked-clause-same g c = later-none c.args.reader.now

pub returns-then-not-asked-clause-reloaded : goal.returns-then-not-asked-clause-reloaded
returns-then-not-asked-clause-reloaded g c = (
  None,
  refl,
  sym c.if-not-asked.true,
  λ core qs rs is s. subst (λ es. Stands g.K.Resource.type_of core c.args.pending.now es rs) (sym (append-nil qs)) s,
)

pub returns-clause-reloaded : goal.returns-clause-reloaded
returns-clause-reloaded g c = on_ok_weaker c.reload.result (λ k. (Some k.0, k.1, sym c.if-not-asked.false, k.2)) c.reload.ensures.reloaded
