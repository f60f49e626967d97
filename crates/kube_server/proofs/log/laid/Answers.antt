use Rattle.std.proofs.Common.{◌≡◌, map, take, subst, ◌∙◌}
use Rattle.std.specs.Arc.{arc_value}
use Rattle.std.specs.Result.{IfOk}
use Rattle.kube_meta.specs.declared.dynamic.DynamicObject.{DynamicObject}
use Rattle.kube_server.specs.History.{State, objects_of, state_of}
use Rattle.kube_server.specs.Servers.{meta_of}
use Rattle.kube_server.specs.Stored.{change_of}
use Rattle.kube_server.proofs.LogLemmas.{state_at-first}
use Rattle.kube_server.proofs.log.laid.Goals as goal

pub returns-then-revision-entries-clause-laid : goal.returns-then-revision-entries-clause-laid
returns-then-revision-entries-clause-laid c =
    let made : c.in_ok-objects.objects ≡ state_of meta_of (map change_of (take c.args.revision c.args.entries.now)) = c.in_ok-objects.ensures in
    subst (λ (s : State DynamicObject). IfOk c.all.result (λ v. map arc_value v.items ≡ objects_of s)) (made ∙ state_at-first c.args.entries.now c.args.revision) c.all.ensures
