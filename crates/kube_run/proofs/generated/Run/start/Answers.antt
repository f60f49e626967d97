use Rattle.std.proofs.Common.{map, ap}
use Rattle.kube_meta.specs.Keys.{reference_of}
use Rattle.kube_object.specs.Named.{named_type}
use Rattle.kube_script.specs.SeenScript.{seen_script}
use Rattle.kube_run.specs.GeneratedRun.{input_of}
use Rattle.kube_run.proofs.Reaching.{reached-start}
use Rattle.kube_run.proofs.generated.Run.start.Goals as goal

pub invariant_of-result : goal.invariant_of-result
invariant_of-result c =
    let parts = c.in_ok-controller in
    reached-start _ _ _ _ (seen_script c.in_ok-script.script) (input_of c.args.seed c.args.objects c.args.turns) parts.field-0.controller parts.field-0.after_fault (map (reference_of named_type) c.new.result.items) c.none.result
    c.in_ok-script.ensures parts.ensures.stands parts.ensures.first parts.ensures.after_fault (ap (map (reference_of named_type)) c.new.ensures.items) c.none.ensures
