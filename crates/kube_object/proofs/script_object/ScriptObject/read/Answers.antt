use Rattle.kube_meta.specs.Reading.{seen_object}
use Rattle.kube_object.proofs.Floats.{read_whole}
use Rattle.kube_object.proofs.script_object.ScriptObject.read.Goals as goal

pub new-requires : goal.new-requires
new-requires c = read_whole _ (seen_object c.in-Ok.object) c.in-Ok.ensures
