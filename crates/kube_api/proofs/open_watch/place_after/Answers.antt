use Rattle.std.proofs.Common.{arith}
use Rattle.std.proofs.lemmas.Grind.{common_steps}
use Rattle.kube_api.proofs.PlaceLemmas.{left-drop}
use Rattle.kube_api.proofs.open_watch.place_after.Goals as goal

pub returns-in-List : goal.returns-in-List
returns-in-List g c = grind (arith, common_steps, left-drop)
