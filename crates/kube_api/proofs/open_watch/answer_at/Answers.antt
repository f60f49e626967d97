use Rattle.std.proofs.Common.{arith}
use Rattle.std.proofs.lemmas.Grind.{common_steps}
use Rattle.kube_api.proofs.PlaceLemmas.{answer-drop}
use Rattle.kube_api.proofs.open_watch.answer_at.Goals as goal

pub returns-in_ok-event-in-List : goal.returns-in_ok-event-in-List
returns-in_ok-event-in-List g c = grind (arith, common_steps, answer-drop)
