use Rattle.std.proofs.Common.{arith}
use Rattle.std.proofs.lemmas.Grind.{common_steps}
use Rattle.kube_api.proofs.TalkLemmas.{talk_of-append}
use Rattle.kube_api.proofs.recording.Talk.push.Goals as goal

pub returns-clause-ok : goal.returns-clause-ok
returns-clause-ok g c = grind (arith, common_steps, talk_of-append)
