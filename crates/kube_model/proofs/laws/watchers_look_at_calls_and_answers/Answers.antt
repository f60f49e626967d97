use Rattle.kube_model.proofs.ShapeLemmas.{initial-shape, seen-shape, owed-shape, silent-shape}
use Rattle.kube_model.proofs.laws.watchers_look_at_calls_and_answers.Goals as goal

pub returns-clause-initial : goal.returns-clause-initial
returns-clause-initial g c xs = initial-shape _ xs

pub returns-clause-seen : goal.returns-clause-seen
returns-clause-seen g c xs = seen-shape _ xs

pub returns-clause-owed : goal.returns-clause-owed
returns-clause-owed g c settings xs = owed-shape _ settings xs

pub returns-clause-silence : goal.returns-clause-silence
returns-clause-silence g c ds = silent-shape _ ds
