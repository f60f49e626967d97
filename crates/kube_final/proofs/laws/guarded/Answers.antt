use Rattle.kube_final.proofs.LifeLaws.{arrival_keeps_others, goes_after_cleanup}
use Rattle.kube_final.proofs.laws.guarded.Goals as goal

pub returns-clause-cleaned : goal.returns-clause-cleaned
returns-clause-cleaned c n _ started gone = goes_after_cleanup c.args.name.now c.args.life.now n c.requires.valid started gone

pub returns-clause-others : goal.returns-clause-others
returns-clause-others c front back send _ = arrival_keeps_others c.args.name.now front send
