use Rattle.kube_sched.proofs.schedule.Scheduler.let_wait.Given as goal

abbrev pub ghosts-settle_by : goal.ghosts-settle_by
ghosts-settle_by g a = record { name = a.blank.name; parts = a.blank.parts }
