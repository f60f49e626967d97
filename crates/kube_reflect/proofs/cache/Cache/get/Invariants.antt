use Rattle.kube_reflect.proofs.cache.Cache.get.Given as goal

abbrev pub ghosts-get_by : goal.ghosts-get_by
ghosts-get_by g a = record { name = a.blank.name; parts = a.blank.parts }
