use Rattle.kube_reflect.proofs.places.position.Given as goal

abbrev pub ghosts-look_up_by : goal.ghosts-look_up_by
ghosts-look_up_by g a = record { name = a.blank.name; parts = a.blank.parts }
