use Rattle.kube_model.proofs.Histories.{events-push}
use Rattle.kube_history.proofs.laws.turn_grows_the_queue.Goals as goal

pub returns : goal.returns
returns g c w h s = events-push w h s
