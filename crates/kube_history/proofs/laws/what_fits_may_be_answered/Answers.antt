use Rattle.kube_history.proofs.Answerable.{answerable, shaped}
use Rattle.kube_history.proofs.laws.what_fits_may_be_answered.Goals as goal

pub returns : goal.returns
returns g c w settings watched ds at x f k n = answerable w settings watched ds at x (shaped w ds f) k n
