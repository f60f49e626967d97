use Rattle.std.proofs.Common.{false}
use Rattle.kube_history.specs.CoreEvents.{root_answers, starting}
use Rattle.kube_history.proofs.Starts.{same-listing}
use Rattle.kube_history.proofs.laws.listing_is_of_any_settings.Goals as goal

pub returns : goal.returns
returns g c settings es = same-listing (starting false) settings (root_answers es)
