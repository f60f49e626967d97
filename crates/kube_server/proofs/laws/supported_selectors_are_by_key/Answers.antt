use Rattle.kube_server.proofs.KeyLemmas.{selected_by-key}
use Rattle.kube_server.proofs.laws.supported_selectors_are_by_key.Goals as goal

pub returns : goal.returns
returns g c = λ meta s a b x y same. selected_by-key meta s a b x y same
