use Rattle.kube_lease.proofs.Claims.{one_leads_alone}
use Rattle.kube_lease.proofs.ElectionLaws.{one_acts, one_leads}
use Rattle.kube_lease.proofs.laws.one_holder.Goals as goal

pub returns-clause-terms : goal.returns-clause-terms
returns-clause-terms c front back parts k d term u v x y = one_leads c.args.candidates.now c.args.election.now front back c.requires.entrants c.requires.valid parts k d term u v x y

pub returns-clause-acting : goal.returns-clause-acting
returns-clause-acting c front back parts k d s t u v x y early late = one_acts c.args.candidates.now c.args.election.now front back c.requires.entrants c.requires.valid parts k d s t u v x y early late

pub returns-clause-leading : goal.returns-clause-leading
returns-clause-leading c front back parts k d s t x y f g = one_leads_alone c.args.candidates.now c.args.election.now front back c.requires.entrants c.requires.valid parts k d s t x y f g
