use Rattle.std.proofs.Common.{◌≡◌, ◌∙◌, length, rules}
use Rattle.kube_sched.proofs.Kept.{kept-waiting_len}
use Rattle.kube_sched.proofs.timetable.Timetable.waiting_len.Goals as goal

pub returns : goal.returns
returns g c =
    let all : c.len.result ≡ length c.args.self.now.waiting.items = search rules in
    all ∙ kept-waiting_len g.T.PartialEq.eq g.met.T.Eq.laws c.args.self.now c.requires.kept
