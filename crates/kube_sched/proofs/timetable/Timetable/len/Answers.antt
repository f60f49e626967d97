use Rattle.std.proofs.Common.{◌≡◌, ◌∙◌, length, rules}
use Rattle.kube_sched.proofs.Kept.{kept-len}
use Rattle.kube_sched.proofs.timetable.Timetable.len.Goals as goal

pub returns : goal.returns
returns g c =
    let all : c.len.result ≡ length c.args.self.now.table.entries.entries = search rules in
    all ∙ kept-len g.T.PartialEq.eq g.met.T.Eq.laws c.args.self.now c.requires.kept
