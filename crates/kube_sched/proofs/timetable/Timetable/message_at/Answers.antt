use Rattle.std.proofs.Common.{◌∙◌, sym, ap, option_map}
use Rattle.std.specs.Map.Iter.{deref_pair}
use Rattle.kube_sched.proofs.Kept.{kept-within, kept-here, kept-queued, kept-message}
use Rattle.kube_sched.proofs.timetable.Timetable.message_at.Goals as goal

pub index-requires : goal.index-requires
index-requires g c = kept-within g.T.PartialEq.eq g.met.T.Eq.laws c.args.self.now c.requires.kept c.args.place c.requires.place

pub place_of-row-requires-clause-there : goal.place_of-row-requires-clause-there
place_of-row-requires-clause-there g c =
    kept-queued g.T.PartialEq.eq g.met.T.Eq.laws c.args.self.now c.requires.kept c.args.place c.index.result.now
    (kept-here g.T.PartialEq.eq g.met.T.Eq.laws c.args.self.now c.requires.kept c.args.place c.index.result.now c.requires.place c.index.ensures)

pub returns : goal.returns
returns g c =
    kept-message g.T.PartialEq.eq g.met.T.Eq.laws c.args.self.now c.requires.kept c.args.place c.index.result.now c.place_of-row.result
    (kept-here g.T.PartialEq.eq g.met.T.Eq.laws c.args.self.now c.requires.kept c.args.place c.index.result.now c.requires.place c.index.ensures)
    c.place_of-row.ensures.place c.in-Some.message.now c.in-Some._entry.now
    (sym c.get_index.ensures.entry ∙ ap (option_map deref_pair) c.in-Some.is)
