use Rattle.std.proofs.Common.{◌∙◌, ap, sym, is_some, nat_eq}
use Rattle.std.specs.Prelude.{position}
use Rattle.kube_sched.proofs.Timetables.{not-listed, row-found}
use Rattle.kube_sched.proofs.table.Table.place_of.Goals as goal

pub unreachable-requires : goal.unreachable-requires
unreachable-requires g c =
    not-listed c.args.self.now.entries.entries c.args.self.now.numbers.keys c.args.number c.requires.indexed.numbered (sym c.get_index_of.ensures.found ∙ ap is_some c.in-None.is)
    c.requires.there

pub returns-clause-place : goal.returns-clause-place
returns-clause-place g c =
    row-found c.args.self.now.entries.entries c.args.number c.in-Some.place
    (ap (position (nat_eq c.args.number)) (sym c.requires.indexed.numbered) ∙ sym c.get_index_of.ensures.index ∙ c.in-Some.is)
