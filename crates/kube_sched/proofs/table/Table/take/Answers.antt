use Rattle.std.proofs.Common.{◌<◌, length, ap, arith, ◌∙◌}
use Rattle.std.proofs.lemmas.List.{length-map}
use Rattle.kube_sched.specs.Tables.{number_of}
use Rattle.kube_sched.proofs.Indexing.{taken-by, taken-one, indexed-less}
use Rattle.kube_sched.proofs.table.Table.take.Goals as goal

pub returns-clause-taken : goal.returns-clause-taken
returns-clause-taken g c =
    taken-by c.swap_remove_index-2.result c.args.self.now.entries.entries c.swap_remove_index-2.new.self.entries c.args.place c.in-Some.message c.in-Some._entry
    c.swap_remove_index-2.ensures.entry c.swap_remove_index-2.ensures.entries c.in-Some.is

pub returns-clause-indexed : goal.returns-clause-indexed
returns-clause-indexed g c =
    let rows = c.args.self.now.entries.entries in
    let long = ap length c.requires.indexed.numbered ∙ length-map rows number_of in
    let here = c.requires.place in
    let within : c.args.place < length c.args.self.now.numbers.keys = omega arith in
    let row = taken-one c.swap_remove_index-2.result rows c.swap_remove_index-2.new.self.entries c.args.place here c.swap_remove_index-2.ensures.entry c.swap_remove_index-2.ensures.entries in
    let number = taken-one c.swap_remove_index.result c.args.self.now.numbers.keys c.swap_remove_index.new.self.keys c.args.place within c.swap_remove_index.ensures.key c.swap_remove_index.ensures.keys in
    indexed-less g.T.PartialEq.eq rows c.swap_remove_index-2.new.self.entries c.args.self.now.numbers.keys c.swap_remove_index.new.self.keys c.requires.indexed
    c.swap_remove_index.ensures.unique c.swap_remove_index-2.ensures.unique c.args.place row.0 number.0 here row.1 number.1
