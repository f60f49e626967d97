use Rattle.std.proofs.Common.{◌≡◌, ◌∙◌, false, is_err, rules, nat_eq}
use Rattle.indexmap.specs.IndexSet.{insert_key}
use Rattle.indexmap.proofs.CallerLemmas.{insert_entry-new}
use Rattle.kube_sched.proofs.Indexing.{on-ok, if-ok, indexed-more}
use Rattle.kube_sched.proofs.table.Table.add.Goals as goal

pub returns-clause-entries : goal.returns-clause-entries
returns-clause-entries g c =
    let ok : is_err c.insert.result ≡ false = search rules in
    on-ok c.insert.result _ ok c.insert.ensures.entries
    ∙ insert_entry-new g.T.PartialEq.eq c.args.self.now.entries c.args.message c.args.entry c.requires.absent

pub returns-clause-indexed : goal.returns-clause-indexed
returns-clause-indexed g c =
    let ok : is_err c.insert-2.result ≡ false = search rules in
    indexed-more g.T.PartialEq.eq c.args.self.now.entries.entries c.insert.new.self.entries c.args.self.now.numbers.keys c.insert-2.new.self.keys c.requires.indexed
    c.insert-2.ensures.unique c.insert.ensures.unique (c.args.message, c.args.entry) c.requires.number (returns-clause-entries g c)
    (if-ok c.insert-2.result (c.insert-2.new.self.keys ≡ insert_key nat_eq c.args.self.now.numbers.keys c.args.entry.number) ok c.insert-2.ensures.keys)
