use Rattle.std.proofs.Common.{List, map, string_bytes, sym, subst}
use Rattle.kube_run.specs.Commands.{IsNamed}
use Rattle.kube_run.proofs.Words.{four-of}
use Rattle.kube_run.proofs.command.command_of.Goals as goal

pub returns-in-len4 : goal.returns-in-len4
returns-in-len4 c =
    let these = four-of c.args.words.now c.word-item-then-words-lt5.result c.seed-item.result c.objects-item.result c.turns-item.result c.in-len4.len_at_least c.in-len4.len_below c.word-item-then-words-lt5.is c.seed-item.is c.objects-item.is c.turns-item.is in
    subst (λ ws. IsNamed (map string_bytes ws) c.generate_command.result) (sym these) c.generate_command.ensures
