use Rattle.std.proofs.Common.{sym, ◌∙◌}
use Rattle.kube_server.proofs.NumberLemmas.{token_split}
use Rattle.kube_server.proofs.token.read_token.Goals as goal

pub returns-in-Some : goal.returns-in-Some
returns-in-Some c =
    c.both_numbers.ensures ∙ sym (rw c.in-Some.is at (token_split c.args.text.now c.split_once.result c.split_once.ensures.cases))

pub returns-in-None : goal.returns-in-None
returns-in-None c = sym (rw c.in-None.is at (token_split c.args.text.now c.split_once.result c.split_once.ensures.cases))
