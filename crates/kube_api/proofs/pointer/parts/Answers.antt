use Rattle.std.proofs.Common.{sym, arith}
use Rattle.std.proofs.lemmas.Str.Pattern.{strip_prefix_char}
use Rattle.kube_api.proofs.Pointers.{no_slash}
use Rattle.kube_api.proofs.pointer.parts.Goals as goal

pub returns-in-None : goal.returns-in-None
returns-in-None c =
    let path = c.args.path.now in
    let begins = rw c.in-None.is at (strip_prefix_char 47 path c.strip_prefix.result c.strip_prefix.ensures.cases (omega arith)) in
    sym (no_slash path c.if-is_empty.ensures begins)
