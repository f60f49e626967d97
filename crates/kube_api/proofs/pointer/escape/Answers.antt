use Rattle.std.proofs.Common.{arith}
use Rattle.std.proofs.lemmas.Str.Pattern.{strip_prefix_char}
use Rattle.kube_api.proofs.Pointers.{tilde, slash, no_escape}
use Rattle.kube_api.proofs.pointer.escape.Goals as goal

pub returns-in-Some-clause-meaning : goal.returns-in-Some-clause-meaning
returns-in-Some-clause-meaning c =
    let after = c.args.after.now in
    let begins = rw c.in-Some.is at (strip_prefix_char 48 after c.strip_prefix.result c.strip_prefix.ensures.cases (omega arith)) in
    tilde after c.in-Some.more.now begins

pub returns-in-Some-strip_prefix-clause-meaning : goal.returns-in-Some-strip_prefix-clause-meaning
returns-in-Some-strip_prefix-clause-meaning c =
    let after = c.args.after.now in
    let begins = rw c.in-Some-strip_prefix.is at (strip_prefix_char 49 after c.strip_prefix-2.result c.strip_prefix-2.ensures.cases (omega arith)) in
    slash after c.in-Some-strip_prefix.more.now begins

pub returns-in-None-clause-meaning : goal.returns-in-None-clause-meaning
returns-in-None-clause-meaning c =
    let after = c.args.after.now in
    let first = rw c.in_default.is at (strip_prefix_char 48 after c.strip_prefix.result c.strip_prefix.ensures.cases (omega arith)) in
    let second = rw c.in-None.is at (strip_prefix_char 49 after c.strip_prefix-2.result c.strip_prefix-2.ensures.cases (omega arith)) in
    no_escape after first second
