use Rattle.std.proofs.Common.{◌∙◌, arith, rules}
use Rattle.std.proofs.lemmas.Str.Pattern.{split_parts}
use Rattle.kube_api.proofs.Pointers.{part_read, last_read}
use Rattle.kube_api.proofs.pointer.cut_parts.Goals as goal

pub parts-preserved : goal.parts-preserved
parts-preserved c =
    let rest = c.parts.rest.now in
    let cut = rw c.in-Some.is at (split_parts 47 rest c.split_once.result c.split_once.ensures.cases (omega arith)) in
    (part_read c.parts.parts c.push.new.self rest c.in-Some.part.now c.in-Some.more.now c.in_ok-unescaped.field-0 cut.0 cut.1 c.in_ok-unescaped.ensures c.in_ok-push.ensures.ok ∙ c.parts.invariant.0, search rules)

pub returns : goal.returns
returns c =
    let rest = c.parts.rest.now in
    let whole = rw c.in_default.is at (split_parts 47 rest c.split_once.result c.split_once.ensures.cases (omega arith)) in
    last_read c.parts.parts c.push-2.new.self rest c.in_ok-unescaped-2.field-0 whole c.in_ok-unescaped-2.ensures c.in_ok-push-2.ensures.ok ∙ c.parts.invariant.0
