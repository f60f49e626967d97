use Rattle.std.proofs.Common.{◌++◌, string_bytes, sym, ap, ◌∙◌, arith, rules}
use Rattle.std.proofs.lemmas.Str.Pattern.{split_parts}
use Rattle.kube_api.proofs.Pointers.{escape_read, plain_whole}
use Rattle.kube_api.proofs.pointer.unescaped.Goals as goal

pub escapes-preserved : goal.escapes-preserved
escapes-preserved c =
    let rest = c.escapes.rest.now in
    let parts = rw c.in-Some.is at (split_parts 126 rest c.split_once.result c.split_once.ensures.cases (omega arith)) in (
      escape_read rest c.in-Some.before.now c.in-Some.after.now c.escape.result.0.now c.escape.result.1.now (string_bytes c.escapes.name) (string_bytes c.push_str.new.self) (string_bytes c.push_str-in-Some.new.self)
          parts.0 parts.1 c.escape.ensures.meaning c.in_ok-push_str.ensures.bytes c.in_ok-push_str-2.ensures.bytes ∙ c.escapes.invariant.0,
      search rules,
    )

pub returns : goal.returns
returns c =
    let rest = c.escapes.rest.now in
    let plain = rw c.in_default.is at (split_parts 126 rest c.split_once.result c.split_once.ensures.cases (omega arith)) in
    c.from.ensures ∙ c.in_ok-push_str-3.ensures.bytes ∙ ap (λ u. string_bytes c.escapes.name ++ u) (sym (plain_whole rest plain)) ∙ c.escapes.invariant.0
