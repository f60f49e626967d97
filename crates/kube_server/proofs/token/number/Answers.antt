use Rattle.std.proofs.Common.{sym, ◌∙◌}
use Rattle.kube_server.proofs.NumberLemmas.{parse_number}
use Rattle.kube_server.proofs.token.number.Goals as goal

pub returns : goal.returns
returns c =
    let other = rw c.as_bytes.ensures.value at (sym c.is_signed_or_padded.ensures ∙ c.if-is_signed_or_padded.false) in
    c.ok.ensures.value ∙ parse_number c.args.text.now c.parse.result c.parse.ensures.value.0 other
