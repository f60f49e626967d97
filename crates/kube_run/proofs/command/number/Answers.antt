use Rattle.std.proofs.Common.{◌≡◌, false, true, ℕ, sym, subst, ◌∙◌}
use Rattle.kube_run.specs.Commands.{IsNumber}
use Rattle.kube_run.proofs.Words.{is_odd, number-is, odd-is-none}
use Rattle.kube_run.proofs.command.number.Goals as goal

pub returns-then-is_signed_or_padded : goal.returns-then-is_signed_or_padded
returns-then-is_signed_or_padded c =
    let odd : is_odd c.args.word.now ≡ true = rw c.as_bytes.ensures.value at (sym c.is_signed_or_padded.ensures ∙ c.if-is_signed_or_padded.true) in
    odd-is-none c.args.word.now odd

pub returns : goal.returns
returns c =
    let other : is_odd c.args.word.now ≡ false = rw c.as_bytes.ensures.value at (sym c.is_signed_or_padded.ensures ∙ c.if-is_signed_or_padded.false) in
    subst (IsNumber c.args.word.now) (sym c.ok.ensures.value) (number-is c.args.word.now c.parse.result c.parse.ensures.value.0 other)
