use Rattle.std.proofs.Common.{◌≡◌, ◌<◌, inl, inr, Some, Option, ℕ, sym, subst, ◌∙◌, arith}
use Rattle.kube_run.specs.Commands.{IsNumber}
use Rattle.kube_run.proofs.Words.{out-within}
use Rattle.kube_run.proofs.command.number_within.Goals as goal

pub returns-then-number-eq0 : goal.returns-then-number-eq0
returns-then-number-eq0 c =
    out-within c.args.most c.in_ok-number.number c.args.word.now c.ranges.most.fits c.in_ok-number.ensures (inl c.if-number-eq0.true)

pub returns-then-number-from : goal.returns-then-number-from
returns-then-number-from c =
    out-within c.args.most c.in_ok-number.number c.args.word.now c.ranges.most.fits c.in_ok-number.ensures
    (inr (subst (λ m. m < c.in_ok-number.number) c.from.ensures c.if-number-from.true))
