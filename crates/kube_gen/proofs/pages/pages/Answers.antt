use Rattle.std.proofs.Common.{◌≡◌, ◌++◌, ◌∷◌, ◌+◌, [], Ok, arith, rules}
use Rattle.kube_meta.specs.declared.poll.Polled.TheVariants.{Ready}
use Rattle.kube_api.specs.Answers.{list_answer}
use Rattle.kube_gen.specs.Generated.{page_at}
use Rattle.kube_gen.proofs.Steps.{mapped-more}
use Rattle.kube_gen.proofs.pages.pages.Goals as goal

pub loop-number-preserved : goal.loop-number-preserved
loop-number-preserved c =
    let xs = c.loop-number.pages.items in
    let x = Ok c.in_ok-page.field-0 in
    let n = c.loop-number.number in
    let pushed : c.push.new.self.items ≡ xs ++ x ∷ [] = search rules in
    mapped-more (page_at c.args.whose c.args.count) (λ p. list_answer (Ready p)) xs c.push.new.self.items x 0 n (n + 1) n pushed c.loop-number.invariant (omega arith) (omega arith) c.in_ok-page.ensures
