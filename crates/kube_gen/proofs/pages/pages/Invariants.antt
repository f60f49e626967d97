use Rattle.std.proofs.Common.{◌≡◌, map}
use Rattle.std.specs.List.{range_with_len}
use Rattle.kube_meta.specs.declared.poll.Polled.TheVariants.{Ready}
use Rattle.kube_api.specs.Answers.{list_answer}
use Rattle.kube_gen.specs.Generated.{page_at}
use Rattle.kube_gen.proofs.pages.pages.Given as goal

-- as far as the loop has come
abbrev pub invariant-loop-number : goal.invariant-loop-number
invariant-loop-number l = map (λ p. list_answer (Ready p)) l.pages.items ≡ map (page_at l.whose l.count) (range_with_len 0 l.number)
