use Rattle.std.proofs.Common.{◌≡◌, ◌++◌}
use Rattle.kube_meta.specs.Pairs.{pairs_of}
use Rattle.kube_meta.specs.Writing.{text_members}
use Rattle.kube_text.specs.Shown.{IsMore, member_tokens}
use Rattle.kube_text.proofs.metadata.TextMapShow.show.Given as goal

abbrev pub invariant-loop-name : goal.invariant-loop-name
invariant-loop-name l =
    (l.out.before ≡ l.initial.out.before)
    × (l.out.tokens ++ member_tokens (text_members (pairs_of l.name-iterator)) ≡ l.initial.out.tokens ++ member_tokens (text_members (pairs_of l.initial.name-iterator)))
    × IsMore l.initial.out.tokens l.out.tokens
