use Rattle.std.proofs.Common.{◌≡◌, ◌++◌, map, drop}
use Rattle.kube_text.specs.Shown.{IsMore, item_tokens}
use Rattle.kube_text.proofs.show.ListShow.show.Given as goal

abbrev pub invariant-loop-value : goal.invariant-loop-value
invariant-loop-value g l = (l.out.before ≡ l.initial.out.before) × (l.out.tokens ++ item_tokens (map g.T.Show.data_of (map g.T.Show.seen (drop l.value-index l.value-items))) ≡ l.initial.out.tokens ++ item_tokens (map g.T.Show.data_of (map g.T.Show.seen l.value-items))) × IsMore l.initial.out.tokens l.out.tokens
