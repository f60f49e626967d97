use Rattle.std.proofs.Common.{◌≡◌, List, ◌++◌, String, Global}
use Rattle.std.specs.Fmt.{HasWritten, IsPlainFormatter}
use Rattle.kube_meta.specs.Selectors.{with_commas}
use Rattle.kube_meta.specs.Texts.{texts_of}
use Rattle.kube_meta.proofs.Commas.{comma_after}
use Rattle.kube_meta.proofs.selector.write_set.Given as goal

abbrev pub invariant-loop-value : goal.invariant-loop-value
invariant-loop-value g l =
    (done : List (String Global)) × (l.initial.value-iterator ≡ done ++ l.value-iterator) × (l.separator ≡ comma_after (texts_of done))
    × (IsPlainFormatter l.initial.f → HasWritten g.W.Write.write_str_gives l.initial.f (with_commas (texts_of done)) l.f)
