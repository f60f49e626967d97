use Rattle.std.proofs.Common.{take_all, rules}
use Rattle.std.proofs.lemmas.List.Sums.{fold-append}
use Rattle.kube_streams.specs.Properties.{text_bytes}
use Rattle.kube_streams.proofs.Folds.{more}
use Rattle.kube_streams.proofs.fold.Fold.list.Goals as goal

pub loop-text-preserved : goal.loop-text-preserved
loop-text-preserved c = search (rules, more text_bytes)

pub returns : goal.returns
returns c = search (rules, take_all, fold-append)
