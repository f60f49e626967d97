use Rattle.std.proofs.Common.{[]}
use Rattle.kube_alike.proofs.StartsTurns.{go-alike, start}
use Rattle.kube_alike.proofs.starts.alike_start_alike.Goals as goal

pub returns-clause-taken : goal.returns-clause-taken
returns-clause-taken g c w w' set policies ts ts' ms ms' k k' same alike = (go-alike w w' set policies [] [] ts ts' ms ms' (start w w') k k' same alike).taken

pub returns-clause-running : goal.returns-clause-running
returns-clause-running g c w w' set policies ts ts' ms ms' k k' same alike n = ((go-alike w w' set policies [] [] ts ts' ms ms' (start w w') k k' same alike).after n).running
