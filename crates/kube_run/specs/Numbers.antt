-- The numbers that the program ends with, and what is told on standard error.
use Rattle.std.specs.Prelude.{ℕ, List, [], codes}
use Rattle.kube_run.specs.declared.status.Status.{Status}
use Rattle.kube_run.specs.declared.status.Status.TheVariants.{Done, Usage, BadScript, BadRun, ReadFault, WriteFault, NoMemory}

abbrev pub number_of : Status → ℕ
number_of Done = 0
number_of Usage = 2
number_of BadScript = 3
number_of BadRun = 4
number_of ReadFault = 5
number_of WriteFault = 6
number_of NoMemory = 7

abbrev pub line_of : Status → List ℕ
line_of ReadFault = codes "standard input could not be read"
line_of WriteFault = codes "standard output could not be written"
line_of NoMemory = codes "there was no memory"
line_of Done = []
line_of Usage = []
line_of BadScript = []
line_of BadRun = []
