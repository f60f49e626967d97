-- What is answered for bytes is what was wanted, unless memory ran out.
use Rattle.std.specs.Prelude.{◌≡◌, Result, Ok, Err}
use Rattle.kube_meta.specs.declared.object_fault.ObjectFault.TheVariants as faults
use Rattle.kube_script.specs.Script.{Script}
use Rattle.kube_script.specs.SeenScript.{seen_script}
use Rattle.kube_script.specs.Whole.{Cause, too_long, syntax_fault, faulty}
use Rattle.kube_script.specs.declared.load.LoadError.{LoadError}
use Rattle.kube_script.specs.declared.load.LoadError.TheVariants as errors
use Rattle.kube_script.specs.declared.script.Script as held

abbrev pub Refuses : LoadError → Result Script Cause → Type 0
Refuses errors.NoMemory wanted = Unit {0}
Refuses errors.TooLong wanted = wanted ≡ Err too_long
Refuses errors.Syntax wanted = wanted ≡ Err syntax_fault
Refuses (errors.Shape place) wanted = wanted ≡ Err (faulty (faults.Shape place))
Refuses (errors.Fraction place) wanted = wanted ≡ Err (faulty (faults.Fraction place))

abbrev pub Answers : Result held.Script LoadError → Result Script Cause → Type 0
Answers (Ok s) wanted = wanted ≡ Ok (seen_script s)
Answers (Err e) wanted = Refuses e wanted
