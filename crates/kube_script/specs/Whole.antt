-- What bytes are as a script, or why they are none.
use Rattle.std.specs.Prelude.{ℕ, List, length, Option, Some, None, Result, Ok, Err, nat_lt, cond}
use Rattle.std.specs.Str.{is_utf8}
use Rattle.serde_json.specs.Data.{Data}
use Rattle.serde_json.specs.Read.{read}
use Rattle.kube_meta.specs.declared.object_fault.ObjectFault.{ObjectFault}
use Rattle.kube_script.specs.Script.{Script, script_at}

-- in bytes
abbrev pub longest : ℕ
longest = 16777216

pub data Cause : Type 0 where
  too_long : Cause
  syntax_fault : Cause
  faulty : ObjectFault → Cause

abbrev pub as_cause : Result Script ObjectFault → Result Script Cause
as_cause (Ok s) = Ok s
as_cause (Err fault) = Err (faulty fault)

abbrev pub read_of : Option Data → Result Script Cause
read_of None = Err syntax_fault
read_of (Some d) = as_cause (script_at d)

unfoldable pub script_of : List ℕ → Result Script Cause
script_of bytes = cond (nat_lt longest (length bytes)) (Err too_long) (cond (is_utf8 bytes) (read_of (read bytes)) (Err syntax_fault))
