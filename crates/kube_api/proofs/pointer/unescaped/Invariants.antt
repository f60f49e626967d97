use denote.Shadow.{shadow}
use denote.Text.{Utf8}
use Rattle.std.proofs.Common.{◌≡◌, ◌++◌, length, string_bytes}
use Rattle.serde_json.specs.Find.{unescape}
use Rattle.kube_api.proofs.pointer.unescaped.Given as goal

abbrev pub invariant-escapes : goal.invariant-escapes
invariant-escapes l = (string_bytes l.name ++ unescape l.rest ≡ unescape l.part) × shadow (Utf8 l.rest)

abbrev pub decreases-escapes : goal.decreases-escapes
decreases-escapes l = length l.rest
