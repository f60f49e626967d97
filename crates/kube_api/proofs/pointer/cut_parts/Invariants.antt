use denote.Shadow.{shadow}
use denote.Text.{Utf8}
use Rattle.std.proofs.Common.{◌≡◌, ◌++◌, length, map}
use Rattle.serde_json.specs.Find.{unescape}
use Rattle.kube_api.specs.Patches.{cut}
use Rattle.kube_api.proofs.pointer.cut_parts.Given as goal

abbrev pub invariant-parts : goal.invariant-parts
invariant-parts l = (l.parts ++ map unescape (cut l.rest) ≡ map unescape (cut l.path)) × shadow (Utf8 l.rest)

abbrev pub decreases-parts : goal.decreases-parts
decreases-parts l = length l.rest
