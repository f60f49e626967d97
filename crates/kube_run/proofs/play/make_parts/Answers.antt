use Rattle.std.proofs.Common.{◌≡◌, ◌<◌, map, length, arith}
use Rattle.std.proofs.lemmas.List.{length-map}
use Rattle.kube_object.specs.Named.{named_type}
use Rattle.kube_script.specs.SeenScript.{seen_related}
use Rattle.kube_run.proofs.First.{same-count}
use Rattle.kube_run.proofs.play.make_parts.Goals as goal

pub returns-clause-few_sources : goal.returns-clause-few_sources
returns-clause-few_sources c =
    let rows = c.args.script.related.items in
    let ts = c.in_ok-controller.field-0.asks.related.rest.items.items in
    let same : length ts ≡ length (map seen_related rows) = same-count (named_type c.in_ok-kind.kind) (map seen_related rows) ts c.in_ok-controller.ensures.first.related in
    let rest : length (map seen_related rows) ≡ length rows = length-map rows seen_related in
    let few : c.len-else-len.result < 4294967295 = c.if-len-2.false in
    let long = c.args.script.related.ok.0 in
    let is = c.len-else-len.ensures in
    omega (arith, same, rest, few, long, is)
