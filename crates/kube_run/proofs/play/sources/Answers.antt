use Rattle.std.proofs.Common.{◌≡◌, ◌++◌, [], ◌∷◌, List, map, sym, ap, subst, ◌∙◌}
use Rattle.std.specs.List.{AllZip}
use Rattle.std.proofs.lemmas.List.{map-append, map-id}
use Rattle.std.proofs.lemmas.Iterator.Adapters.{YieldsList-from_vec}
use Rattle.std.proofs.lemmas.Iterator.Consumers.{YieldsList-end}
use Rattle.kube_object.specs.Named.{named_type}
use Rattle.kube_script.specs.Script.{Related}
use Rattle.kube_script.specs.SeenScript.{seen_related}
use Rattle.kube_run.specs.Sources.{IsFirst, Source}
use Rattle.kube_run.proofs.First.{first-push}
use Rattle.kube_run.proofs.play.sources.Goals as goal

pub loop-one-init : goal.loop-one-init
loop-one-init c = subst (λ (ts : List Source). AllZip (IsFirst (named_type c.args.kind.now)) [] ts) (sym c.new-list.ensures) tt

pub loop-one-preserved : goal.loop-one-preserved
loop-one-preserved c =
    let root = named_type c.args.kind.now in
    let rows = map seen_related c.loop-one.yielded in
    let row = seen_related c.in-Some.one in
    subst (λ (rs : List Related). AllZip (IsFirst root) rs c.push.new.self.items.items) (sym (map-append seen_related c.loop-one.yielded (c.in-Some.one ∷ [])))
    (subst (λ (ts : List Source). AllZip (IsFirst root) (rows ++ row ∷ []) ts) (sym c.in_ok-push.ensures.ok)
    (first-push root rows c.loop-one.list.items.items row c.in_ok-source.field-0 c.loop-one.invariant c.in_ok-source.ensures))

pub returns : goal.returns
returns c =
    let gives = c.into_iter-one-iterator.ensures.into_iter_gives in
    let road = YieldsList-from_vec {s = c.into_iter-one-iterator.result} c.args.related.items gives.0 (gives.1 ∙ c.args.related.ok.0) in
    let whole = YieldsList-end road c.loop-one.yielded c.loop-one.one-iterator c.loop-one.yielded_by _ c.next.new.self c.in-None.is c.next.ensures.steps in
    let all = sym (map-id c.loop-one.yielded) ∙ whole.0 in
    subst (λ (rows : List Related). AllZip (IsFirst (named_type c.args.kind.now)) rows c.loop-one.list.items.items) (ap (map seen_related) all) c.loop-one.invariant
