use Rattle.std.proofs.Common.{◌≡◌, ◌∙◌, ◌++◌, ◌∷◌, [], ap, sym, subst, arith, map, rules}
use Rattle.std.specs.List.{insert}
use Rattle.std.proofs.lemmas.Grind.{common_steps}
use Rattle.std.proofs.lemmas.List.{map-append}
use Rattle.kube_reflect.specs.Indexes.{references, IsIndex}
use Rattle.kube_reflect.specs.Views.{stored_of}
use Rattle.kube_reflect.proofs.Indexed.{put_last, length-references}
use Rattle.kube_reflect.proofs.Searched.{nowhere, indexed_pushed}
use Rattle.kube_reflect.proofs.stored.push.Goals as goal

pub returns-clause-index : goal.returns-clause-index
returns-clause-index g c =
    let items = c.args.items.now.items in
    let places = c.args.places.now.items in
    let seen = stored_of g.K.Resource.type_of in
    let x = c.args.stored in
    let r = (seen x).0 in
    let pushed : c.push.new.self.items ≡ items ++ x ∷ [] = search rules in
    let is : c.insert.new.self.items ≡ insert places c.args.position c.len-last.result = grind (arith, common_steps) in
    let stored = ap (map seen) pushed ∙ map-append seen items (x ∷ []) in
    subst (λ ps. IsIndex (references (map seen c.push.new.self.items)) ps) (sym is)
    (subst (λ ps. IsIndex (references ps) (insert places c.args.position c.len-last.result)) (sym stored)
    (indexed_pushed seen items places c.requires.index r c.args.position c.requires.searched (seen x).1 c.len-last.result (search rules)))

pub returns-clause-ok : goal.returns-clause-ok
returns-clause-ok g c =
    let items = c.args.items.now.items in
    let places = c.args.places.now.items in
    let seen = stored_of g.K.Resource.type_of in
    let x = c.args.stored in
    let r = (seen x).0 in
    let pushed : c.push.new.self.items ≡ items ++ x ∷ [] = search rules in
    ap (map seen) pushed
    ∙ (map-append seen items (x ∷ [])
    ∙ put_last seen (map seen items) (seen x)
    (λ q h. nowhere seen items places c.requires.index r c.args.position c.requires.searched q (let n = length-references seen items in omega arith)))
