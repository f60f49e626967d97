use Rattle.std.proofs.Common.{◌≡◌, ◌<◌, ◌^◌, ◌∙◌, ap, ap₂, sym, length, vec_len, map, arith}
use Rattle.std.specs.List.{list_any}
use Rattle.std.proofs.lemmas.List.{length-map, with_items_is}
use Rattle.kube_reflect.specs.Lags.{reaches, raised_all, numbers_from, one_more}
use Rattle.kube_reflect.proofs.Living.{raised-each, numbers-raised}
use Rattle.kube_reflect.proofs.lags.Lags.raise.Goals as goal

pub returns : goal.returns
returns c =
    let places = c.self.inside.places.items in
    let room : c.args.room < 2 ^ 32 = omega (arith, c.ranges.room) in
    let low = ap (list_any (reaches c.args.room)) c.self.view_is ∙ c.requires in
    let raised = c.raise_all.ensures ∙ (ap₂ raised_all (c.deref.ensures.value ∙ c.self.invariant) c.deref_mut.ensures.value ∙ raised-each c.args.room places room low) in
    let size : length c.self.inside.places.items ≡ vec_len c.self.inside.places = omega arith in
    with_items_is c.self.inside.places c.raise_all.new.places (ap length raised ∙ (length-map places one_more ∙ size)) ∙ (raised ∙ ap (map one_more) c.self.view_is)

pub invariant_of-self : goal.invariant_of-self
invariant_of-self c =
    let places = c.self.inside.places.items in
    c.self.invariant ∙ sym (ap (numbers_from 0) (returns c ∙ ap (map one_more) (sym c.self.view_is)) ∙ numbers-raised 0 places)
