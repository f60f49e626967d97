-- Events have names where the objects of their exchange that must become references do.
use Rattle.std.proofs.Common.{◌≡◌, Bool, true, false, not, ◌&&◌, ◌||◌, List, [], ◌∷◌, if◌then◌else◌, refl, sym, ap, ◌∙◌}
use Rattle.std.specs.List.{list_all, flat_map}
use Rattle.std.proofs.lemmas.List.Folds.{list_all-append}
use Rattle.kube_meta.specs.declared.metadata.ObjectMeta.{ObjectMeta}
use Rattle.kube_meta.specs.Keys.{is_named}
use Rattle.kube_model.specs.World.{Settings}
use Rattle.kube_model.specs.History.{Exchange}
use Rattle.kube_model.specs.Owed.{mark}
use Rattle.kube_model.specs.Fits.{has_references}
use Rattle.kube_watch.specs.declared.event.Event.{Event}
use Rattle.kube_watch.specs.declared.event.Event.TheVariants.{Apply, Delete, Init, InitApply, InitDone}
use Rattle.kube_watch.specs.Agrees.{Agrees, objects_of}
use Rattle.kube_watch.specs.Stands.{row_of}
use Rattle.kube_reflect.specs.Cached.{has_name}

and-true : (b : Bool) → b ≡ (b && true)
and-true true = refl
and-true false = refl

module _ {O : Type 0} (meta : O → ObjectMeta) where
  abbrev named : O → Bool
  named o = is_named (meta o)

  one : (e : Event O) → has_name meta e ≡ list_all named (objects_of e)
  one (Apply o) = and-true (is_named (meta o))
  one (Delete o) = and-true (is_named (meta o))
  one Init = refl
  one (InitApply o) = and-true (is_named (meta o))
  one InitDone = refl

  of-objects : (es : List (Event O)) → list_all (has_name meta) es ≡ list_all named (flat_map objects_of es)
  of-objects [] = refl
  of-objects (e ∷ es) =
      ap (λ b. b && list_all (has_name meta) es) (one e)
      ∙ (ap (λ b. list_all named (objects_of e) && b) (of-objects es) ∙ sym (list_all-append named (objects_of e) (flat_map objects_of es)))

  pub names-agree : (settings : Settings) (before : List (Exchange O)) (x : Exchange O) → Agrees settings before x
      → list_all (has_name meta) (row_of settings before x).events ≡ (not (has_references (mark before x)) || list_all named x.items)
  names-agree settings before x a = of-objects (row_of settings before x).events ∙ (ap (list_all named) a.objects ∙ go (has_references (mark before x)))
    where
      go : (b : Bool) → list_all named (if b then x.items else []) ≡ (not b || list_all named x.items)
      go true = refl
      go false = refl
