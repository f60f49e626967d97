-- What is stored in what a handle reads.
use Rattle.std.proofs.Common.{◌≡◌, List, ap, sym, ◌∙◌}
use Rattle.kube_meta.specs.declared.metadata.ObjectMeta.{ObjectMeta}
use Rattle.kube_meta.specs.Reference.{ObjectType, Reference}
use Rattle.kube_reflect.specs.Cached.{Kept}
use Rattle.kube_reflect.specs.Looks.{Handled}
use Rattle.kube_reflect.specs.Ruled.{kept_for}

module _ {K D : Type 0} (type_of : D → ObjectType) (meta : K → ObjectMeta) where
  pub read_stored : (h h' : Handled K D) (made read : Kept K) (cache : List (Reference × K)) → read ≡ kept_for type_of meta h.home.dyntype h.seen → made ≡ read → cache ≡ made.cache → h' ≡ h
      → cache ≡ (kept_for type_of meta h'.home.dyntype h'.seen).cache
  read_stored h h' made read cache a b c same =
      c ∙ (ap (λ k. k.cache) (b ∙ a) ∙ ap (λ z. (kept_for type_of meta z.home.dyntype z.seen).cache) (sym same))
