-- What a connection keeps of its talk.
use Rattle.std.specs.Prelude.{ℕ, List}
use Rattle.kube_meta.specs.declared.dynamic.DynamicObject.{DynamicObject}
use Rattle.kube_model.specs.Raw.{Raw}

pub record TalkState : Type 0 where
  pub raws : List (Raw DynamicObject)
  pub failures : ℕ
