-- What is selected by name is selected by key.
use Rattle.std.proofs.Common.{◌≡◌, ℕ, Bool, true, List, [], ◌∷◌, Option, Some, None, unwrap_or, refl, ap}
use Rattle.kube_meta.specs.declared.metadata.ObjectMeta.{ObjectMeta}
use Rattle.kube_meta.specs.Keys.{is_named}
use Rattle.kube_server.specs.History.{Key, key_of}
use Rattle.kube_server.specs.Numbers.{NameSought, AnyName, OneName, name_sought, has_name}
use Rattle.kube_server.specs.Honest.{Selection}
use Rattle.kube_server.specs.Connections.{selects_name, selected_by}
use Rattle.std.specs.Prelude.{is_some}
use Rattle.std.specs.Option.{option_eq}
use Rattle.std.specs.Str.{bytes_eq}

names-same : (a b : Option (List ℕ)) → is_some a ≡ true → is_some b ≡ true → unwrap_or a [] ≡ unwrap_or b [] → a ≡ b
names-same None b x y same = absurd (cc)
names-same (Some a) None x y same = absurd (cc)
names-same (Some a) (Some b) x y same = ap Some same

name-selects : (sought : Option NameSought) (a b : ObjectMeta) → a.name ≡ b.name → selects_name sought a ≡ selects_name sought b
name-selects None a b same = refl
name-selects (Some AnyName) a b same = refl
name-selects (Some (OneName name)) a b same = ap (λ n. option_eq bytes_eq n (Some name)) same

pub selected_by-key : {V : Type 0} (meta : V → ObjectMeta) (s : Selection) (a b : V) → is_named (meta a) ≡ true → is_named (meta b) ≡ true → key_of (meta a) ≡ key_of (meta b) → selected_by meta s a ≡ selected_by meta s b
selected_by-key meta s a b x y same =
    name-selects (name_sought s.labels s.fields) (meta a) (meta b) (names-same (meta a).name (meta b).name x y (ap (λ k. k.name) same))
