-- Pages of a list, as code makes them.
use Rattle.std.proofs.Common.{◌≡◌, ℕ, zero, suc, ◌+◌, ◌<◌, false, List, [], ◌∷◌, map, take, drop, filter, length, Option, Some, None, refl, sym, ap, ◌∙◌, arith}
use Rattle.std.specs.Prelude.{nat_le, unwrap_or}
use Rattle.std.proofs.lemmas.Bool.Decides.{nat_tests}
use Rattle.std.proofs.lemmas.List.{take-map, drop-map, length-map}
use Rattle.kube_meta.specs.declared.metadata.ObjectMeta.{ObjectMeta}
use Rattle.kube_model.specs.Raw.{GivesPage}
use Rattle.kube_server.specs.Numbers.{AnyName, has_name, Token, token_text}
use Rattle.kube_server.specs.Connections.{last_page, page_within, page_of}

module _ {A V : Type 0} (seen : A → V) where
  over : (most : ℕ) (left : List A) → most < length left → nat_le (length (map seen left)) most ≡ false
  over most left more = let same : length (map seen left) ≡ length left = length-map left seen in rw same (grind (arith, nat_tests))

  -- where more is left than a page may have
  pub page_within-more : (most : ℕ) (t : Token) (left : List A) (items : List V) (text : List ℕ) → most < length left → items ≡ map seen (take most left) → text ≡ token_text (record { revision = t.revision; offset = t.offset + most }) → GivesPage items (Some text) None ≡ page_within most t (map seen left)
  page_within-more most t left items text more is token = rw (over most left more, token, is, take-map seen most left) refl

pub page_of-whole : {V : Type 0} (limit : Option ℕ) (t : Token) (left : List V) → unwrap_or limit 0 ≡ 0 → last_page t.revision left ≡ page_of limit t left
page_of-whole None t left none = refl
page_of-whole (Some zero) t left none = refl
page_of-whole (Some (suc n)) t left none = absurd (omega arith)

pub page_of-within : {V : Type 0} (limit : Option ℕ) (t : Token) (left : List V) → 0 < unwrap_or limit 0 → page_within (unwrap_or limit 0) t left ≡ page_of limit t left
page_of-within None t left some = absurd (omega arith)
page_of-within (Some zero) t left some = absurd (omega arith)
page_of-within (Some (suc n)) t left some = refl

pub any_named : {V : Type 0} (meta : V → ObjectMeta) (objects : List V) → objects ≡ filter (λ object. has_name AnyName (meta object)) objects
any_named meta [] = refl
any_named meta (object ∷ objects) = ap (λ xs. object ∷ xs) (any_named meta objects)

-- what is left, as it is seen
pub seen_left : {A V : Type 0} (seen : A → V) (offset : ℕ) (objects left : List A) → left ≡ drop offset objects → map seen left ≡ drop offset (map seen objects)
seen_left seen offset objects left is = ap (map seen) is ∙ sym (drop-map seen offset objects)
