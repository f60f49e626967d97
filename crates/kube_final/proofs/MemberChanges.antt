-- A change of one member of an object, as a patch makes it.
use Rattle.std.proofs.Common.{◌≡◌, ℕ, List, Option, Some, true, false, bytes_eq, refl, sym, ap, ◌∙◌, subst, true≢false}
use Rattle.std.specs.declared.cmp.Ordering.{Ordering}
use Rattle.std.specs.declared.cmp.Ordering.TheVariants.{Less, Equal, Greater}
use Rattle.std.specs.Ordering.{nat_cmp, is_eq, match_ordering}
use Rattle.std.specs.Cmp.Lexicographic.{slice_cmp}
use Rattle.std.proofs.lemmas.Map.Text.{is_eq-slice_cmp}
use Rattle.std.proofs.lemmas.Slice.Eq.{bytes_eq-Decides}
use Rattle.serde_json.specs.Data.{Data, Members, no_members, member, put}
use Rattle.serde_json.specs.Find.{get_member}
use Rattle.kube_meta.proofs.ReadBack.{IsReplaced, get-put_at, other_text, same_put, same_text}
use Rattle.kube_api.specs.Patches.{changed_member}

equal_text : (k l : List ℕ) → slice_cmp nat_cmp k l ≡ Equal → bytes_eq k l ≡ true
equal_text k l e = sym (is_eq-slice_cmp k l) ∙ ap is_eq e

-- ---- a member that was put

put-changed_at : (f : Data → Option Data) (k l : List ℕ) (d e x : Data) (ms : Members) (o : Ordering) → slice_cmp nat_cmp k l ≡ o → f d ≡ Some e → changed_member f k (put k d ms) ≡ Some (put k e ms)
    → changed_member f k (match_ordering o (member k d (member l x ms)) (member l d ms) (member l x (put k d ms))) ≡ Some (match_ordering o (member k e (member l x ms)) (member l e ms) (member l x (put k e ms)))
put-changed_at f k l d e x ms Less is h more = rw (same_text k, h) refl
put-changed_at f k l d e x ms Equal is h more = rw (equal_text k l is, h) refl
put-changed_at f k l d e x ms Greater is h more = rw (other_text k l Greater is refl, more) refl

pub put-changed : (f : Data → Option Data) (k : List ℕ) (d e : Data) (ms : Members) → f d ≡ Some e → changed_member f k (put k d ms) ≡ Some (put k e ms)
put-changed f k d e no_members h = rw (same_text k, h) refl
put-changed f k d e (member l x ms) h = put-changed_at f k l d e x ms (slice_cmp nat_cmp k l) refl h (put-changed f k d e ms h)

pub put-replaces : (k : List ℕ) (d : Data) (ms : Members) → IsReplaced k d ms (put k d ms)
put-replaces k d ms = record { there = same_put k d ms; others = λ q other. get-put_at q k d ms false other }

-- ---- a member that is there

pub record IsChangedAt (f : Data → Option Data) (k : List ℕ) (e : Data) (ms : Members) : Type 0 where
  pub after : Members
  pub changed : changed_member f k ms ≡ Some after
  pub replaced : IsReplaced k e ms after

some-same : (x d : Data) → Some x ≡ Some d → x ≡ d
some-same x d e = cc

-- under another name nothing is other, where the first member is of this one
beside : (q l : List ℕ) (x e : Data) (ms : Members) (o : Ordering) → slice_cmp nat_cmp q l ≡ o → bytes_eq q l ≡ false
    → match_ordering o (get_member q ms) (Some e) (get_member q ms) ≡ match_ordering o (get_member q ms) (Some x) (get_member q ms)
beside q l x e ms Less is other = refl
beside q l x e ms Equal is other = absurd (true≢false (sym (equal_text q l is) ∙ other))
beside q l x e ms Greater is other = refl

here : (f : Data → Option Data) (k l : List ℕ) (x e : Data) (ms : Members) → slice_cmp nat_cmp k l ≡ Equal → f x ≡ Some e → IsChangedAt f k e (member l x ms)
here f k l x e ms is h =
    let same : k ≡ l = (bytes_eq-Decides k l).0 (equal_text k l is) in
    record {
      after = member l e ms;
      changed = rw (equal_text k l is, h) refl;
      replaced = record {
        there = ap (λ o. match_ordering o (get_member k ms) (Some e) (get_member k ms)) is;
        others = λ q other. beside q l x e ms (slice_cmp nat_cmp q l) refl (subst (λ n. bytes_eq q n ≡ false) same other);
      };
    }

behind : (f : Data → Option Data) (k l : List ℕ) (x e : Data) (ms : Members) (o : Ordering) → slice_cmp nat_cmp k l ≡ o → is_eq o ≡ false
    → match_ordering o (Some e) (Some x) (Some e) ≡ Some e → (c : IsChangedAt f k e ms) → IsChangedAt f k e (member l x ms)
behind f k l x e ms o is other keeps c = record {
  after = member l x c.after;
  changed = rw (other_text k l o is other, c.changed) refl;
  replaced = record {
    there =
        ap (λ q. match_ordering q (get_member k c.after) (Some x) (get_member k c.after)) is
        ∙ (ap (λ g. match_ordering o g (Some x) g) c.replaced.there ∙ keeps);
    others = λ q differs. ap (λ g. match_ordering (slice_cmp nat_cmp q l) g (Some x) g) (c.replaced.others q differs);
  };
}

there-changed_at : (f : Data → Option Data) (k l : List ℕ) (x d e : Data) (ms : Members) (o : Ordering) → slice_cmp nat_cmp k l ≡ o → match_ordering o (get_member k ms) (Some x) (get_member k ms) ≡ Some d
    → f d ≡ Some e → (get_member k ms ≡ Some d → IsChangedAt f k e ms) → IsChangedAt f k e (member l x ms)
there-changed_at f k l x d e ms Less is found h more = behind f k l x e ms Less is refl refl (more found)
there-changed_at f k l x d e ms Equal is found h more = here f k l x e ms is (ap f (some-same x d found) ∙ h)
there-changed_at f k l x d e ms Greater is found h more = behind f k l x e ms Greater is refl refl (more found)

pub there-changed : (f : Data → Option Data) (k : List ℕ) (d e : Data) (ms : Members) → get_member k ms ≡ Some d → f d ≡ Some e → IsChangedAt f k e ms
there-changed f k d e no_members found h = absurd (cc)
there-changed f k d e (member l x ms) found h = there-changed_at f k l x d e ms (slice_cmp nat_cmp k l) refl found h (λ further. there-changed f k d e ms further h)
