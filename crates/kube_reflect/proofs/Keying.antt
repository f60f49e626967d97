-- Objects beside their references: what is put and dropped of these pairs is what is put and dropped of the objects, and what the events of a list make of a cache.
use Rattle.std.proofs.Common.{◌≡◌, Bool, true, false, not, List, [], ◌∷◌, ◌++◌, map, if◌then◌else◌, refl, sym, ap, ◌∙◌}
use Rattle.std.specs.List.{fold}
use Rattle.std.proofs.lemmas.List.Sums.{fold-append}
use Rattle.kube_meta.specs.Reference.{Reference, same_reference}
use Rattle.kube_model.specs.Store.{put, drop, changed, Put, Gone}
use Rattle.kube_watch.specs.declared.event.Event.TheVariants.{Apply, Delete, InitApply}
use Rattle.kube_reflect.specs.Cached.{Kept, applied, keyed, put_under, drop_under}
use Rattle.kube_reflect.specs.Exchanged.{all_keyed}

module _ {O : Type 0} (key : O → Reference) where
  put-keyed : (ps : List O) (o : O) → put_under (all_keyed key ps) (keyed key o) ≡ all_keyed key (put key ps o)
  put-keyed [] o = refl
  put-keyed (p ∷ ps) o = go (same_reference (key p) (key o)) (put-keyed ps o)
    where
      go : (b : Bool) → put_under (all_keyed key ps) (keyed key o) ≡ all_keyed key (put key ps o)
          → (if b then keyed key o ∷ all_keyed key ps else keyed key p ∷ put_under (all_keyed key ps) (keyed key o)) ≡ all_keyed key (if b then o ∷ ps else p ∷ put key ps o)
      go true r = refl
      go false r = ap (λ qs. keyed key p ∷ qs) r

  drop-keyed : (ps : List O) (o : O) → drop_under (all_keyed key ps) (keyed key o) ≡ all_keyed key (drop key ps o)
  drop-keyed [] o = refl
  drop-keyed (p ∷ ps) o = go (not (same_reference (key p) (key o))) (drop-keyed ps o)
    where
      go : (b : Bool) → drop_under (all_keyed key ps) (keyed key o) ≡ all_keyed key (drop key ps o)
          → (if b then keyed key p ∷ drop_under (all_keyed key ps) (keyed key o) else drop_under (all_keyed key ps) (keyed key o)) ≡ all_keyed key (if b then p ∷ drop key ps o else drop key ps o)
      go true r = ap (λ qs. keyed key p ∷ qs) r
      go false r = r

  pub puts-keyed : (ps os : List O) → fold put_under (all_keyed key ps) (all_keyed key os) ≡ all_keyed key (fold (put key) ps os)
  puts-keyed ps [] = refl
  puts-keyed ps (o ∷ os) = ap (λ qs. fold put_under qs (all_keyed key os)) (put-keyed ps o) ∙ puts-keyed (put key ps o) os

  -- objects that came are put, and those that went are dropped
  pub put-changes : (ps os : List O) → fold put_under (all_keyed key ps) (all_keyed key os) ≡ all_keyed key (fold (changed key) ps (map Put os))
  put-changes ps [] = refl
  put-changes ps (o ∷ os) = ap (λ qs. fold put_under qs (all_keyed key os)) (put-keyed ps o) ∙ put-changes (put key ps o) os

  pub gone-changes : (ps os : List O) → fold drop_under (all_keyed key ps) (all_keyed key os) ≡ all_keyed key (fold (changed key) ps (map Gone os))
  gone-changes ps [] = refl
  gone-changes ps (o ∷ os) = ap (λ qs. fold drop_under qs (all_keyed key os)) (drop-keyed ps o) ∙ gone-changes (drop key ps o) os

  -- more objects after those of a list
  pub more-keyed : (b : List (Reference × O)) (before os : List O) → b ≡ all_keyed key (fold (put key) [] before)
      → fold put_under b (all_keyed key os) ≡ all_keyed key (fold (put key) [] (before ++ os))
  more-keyed b before os e =
      ap (λ qs. fold put_under qs (all_keyed key os)) e
      ∙ (puts-keyed (fold (put key) [] before) os ∙ ap (all_keyed key) (sym (fold-append (put key) [] before os)))

  -- The events of many objects.

  pub lists : (k : Kept O) (os : List O) → fold (applied key) k (map InitApply os) ≡ record k { buffer = fold put_under k.buffer (all_keyed key os) }
  lists k [] = refl
  lists k (o ∷ os) = lists (record k { buffer = put_under k.buffer (keyed key o) }) os

  pub applies : (k : Kept O) (os : List O) → fold (applied key) k (map Apply os) ≡ record k { cache = fold put_under k.cache (all_keyed key os) }
  applies k [] = refl
  applies k (o ∷ os) = applies (record k { cache = put_under k.cache (keyed key o) }) os

  pub deletes : (k : Kept O) (os : List O) → fold (applied key) k (map Delete os) ≡ record k { cache = fold drop_under k.cache (all_keyed key os) }
  deletes k [] = refl
  deletes k (o ∷ os) = deletes (record k { cache = drop_under k.cache (keyed key o) }) os
