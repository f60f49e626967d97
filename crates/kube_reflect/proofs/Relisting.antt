-- Lists within the events of a watcher.
use Rattle.std.proofs.Common.{◌≡◌, true, false, List, [], ◌∷◌, ◌++◌, map, refl, sym, ap, ◌∙◌}
use Rattle.std.specs.List.{fold, list_any}
use Rattle.std.proofs.lemmas.List.Sums.{fold-append}
use Rattle.kube_meta.specs.Reference.{Reference}
use Rattle.kube_watch.specs.declared.event.Event.{Event}
use Rattle.kube_watch.specs.declared.event.Event.TheVariants.{Apply, Delete, Init, InitApply, InitDone}
use Rattle.kube_reflect.specs.Cached.{Kept, nothing, applied, cache, kept_after, keyed, put_under}
use Rattle.kube_reflect.specs.Relists.{begins_list, listed}

true_false : {P : Type 0} → true ≡ false → P
true_false h = cc

module _ {O : Type 0} (key : O → Reference) where
  -- the list under way is what was listed
  buffer-listed : (k : Kept O) (during : List (Event O)) → list_any begins_list during ≡ false
      → (fold (applied key) k during).buffer ≡ fold put_under k.buffer (map (keyed key) (listed during))
  buffer-listed k [] h = refl
  buffer-listed k (Apply o ∷ es) h = buffer-listed (applied key k (Apply o)) es h
  buffer-listed k (Delete o ∷ es) h = buffer-listed (applied key k (Delete o)) es h
  buffer-listed k (Init ∷ es) h = true_false h
  buffer-listed k (InitApply o ∷ es) h = buffer-listed (applied key k (InitApply o)) es h
  buffer-listed k (InitDone ∷ es) h = true_false h

  -- at the end of the list it is what is stored
  cache-listed : (k : Kept O) (during : List (Event O)) → list_any begins_list during ≡ false
      → (fold (applied key) k (during ++ InitDone ∷ [])).cache ≡ fold put_under k.buffer (map (keyed key) (listed during))
  cache-listed k during h = ap (λ (q : Kept O). q.cache) (fold-append (applied key) k during (InitDone ∷ [])) ∙ buffer-listed k during h

  pub first-list : (during : List (Event O)) → list_any begins_list during ≡ false
      → cache key (during ++ InitDone ∷ []) ≡ fold put_under [] (map (keyed key) (listed during))
  first-list during h = cache-listed nothing during h

  begun : (k : Kept O) (begin : Event O) → begins_list begin ≡ true → (applied key k begin).buffer ≡ []
  begun k (Apply o) h = true_false (sym h)
  begun k (Delete o) h = true_false (sym h)
  begun k Init h = refl
  begun k (InitApply o) h = true_false (sym h)
  begun k InitDone h = refl

  pub list-replaces : (before during : List (Event O)) (begin : Event O) → begins_list begin ≡ true → list_any begins_list during ≡ false
      → cache key (before ++ begin ∷ (during ++ InitDone ∷ [])) ≡ fold put_under [] (map (keyed key) (listed during))
  list-replaces before during begin b h =
      ap (λ (q : Kept O). q.cache) (fold-append (applied key) nothing before (begin ∷ (during ++ InitDone ∷ [])))
      ∙ (cache-listed (applied key (kept_after key before) begin) during h
      ∙ ap (λ store. fold put_under store (map (keyed key) (listed during))) (begun (kept_after key before) begin b))
