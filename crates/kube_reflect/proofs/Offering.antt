-- Offering the references of an event, one after another.
use Rattle.std.proofs.Common.{◌≡◌, ℕ, Bool, ◌+◌, ◌<◌, true, false, Option, Some, None, Ok, Err, Result, OnErr, inl, if◌then◌else◌, List, [], ◌∷◌, ◌++◌, length, get_or, take, drop, map, refl, sym, ap, ◌∙◌, add-zero}
use Rattle.std.specs.Prelude.{is_some}
use Rattle.std.specs.List.{list_any}
use Rattle.std.specs.Option.{option_map}
use Rattle.std.proofs.lemmas.List.{take_more, get_or-drop}
use Rattle.kube_meta.specs.Reference.{Reference}
use Rattle.kube_meta.specs.declared.poll.Next.TheVariants.{Item}
use Rattle.kube_watch.specs.declared.event.Event.{Event}
use Rattle.kube_watch.specs.Streams.{Answer}
use Rattle.kube_reflect.specs.Subscribers.{Ring, also, lags_by, offered}
use Rattle.kube_reflect.specs.Writers.{Writing, has_live, is_lagged, with_offer}
use Rattle.kube_reflect.specs.Reflects.{Held, offered_in, answer_with, held_with, IsOffered}
use Rattle.kube_reflect.proofs.Lagging.{read-map}

module _ {O : Type 0} where
  -- nothing more is offered where a subscriber lags behind
  pub stopped : (w : Writing O) (rs : List Reference) → is_lagged w ≡ true → offered_in w rs ≡ (w, rs)
  stopped w [] h = refl
  stopped w (r ∷ rs) h = ap (λ b. if b then (w, r ∷ rs) else offered_in (with_offer w r) rs) h

  pub offered-one : (w : Writing O) (r : Reference) (rs : List Reference) → is_lagged w ≡ false → offered_in w (r ∷ rs) ≡ offered_in (with_offer w r) rs
  offered-one w r rs h = ap (λ b. if b then (w, r ∷ rs) else offered_in (with_offer w r) rs) h

  -- one more reference after those that were all offered
  offered-push : (w0 w : Writing O) (xs : List Reference) (r : Reference) → offered_in w0 xs ≡ (w, []) → offered_in w0 (xs ++ r ∷ []) ≡ offered_in w (r ∷ [])
  offered-push w0 w [] r p = ap (λ q. offered_in q.0 (r ∷ [])) p
  offered-push w0 w (x ∷ xs) r p = go (is_lagged w0) p (λ q. offered-push (with_offer w0 x) w xs r q)
    where
      go : (b : Bool) → (if b then (w0, x ∷ xs) else offered_in (with_offer w0 x) xs) ≡ (w, [])
          → (offered_in (with_offer w0 x) xs ≡ (w, []) → offered_in (with_offer w0 x) (xs ++ r ∷ []) ≡ offered_in w (r ∷ []))
          → (if b then (w0, x ∷ (xs ++ r ∷ [])) else offered_in (with_offer w0 x) (xs ++ r ∷ [])) ≡ offered_in w (r ∷ [])
      go true q more = absurd (let e : x ∷ xs ≡ [] = ap (λ z. z.1) q in cc)
      go false q more = more q

  pub offered-more : (w w' w0 : Writing O) (rs : List Reference) (i : ℕ) (r : Reference) → i < length rs → r ≡ get_or rs i r → is_lagged w ≡ false
      → w' ≡ with_offer w r → offered_in w0 (take i rs) ≡ (w, []) → offered_in w0 (take (i + 1) rs) ≡ (w', [])
  offered-more w w' w0 rs i r h e low k p =
      ap (offered_in w0) (take_more rs i r h ∙ ap (λ x. take i rs ++ x ∷ []) (sym e))
      ∙ (offered-push w0 w (take i rs) r p ∙ (offered-one w r [] low ∙ ap (λ q. (q, [])) (sym k)))

pub err-so : {A E P : Type 0} (r : Result A E) → P → OnErr r P
err-so (Ok a) p = tt
err-so (Err e) p = p

-- the first of what is left is read at its place
pub read-left : {A : Type 0} (f : A → Reference) (xs left : List A) (i : ℕ) (x : A) → left ≡ drop i xs → x ≡ get_or left 0 x → f x ≡ get_or (map f xs) i (f x)
read-left f xs left i x l e =
    read-map f xs i x (e ∙ (ap (λ ys. get_or ys 0 x) l ∙ (get_or-drop i xs 0 x ∙ ap (λ m. get_or xs m x) (add-zero i))))

-- Where there is no live subscriber, nothing is offered.

no-one : {P : Type 0} → true ≡ false → P
no-one h = cc

map-also : (r : Reference) (ws : List (Option (List Reference))) → list_any is_some ws ≡ false → map (also r) ws ≡ ws
map-also r [] h = refl
map-also r (None ∷ ws) h = ap (λ xs. None ∷ xs) (map-also r ws h)
map-also r (Some w ∷ ws) h = no-one h

none-lags : (room : ℕ) (ws : List (Option (List Reference))) → list_any is_some ws ≡ false → list_any (lags_by room) ws ≡ false
none-lags room [] h = refl
none-lags room (None ∷ ws) h = none-lags room ws h
none-lags room (Some w ∷ ws) h = no-one h

module _ {O : Type 0} where
  nobody-in : (w : Writing O) (r : Reference) (o : Option Ring) → has_live (record w { ring = o }) ≡ false
      → ◌≡◌ {A = Writing O} (record w { ring = option_map (λ ring. offered ring r) o }) (record w { ring = o })
  nobody-in w r None h = refl
  nobody-in w r (Some ring) h = ap (λ (ws : List (Option (List Reference))). record w { ring = Some (record ring { waiting = ws }) }) (map-also r ring.waiting h)

  low-in : (w : Writing O) (o : Option Ring) → has_live (record w { ring = o }) ≡ false → is_lagged (record w { ring = o }) ≡ false
  low-in w None h = refl
  low-in w (Some ring) h = none-lags ring.room ring.waiting h

  pub offered-nobody : (w : Writing O) (rs : List Reference) → has_live w ≡ false → offered_in w rs ≡ (w, [])
  offered-nobody w [] h = refl
  offered-nobody w (r ∷ rs) h =
      ap (λ b. if b then (w, r ∷ rs) else offered_in (with_offer w r) rs) (low-in w w.ring h)
      ∙ (ap (λ (q : Writing O). offered_in q rs) (nobody-in w r w.ring h) ∙ offered-nobody w rs h)

  -- so an event is given at once
  pub given-nobody : {A : Type 0} (w w' : Writing O) (event : Event A) (rs : List Reference) (answer : Answer (Event A)) (held : Option (Held A)) → has_live w ≡ false
      → answer ≡ Ok (Item (Ok event)) → w' ≡ w → held ≡ None → IsOffered w event rs answer w' held
  given-nobody w w' event rs answer held h a same none =
      let e = offered-nobody w rs h in
      inl (
        a ∙ sym (ap (λ p. answer_with event p.1) e),
        same ∙ sym (ap (λ p. p.0) e),
        none ∙ sym (ap (λ p. held_with event p.1) e),
      )
