-- Subscribers that stay live.
use Rattle.std.proofs.Common.{◌≡◌, ℕ, zero, suc, true, List, [], ◌∷◌, map, Option, Some, None, Result, Ok, Err, OnOk, OnErr, IfOk, IfSome, refl, sym, ap, one-add, ◌∙◌}
use Rattle.std.specs.Prelude.{slice_get, is_some}
use Rattle.std.specs.Option.{option_flatten, option_map}
use Rattle.kube_meta.specs.Reference.{Reference}
use Rattle.kube_reflect.specs.Subscribers.{Ring, also, offered, free_number, placed, subscribed}
use Rattle.kube_reflect.specs.Writers.{Writing, Handle, fresh, AllStay, is_live, next_number, with_offer, with_subscriber}

some-also : (r : Reference) (ws : List (Option (List Reference))) (n : ℕ) → is_some (option_flatten (slice_get (map (also r) ws) n)) ≡ is_some (option_flatten (slice_get ws n))
some-also r [] n = refl
some-also r (None ∷ ws) zero = refl
some-also r (Some rs ∷ ws) zero = refl
some-also r (w ∷ ws) (suc n) = some-also r ws n

live-offered : {O : Type 0} (w : Writing O) (r : Reference) (ring : Option Ring) (n : ℕ) → is_live (record w { ring = option_map (λ q. offered q r) ring }) n ≡ is_live (record w { ring = ring }) n
live-offered w r None n = refl
live-offered w r (Some ring) n = some-also r ring.waiting n

-- after an offer
pub stay-offered : {O : Type 0} (w : Writing O) (r : Reference) → AllStay w (with_offer w r)
stay-offered w r n h = live-offered w r w.ring n ∙ h

-- A new subscriber.

waiting-placed : (rs : List Reference) (ws : List (Option (List Reference))) → option_flatten (slice_get (placed ws rs) (free_number ws)) ≡ Some rs
waiting-placed rs [] = refl
waiting-placed rs (None ∷ ws) = refl
waiting-placed rs (Some w ∷ ws) = rw one-add (waiting-placed rs ws)

stay-placed : (rs : List Reference) (ws : List (Option (List Reference))) (n : ℕ) → is_some (option_flatten (slice_get ws n)) ≡ true → is_some (option_flatten (slice_get (placed ws rs) n)) ≡ true
stay-placed rs [] n h = absurd (cc)
stay-placed rs (None ∷ ws) zero h = refl
stay-placed rs (None ∷ ws) (suc n) h = h
stay-placed rs (Some w ∷ ws) zero h = refl
stay-placed rs (Some w ∷ ws) (suc n) h = stay-placed rs ws n h

own-in : {O : Type 0} (w : Writing O) (rs : List Reference) (o : Option Ring) → is_some o ≡ true
    → is_live (record w { ring = option_map (λ q. subscribed q rs) o }) (next_number (record w { ring = o })) ≡ true
own-in w rs None h = absurd (cc)
own-in w rs (Some ring) h = ap is_some (waiting-placed rs ring.waiting)

-- it is live
pub own-subscribed : {O : Type 0} (w : Writing O) (rs : List Reference) → is_some w.ring ≡ true → is_live (with_subscriber w rs) (next_number w) ≡ true
own-subscribed w rs h = own-in w rs w.ring h

stay-in : {O : Type 0} (w : Writing O) (rs : List Reference) (o : Option Ring) (n : ℕ) → is_live (record w { ring = o }) n ≡ true → is_live (record w { ring = option_map (λ q. subscribed q rs) o }) n ≡ true
stay-in w rs None n h = h
stay-in w rs (Some ring) n h = stay-placed rs ring.waiting n h

-- and each other one stays so
pub stay-subscribed : {O : Type 0} (w : Writing O) (rs : List Reference) → AllStay w (with_subscriber w rs)
stay-subscribed w rs n h = stay-in w rs w.ring n h

-- By what a call answers.

live-in : {O : Type 0} (w : Writing O) (o : Option Ring) (n : ℕ) → is_live (record w { ring = o }) n ≡ true → is_some o ≡ true
live-in w None n h = absurd (cc)
live-in w (Some ring) n h = refl

pub has-ring : {O : Type 0} (w : Writing O) (n : ℕ) → is_live w n ≡ true → is_some w.ring ≡ true
has-ring w n h = live-in w w.ring n h

pub own-number : {O E : Type 0} (w w' : Writing O) (rs : List Reference) (r : Result ℕ E) → is_some w.ring ≡ true → IfOk r (λ n. n ≡ next_number w) → OnOk r (w' ≡ with_subscriber w rs)
    → IfOk r (λ n. is_live w' n ≡ true)
own-number w w' rs (Ok n) h e f = ap (is_live w') e ∙ (ap (λ (q : Writing _). is_live q (next_number w)) f ∙ own-subscribed w rs h)
own-number w w' rs (Err error) h e f = tt

own-some : {O : Type 0} (w w' : Writing O) (o : Option Handle) → is_some o ≡ is_some w.ring → IfSome o (λ h. h ≡ fresh (next_number w)) → w' ≡ with_subscriber w []
    → IfSome o (λ h. is_live w' h.number ≡ true)
own-some w w' (Some h) s e f = ap (λ (k : Handle). is_live w' k.number) e ∙ (ap (λ (q : Writing _). is_live q (next_number w)) f ∙ own-subscribed w [] (sym s))
own-some w w' None s e f = tt

pub own-handle : {O E : Type 0} (w w' : Writing O) (r : Result (Option Handle) E) → IfOk r (λ o. is_some o ≡ is_some w.ring) → IfOk r (λ o. IfSome o (λ h. h ≡ fresh (next_number w)))
    → OnOk r (w' ≡ with_subscriber w []) → IfOk r (λ o. IfSome o (λ h. is_live w' h.number ≡ true))
own-handle w w' (Ok o) s e f = own-some w w' o s e f
own-handle w w' (Err error) s e f = tt

pub stay-by : {O A E : Type 0} (w w' : Writing O) (rs : List Reference) (r : Result A E) → OnOk r (w' ≡ with_subscriber w rs) → OnErr r (w' ≡ w) → AllStay w w'
stay-by w w' rs (Ok a) e f n h = ap (λ (q : Writing _). is_live q n) e ∙ stay-subscribed w rs n h
stay-by w w' rs (Err error) e f n h = ap (λ (q : Writing _). is_live q n) f ∙ h
