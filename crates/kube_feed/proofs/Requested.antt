-- What the parts of a turn request, one after another, is what the turn requests.
use Rattle.std.proofs.Common.{◌≡◌, ℕ, Bool, false, ◌||◌, List, [], ◌∷◌, ◌++◌, map, Option, Some, None, if◌then◌else◌, is_some, unwrap_or, refl, sym, ap, ap₂, ◌∙◌, append_assoc}
use Rattle.std.specs.List.{flat_map}
use Rattle.kube_meta.specs.Reference.{Reference, reference_before}
use Rattle.kube_model.specs.World.{World, Feed, Watched, Streamed, Queued, is_watched, feed_of}
use Rattle.kube_model.specs.Reads.{Reads, told_ready, failure_in}
use Rattle.kube_model.specs.History.{Exchange, Finished, Turn, Step}
use Rattle.kube_model.specs.Queue.{Settled, sorted_by}
use Rattle.kube_model.specs.Requests.{Timed, events_of, named_requests, reload_requests, requested_and_settled, requested_at, requests_of_exchanges, requests_of_finish, requests_of_turn, turn_events}
use Rattle.kube_model.specs.Shutdowns.{is_closed}
use Rattle.kube_model.specs.Stored.{stored_by, stored_in, was_ready}
use Rattle.kube_model.specs.Takes.{found_so}
use Rattle.kube_history.specs.TurnCalls.{with_requests}
use Rattle.kube_history.proofs.TurnCalls.{requests-join, settle-join}
use Rattle.kube_core.specs.Cores.{in_bulk}
use Rattle.kube_feed.specs.Requests.{bulk_requests, by_name, finish_requests, name_requests}
use Rattle.kube_feed.specs.Turns.{first_requests, queue_asked}

pub map-map : {A B C : Type 0} (f : A → B) (g : B → C) (xs : List A) → map g (map f xs) ≡ map (λ x. g (f x)) xs
map-map f g [] = refl
map-map f g (x ∷ xs) = ap (λ ys. g (f x) ∷ ys) (map-map f g xs)

-- of a reload
bulk-is : {O : Type 0} (key : O → Reference) (at : ℕ) (found : Option (List O)) (asked : Bool) → is_some found ≡ asked
    → bulk_requests key at found ≡ (if asked then map (λ r. requested_at at (in_bulk r)) (sorted_by reference_before (map key (unwrap_or found []))) else [])
bulk-is key at None asked e = ap (λ b. if b then map (λ r. requested_at at (in_bulk r)) (sorted_by reference_before (map key [])) else []) e
bulk-is key at (Some os) asked e =
    map-map in_bulk (requested_at at) (sorted_by reference_before (map key os))
    ∙ ap (λ b. if b then map (λ r. requested_at at (in_bulk r)) (sorted_by reference_before (map key os)) else []) e

-- of what is read of a root that is fed
module _ {O B : Type 0} (w : World O B) (fed : is_watched (feed_of w 0) ≡ false) (h : List (Step O)) (t : Turn) (r : Reads O) (xs : List (Exchange O)) where
  by-feed : {A : Type 0} (f : Feed → A) (a : A) → (f Streamed ≡ a) → (f Queued ≡ a) → f (feed_of w 0) ≡ a
  by-feed f a s q = go (feed_of w 0) fed
    where
      go : (feed : Feed) → is_watched feed ≡ false → f feed ≡ a
      go (Watched settings) e = absurd (cc)
      go Streamed e = s
      go Queued e = q

  pub ready-is : (stored_in w h t r xs).is_ready ≡ (was_ready h || told_ready r)
  ready-is = by-feed (λ feed. (stored_by w feed h t r xs).is_ready) (was_ready h || told_ready r) refl refl

  pub found-is : (stored_in w h t r xs).found_of ≡ found_so r.looked_up
  found-is = by-feed (λ feed. (stored_by w feed h t r xs).found_of) (found_so r.looked_up) refl refl

  pub reloaded-is : (stored_in w h t r xs).reloaded ≡ unwrap_or r.reloaded []
  reloaded-is = by-feed (λ feed. (stored_by w feed h t r xs).reloaded) (unwrap_or r.reloaded []) refl refl

  pub shown-is : (stored_in w h t r xs).shown ≡ r.shown
  shown-is = by-feed (λ feed. (stored_by w feed h t r xs).shown) r.shown refl refl

  pub failure-is : (stored_in w h t r xs).failure ≡ failure_in r.readiness
  failure-is = by-feed (λ feed. (stored_by w feed h t r xs).failure) (failure_in r.readiness) refl refl

  -- an open turn's queue after its finishes, requests, asks and its settle
  pub queue-is : (fs : List Finished) → is_closed w h t ≡ false → is_some r.reloaded ≡ t.reload
      → queue_asked w.key (with_requests (events_of w h) t.at (finish_requests false t.at fs)) t r xs ≡ events_of w h ++ turn_events w h t r fs xs
  queue-is fs o asked =
      ap (λ es. with_requests es t.at (requests_of_exchanges t.at xs) ++ Settled t.at ∷ []) (requests-join (events_of w h) t.at F N)
      ∙ (ap (λ es. es ++ Settled t.at ∷ []) (requests-join (events_of w h) t.at (F ++ N) (requests_of_exchanges t.at xs))
      ∙ (settle-join (events_of w h) t.at ((F ++ N) ++ requests_of_exchanges t.at xs)
      ∙ (ap (λ us. events_of w h ++ requested_and_settled t.at (us ++ requests_of_exchanges t.at xs)) (sym (append_assoc F (bulk_requests w.key t.at r.reloaded) (name_requests t.at t.on)) ∙ ap₂ (λ a b. (F ++ a) ++ b) reload-is names-are)
      ∙ ap (λ b. events_of w h ++ (if b then [] else requested_and_settled t.at (requests_of_turn w (stored_in w h t r xs).reloaded t fs xs))) (sym o))))
    where
      F : List Timed
      F = flat_map (requests_of_finish t.at) fs

      N : List Timed
      N = first_requests w.key t r

      reload-is : bulk_requests w.key t.at r.reloaded ≡ reload_requests w (stored_in w h t r xs).reloaded t
      reload-is =
          bulk-is w.key t.at r.reloaded t.reload asked
          ∙ ap (λ os. if t.reload then map (λ z. requested_at t.at (in_bulk z)) (sorted_by reference_before (map w.key os)) else []) (sym reloaded-is)

      names-are : name_requests t.at t.on ≡ named_requests t
      names-are = map-map by_name (requested_at t.at) t.on
