-- A turn that an object without a name ended.
use Rattle.std.proofs.Common.{◌≡◌, ℕ, zero, suc, List, [], ◌∷◌, map, slice_get, Option, Some, ap}
use Rattle.std.specs.Option.{option_map}
use Rattle.kube_meta.specs.Reference.{Reference}
use Rattle.kube_meta.specs.declared.action.Action.{Action}
use Rattle.kube_meta.specs.declared.resource.Resource as resource
use Rattle.kube_model.specs.World.{World}
use Rattle.kube_model.specs.History.{Step}
use Rattle.kube_model.specs.Traces.{IsValid}
use Rattle.kube_reflect.specs.Cached.{Kept}
use Rattle.kube_asks.specs.declared.asks.AskFault.TheVariants as faults
use Rattle.kube_asks.specs.declared.root.RootSource as root_source
use Rattle.kube_asks.specs.declared.set.RelatedSet as related_set
use Rattle.kube_turn.specs.declared.turn.Turn.{Turn as HeldTurn}
use Rattle.kube_turn.specs.Records.{turn_of}
use Rattle.kube_step.specs.Asked.{AreEndedBy}
use Rattle.kube_control.specs.Runs.{IsBrokenOff, OfValid, Untold}

-- what stands at a place of what a function makes of a list
pub got-map : {A B : Type 0} (f : A → B) (xs : List A) (n : ℕ) (x : A) → slice_get xs n ≡ Some x → slice_get (map f xs) n ≡ Some (f x)
got-map f [] n x e = absurd (cc)
got-map f (y ∷ ys) zero x e = ap (option_map f) e
got-map f (y ∷ ys) (suc n) x e = got-map f ys n x e

module _ {R S O D E : Type 0} (root : root_source.Ghosts R O D) (related : related_set.Ghosts S O D) (object : resource.Ghosts O D) (policy : O → E → Action → Type 0) {B : Type 0} (w : World O B) (h : List (Step O)) where
  -- it is valid, and asked up to that object
  pub unnamed-broken : (source : ℕ) (t : HeldTurn O E D) (r : R) (s : S) (kept : Kept O) (r' : R) (s' : S) (had has : Option (List (Reference × O)))
      → IsBrokenOff root related object policy w (faults.Unnamed source) h t r s kept r' s' had has
      → IsValid h (turn_of object.type_of t) × AreEndedBy root related w h (turn_of object.type_of t) (faults.Unnamed source) kept [] r s r' s'
  unnamed-broken source t r s kept r' s' had has (OfValid valid taken handed ended) = (valid, ended.0)
  unnamed-broken source t r s kept r' s' had has (Untold f a b n l) = absurd (cc)
