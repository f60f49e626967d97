-- A controller, and the histories of which it is what the definitions give. R is the type of its root, S that of its related sources, B that of its backoff's states, O that of objects and D that of their dynamic types.
use Rattle.std.specs.Prelude.{◌≡◌, Bool, false, List}
use Rattle.kube_meta.specs.declared.moment.Moment.{Moment}
use Rattle.kube_meta.specs.declared.resource.Resource as resource
use Rattle.kube_model.specs.World.{World}
use Rattle.kube_model.specs.History.{Step}
use Rattle.kube_model.specs.Traces.{has_ended, last_moment}
use Rattle.kube_backoff.specs.declared.backoff.Backoff as backoff
use Rattle.kube_core.specs.Cores.{Parts}
use Rattle.kube_asks.specs.Asking.{Asking}
use Rattle.kube_asks.specs.declared.root.RootSource as root_source
use Rattle.kube_asks.specs.declared.set.RelatedSet as related_set
use Rattle.kube_step.specs.Controllers.{PartsStand}
use Rattle.kube_control.specs.Histories.{IsOfTrace}

-- its asks, what decides in it, the moment of its last turn, whether a trace of it has ended, and whether a run of it failed for good
pub record Controlling (R S B O D : Type 0) : Type 0 where
  pub asks : Asking R S B
  pub core : Parts O D
  pub last : Moment
  pub has_ended : Bool
  pub is_spent : Bool

module _ {R S B O D : Type 0} (root : root_source.Ghosts R O D) (related : related_set.Ghosts S O D) (delays : backoff.Ghosts B) (object : resource.Ghosts O D) where
  -- its store, the list under way, entries, running references, owed calls, idle windows, the backoff's state, the pause, the source asked last, the last moment, shutdown and end are those that the definitions give for this history of turns from the beginning on. A spent controller stands for none
  pub record StandsFor (w : World O B) (h : List (Step O)) (c : Controlling R S B O D) : Type 0 where
    pub parts : PartsStand root related delays object w h c.asks c.core
    pub last : c.last.0 ≡ last_moment h
    pub ended : c.has_ended ≡ has_ended h
    pub of_trace : IsOfTrace w h
    pub unspent : c.is_spent ≡ false
