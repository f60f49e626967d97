-- What decides in a controller that reads a store. K is the type of objects, D that of their dynamic types; R is the type of the controller's root, S that of its related sources, B that of its backoff's states, O that of objects.
use Rattle.std.specs.Prelude.{◌≡◌, ℕ, Bool, false, List, ◌++◌}
use Rattle.kube_meta.specs.declared.moment.Moment.{Moment}
use Rattle.kube_meta.specs.declared.resource.Resource as resource
use Rattle.kube_model.specs.World.{World, is_watched, feed_of}
use Rattle.kube_model.specs.History.{Dated, Step, exchanges}
use Rattle.kube_model.specs.Requests.{events_of}
use Rattle.kube_model.specs.Stored.{was_ready}
use Rattle.kube_model.specs.Takes.{running}
use Rattle.kube_model.specs.Traces.{has_ended, last_moment}
use Rattle.kube_history.specs.CoreWorld.{core_world}
use Rattle.kube_history.specs.TurnEvents.{was_over}
use Rattle.kube_backoff.specs.declared.backoff.Backoff as backoff
use Rattle.kube_reflect.specs.Writers.{Reader}
use Rattle.kube_core.specs.Pendings.{Parts as Pending, Stands as PendingStands}
use Rattle.kube_asks.specs.Asking.{Asking}
use Rattle.kube_asks.specs.declared.root.RootSource as root_source
use Rattle.kube_asks.specs.declared.set.RelatedSet as related_set
use Rattle.kube_step.specs.Asked.{NamesObjects}
use Rattle.kube_step.specs.Controllers.{IsWorldOfAsks, AsksStand}
use Rattle.kube_control.specs.Histories.{IsOfTrace}
use Rattle.kube_feed.specs.declared.parts.Parts.{Parts}

-- its asks, what decides in it, the moment of its last turn, whether a trace of it has ended, and whether a run of it failed for good
pub record Feeding (R S B O D : Type 0) : Type 0 where
  pub asks : Asking R S B
  pub reader : Reader O
  pub pending : Pending O D
  pub is_ready : Bool
  pub is_shut : Bool
  pub last : Moment
  pub has_ended : Bool
  pub is_spent : Bool

-- its parts
abbrev pub parts_of : {R S B O D : Type 0} → Feeding R S B O D → Parts O D
parts_of c = record { reader = c.reader; pending = c.pending; ready = c.is_ready; shut = c.is_shut }

module _ {R S B O D : Type 0} (root : root_source.Ghosts R O D) (related : related_set.Ghosts S O D) (delays : backoff.Ghosts B) (object : resource.Ghosts O D) where
  -- the asks and what decides are what this history leaves: the root is fed, and its objects come with names; what waits and runs, whether the reader told that the store is ready, and whether shutdown was asked or given up
  pub record PartsStand (w : World O B) (h : List (Step O)) (a : Asking R S B) (p : Parts O D) : Type 0 where
    pub world : IsWorldOfAsks root related delays object w a
    pub is_fed : is_watched (feed_of w 0) ≡ false
    pub names : NamesObjects root related w
    pub waits : PendingStands object.type_of (core_world w) p.pending (events_of w h) (running h)
    pub ready : p.ready ≡ was_ready h
    pub shut : p.shut ≡ was_over w h
    pub budget : List ℕ
    pub before : List (Dated O)
    pub mine : List (Dated O)
    pub joined : before ++ mine ≡ exchanges h
    pub asks_stand : AsksStand root related delays object w budget before mine a
    pub unspent : a.is_spent ≡ false

  -- its entries, running references, the backoff's state, the pause, the source asked last, the last moment, shutdown and end are those that the definitions give for this history of turns from the beginning on, whose turns have what the reader answered in them. A spent controller stands for none
  pub record StandsFor (w : World O B) (h : List (Step O)) (c : Feeding R S B O D) : Type 0 where
    pub parts : PartsStand w h c.asks (parts_of c)
    pub last : c.last.0 ≡ last_moment h
    pub ended : c.has_ended ≡ has_ended h
    pub of_trace : IsOfTrace w h
    pub unspent : c.is_spent ≡ false
