-- What the events of a root's exchange request, event by event. O is the type of objects.
use Rattle.std.specs.Prelude.{Bool, not, List, [], ◌∷◌, ◌++◌, map}
use Rattle.std.specs.List.{list_any}
use Rattle.kube_meta.specs.declared.metadata.ObjectMeta.{ObjectMeta}
use Rattle.kube_meta.specs.Reference.{ObjectType}
use Rattle.kube_meta.specs.Keys.{key_of, is_named}
use Rattle.kube_model.specs.Reason.{ObjectUpdated}
use Rattle.kube_model.specs.History.{Message}
use Rattle.kube_watch.specs.declared.event.Event.{Event}
use Rattle.kube_watch.specs.declared.event.Event.TheVariants.{Apply, Delete, Init, InitApply, InitDone}
use Rattle.kube_turn.specs.Views.{message_of}
use Rattle.kube_asks.specs.declared.noting.Noted as held

-- the requests of the list under way, as it came, and those of the exchange
pub record Noted : Type 0 where
  pub listing : List Message
  pub requests : List Message

abbrev pub noted : List Message → List Message → Noted
noted listing requests = record { listing = listing; requests = requests }

abbrev pub noted_of : {K D : Type 0} → (D → ObjectType) → held.Noted K D → Noted
noted_of type_of n = noted (map (message_of type_of) n.listing) (map (message_of type_of) n.requests)

-- the request for an object of this type
abbrev pub updated_of : {O : Type 0} → ObjectType → (O → ObjectMeta) → O → Message
updated_of t meta o = record { reference = key_of t (meta o); reason = ObjectUpdated }

-- a list begins anew at Init, and is requested whole at InitDone; what comes after it is requested as it comes
abbrev pub after_event : {O : Type 0} → (O → Message) → Noted → Event O → Noted
after_event request n (Apply o) = record n { requests = n.requests ++ request o ∷ [] }
after_event request n (Delete o) = n
after_event request n Init = record n { listing = [] }
after_event request n (InitApply o) = record n { listing = n.listing ++ request o ∷ [] }
after_event request n InitDone = record { listing = []; requests = n.listing }

abbrev pub any_unnamed : {O : Type 0} → (O → ObjectMeta) → List O → Bool
any_unnamed meta os = list_any (λ o. not (is_named (meta o))) os
