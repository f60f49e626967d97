-- A deletion that watches a connection to the server from which it deletes.
use Rattle.std.proofs.Common.{◌≡◌, ℕ, Some, ap, ◌∙◌}
use Rattle.kube_meta.specs.declared.dynamic.DynamicObject.{DynamicObject}
use Rattle.kube_api.specs.ObjectTalk.{ObjectRaw}
use Rattle.kube_server.specs.Connections.{Connection, IsSameLog, fresh}
use Rattle.kube_server.specs.History.{IsLater}
use Rattle.kube_server.specs.ObjectCalls.{IsObjectMove, held_document, objects_talk}
use Rattle.kube_server.specs.Servers.{ServerState}
use Rattle.kube_server.specs.declared.server_objects.ServerObjects.{ServerObjects}
use Rattle.kube_server.proofs.LaterLemmas.{later_equal, later_later, later_same}
use Rattle.kube_server.proofs.StateLemmas.{call-later}
use Rattle.kube_final.specs.FinalizerPolls.{Objects}

-- what is asked of the objects of a server
abbrev pub objects : Objects ServerObjects DynamicObject
objects = record {
  moves = λ old now raw new. IsObjectMove old.server.now old.namespace now raw new.server.now × (new.namespace ≡ old.namespace) × (new.server.ghost_name ≡ old.server.ghost_name);
  rests = λ old new. (new.server.now ≡ old.server.now) × (new.namespace ≡ old.namespace) × (new.server.ghost_name ≡ old.server.ghost_name);
  held = λ s. Some (held_document s.server.now s.namespace);
  talk = λ s. Some (objects_talk s);
  faults = λ s. 0;
}

abbrev pub GoesOn : ServerObjects → ServerObjects → Type 0
GoesOn old new = IsLater old.server.now.changes new.server.now.changes old.server.now.compacted new.server.now.compacted

pub goes-on-still : (o : ServerObjects) → GoesOn o o
goes-on-still o = later_same o.server.now.changes o.server.now.compacted

pub goes-on-moved : (at : ℕ) (raw : ObjectRaw DynamicObject) (o p : ServerObjects) → objects.moves o at raw p → GoesOn o p
goes-on-moved at raw o p m = call-later o.server.now o.namespace at raw.call p.server.now m.0.left

-- a connection that was made over the server, and whose log stayed since, is one whose server went on
pub made-behind : (first last : ServerState) (conn kept : Connection DynamicObject) → conn ≡ fresh first.changes first.compacted → IsSameLog conn kept
    → IsLater first.changes last.changes first.compacted last.compacted → IsLater kept.changes last.changes kept.compacted last.compacted
made-behind first last conn kept made same later =
    later_later kept.changes first.changes last.changes kept.compacted first.compacted last.compacted
    (later_equal kept.changes first.changes kept.compacted first.compacted (same.0 ∙ ap (λ c. c.changes) made) (same.1 ∙ ap (λ c. c.compacted) made)) later
