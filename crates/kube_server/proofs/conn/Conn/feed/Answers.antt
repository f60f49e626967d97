use Rattle.std.proofs.Common.{◌≡◌, ◌++◌, List, drop, length, sym, ap, subst, ◌∙◌}
use Rattle.kube_meta.specs.declared.dynamic.DynamicObject.{DynamicObject}
use Rattle.kube_server.specs.contracts.conn.Conn.{the_view}
use Rattle.kube_server.specs.History.{Change, IsLater}
use Rattle.kube_server.specs.Servers.{meta_of}
use Rattle.kube_server.specs.Logs.{LogState}
use Rattle.kube_server.specs.Connections.{Connection}
use Rattle.kube_server.specs.Standing.{Stands}
use Rattle.kube_server.proofs.LogLemmas.{rest_is, fed}
use Rattle.kube_server.proofs.StandingLemmas.{Stands-fed}
use Rattle.kube_server.proofs.conn.Conn.feed.Goals as goal

later : (c : goal.After-self-1) → IsLater (the_view c.self.inside).changes c.args.server.now.changes (the_view c.self.inside).compacted c.args.server.now.compacted
later c = subst (λ (d : Connection DynamicObject). IsLater d.changes c.args.server.now.changes d.compacted c.args.server.now.compacted) (sym c.self.view_is) c.requires

changes : (c : goal.After-self-1) → c.extend.new.self.changes ≡ c.args.server.now.changes
changes c = ap (λ (l : LogState). l.changes) c.in_ok-extend.ensures.ok ∙ fed (the_view c.self.inside).changes c.args.server.now.changes c.entries-known.result.now c.entries.result.now _ _ c.entries-known.ensures c.entries.ensures (later c)

stands : (c : goal.After-self-1) → Stands meta_of (record (the_view c.self.inside) { changes = c.extend.new.self.changes; compacted = c.compacted-self-inside.result })
stands c =
    let old = the_view c.self.inside in
    let all : old.changes ++ drop (length old.changes) c.args.server.now.changes ≡ c.args.server.now.changes = rest_is old.changes c.args.server.now.changes old.compacted c.args.server.now.compacted (later c) in
    subst (λ (cs : List (Change DynamicObject)). Stands meta_of (record (the_view c.self.inside) { changes = cs; compacted = c.compacted-self-inside.result })) (all ∙ sym (changes c)) (Stands-fed meta_of old (drop (length old.changes) c.args.server.now.changes) c.compacted-self-inside.result c.self.invariant)

pub invariant_of-self-2 : goal.invariant_of-self-2
invariant_of-self-2 c = stands c

pub returns-clause-ok : goal.returns-clause-ok
returns-clause-ok c =
    let now : record (the_view c.self.inside) { changes = c.extend.new.self.changes; compacted = c.compacted-self-inside.result } ≡ record (the_view c.self.inside) { changes = c.args.server.now.changes; compacted = c.args.server.now.compacted } = λ i. record (the_view c.self.inside) { changes = changes c i; compacted = c.compacted-self-inside.ensures i } in
    now ∙ ap (λ (d : Connection DynamicObject). record d { changes = c.args.server.now.changes; compacted = c.args.server.now.compacted }) c.self.view_is

pub returns-clause-honest : goal.returns-clause-honest
returns-clause-honest c = (stands c).honest
