use Rattle.std.proofs.Common.{◌≡◌, true, false, sym, ap, ap₂, ◌∙◌, rules, arith}
use Rattle.std.specs.Option.{option_copied}
use Rattle.kube_meta.specs.Keys.{is_named}
use Rattle.kube_meta.specs.Reading.{seen_object}
use Rattle.kube_server.specs.History.{key_of, change_seen, state_of}
use Rattle.kube_server.specs.Servers.{meta_of, put_change, put_over}
use Rattle.kube_server.specs.Stored.{change_of, key_at}
use Rattle.kube_server.proofs.ServerLemmas.{shared-held, next-of-put}
use Rattle.kube_server.proofs.server.Server.put_of.Goals as goal

made : (c : goal.After-drop-place-3)
    → change_seen seen_object (change_of c.in_ok-put_entry.field-0) ≡ put_change c.args.self.now (key_of c.args.object.metadata) (seen_object c.args.object)
made c =
    c.in_ok-put_entry.ensures
    ∙ ap₂ (λ r stored. put_over r stored (seen_object c.args.object)) c.next_revision-revision.ensures.value
    (shared-held c.args.self.now (key_of c.args.object.metadata) (key_at c.in_ok-place.place) c.self.inside.objects (option_copied c.get.result)
    c.get.ensures c.in_ok-place.ensures (c.self.invariant.newest ∙ ap (λ s. state_of meta_of s.changes) c.self.view_is))

pub returns-clause-ok : goal.returns-clause-ok
returns-clause-ok c = made c

pub returns-clause-fits : goal.returns-clause-fits
returns-clause-fits c =
    let h = c.if-is_none.false in
    let n = c.is_none.ensures in
    let named : is_named c.args.object.metadata ≡ true = search rules in
    next-of-put c.args.self.now (seen_object c.args.object) (change_of c.in_ok-put_entry.field-0) named (made c)
