use Rattle.std.proofs.Common.{◌≡◌, ◌++◌, ◌∷◌, [], map, sym, ap, ◌∙◌, subst}
use Rattle.std.proofs.lemmas.List.{map-append}
use Rattle.kube_server.specs.History.{IsNextChange}
use Rattle.kube_server.specs.Servers.{meta_of}
use Rattle.kube_server.specs.Serving.{IsServed}
use Rattle.kube_server.specs.Stored.{change_of}
use Rattle.kube_server.proofs.ServerLemmas.{served-more}
use Rattle.kube_server.proofs.server.Server.make.Goals as goal

served : (c : goal.After-len) → IsServed (map change_of c.push_reserved.new.self.items) c.self.inside.compacted c.apply.new.self
served c =
    let grown : map change_of c.push_reserved.new.self.items ≡ map change_of c.self.inside.log.items ++ change_of c.args.entry ∷ [] =
    ap (map change_of) c.push_reserved.ensures.items
    ∙ (map-append change_of c.reserve.new.self.items (c.args.entry ∷ []) ∙ ap (λ es. map change_of es ++ change_of c.args.entry ∷ []) c.in_ok-reserve.ensures.items) in
    served-more (map change_of c.self.inside.log.items) (map change_of c.push_reserved.new.self.items) c.self.inside.compacted c.self.inside.objects c.apply.new.self (change_of c.args.entry)
    c.self.invariant
    (subst (λ cs. IsNextChange meta_of cs (change_of c.args.entry)) (ap (λ s. s.changes) (sym c.self.view_is)) c.requires)
    grown c.in_ok-apply.ensures.ok

pub invariant_of-self-2 : goal.invariant_of-self-2
invariant_of-self-2 c = served c

pub returns-clause-history : goal.returns-clause-history
returns-clause-history c = (served c).history
