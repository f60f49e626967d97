use Rattle.std.proofs.Common.{map, refl, ap, subst, ◌∙◌}
use Rattle.std.proofs.lemmas.Result.{on_ok_weaker}
use Rattle.kube_meta.specs.Keys.{reference_of}
use Rattle.kube_meta.specs.Reference.{reference_before}
use Rattle.kube_model.specs.Queue.{sorted_by}
use Rattle.kube_model.specs.Requests.{requested_at}
use Rattle.kube_history.specs.TurnCalls.{with_requests}
use Rattle.kube_core.specs.Pendings.{Stands}
use Rattle.kube_reflect.specs.Published.{stored_in}
use Rattle.kube_reflect.specs.Reads.{objects}
use Rattle.kube_core.specs.Cores.{in_bulk}
use Rattle.kube_feed.proofs.Keyed.{keys-in}
use Rattle.kube_feed.proofs.Reading.{later-by, read-by}
use Rattle.kube_feed.proofs.reads.reload.Goals as goal

pub returns-in_err-keys-clause-same : goal.returns-in_err-keys-clause-same
returns-in_err-keys-clause-same g c = later-by c.args.reader.now c.keys.new.self c.in_err-keys.ensures.own c.in_err-keys.ensures.later

pub returns-in_err-requests-clause-same : goal.returns-in_err-requests-clause-same
returns-in_err-requests-clause-same g c = later-by c.args.reader.now c.keys.new.self c.in_ok-keys.ensures.own c.in_ok-keys.ensures.later

pub returns-in_err-keys-2-clause-same : goal.returns-in_err-keys-2-clause-same
returns-in_err-keys-2-clause-same g c = later-by c.args.reader.now c.keys.new.self c.in_ok-keys.ensures.own c.in_ok-keys.ensures.later

pub returns-clause-same : goal.returns-clause-same
returns-clause-same g c = later-by c.args.reader.now c.keys.new.self c.in_ok-keys.ensures.own c.in_ok-keys.ensures.later

pub returns-clause-reloaded : goal.returns-clause-reloaded
returns-clause-reloaded g c =
    let type_of = g.K.Resource.type_of in
    let meta = g.K.Resource.meta_of in
    let at = c.args.at.0 in
    let e = c.in_ok-keys.ensures in
    let new = c.keys.new.self in
    on_ok_weaker c.request_all.result
    (λ stands. (
      objects (stored_in meta new),
      (read-by c.args.reader.now new e.own e.later e.readable, refl),
      λ core qs rs is s.
          subst (λ ms. Stands type_of core c.request_all.new.pending (with_requests qs at (map (requested_at at) ms)) rs)
          (c.in_ok-requests.ensures ∙ ap (λ keys. map in_bulk (sorted_by reference_before keys)) (keys-in meta new (type_of c.args.dyntype.now) core (map (reference_of type_of) c.in_ok-keys.keys.items) (map (reference_of type_of) c.in_ok-keys-2.keys.items) is c.in_ok-keys-2.ensures e.read))
          (stands core qs rs s),
    ))
    c.request_all.ensures
