use Rattle.std.proofs.Common.{◌∙◌, ap, ap₂, sym, length, map}
use Rattle.std.specs.List.{list_all}
use Rattle.std.proofs.lemmas.List.{length-map}
use Rattle.kube_meta.specs.Keys.{reference_of}
use Rattle.kube_reflect.specs.Lags.{is_within}
use Rattle.kube_reflect.specs.Subscribers.{Ring, is_full, offered}
use Rattle.kube_reflect.proofs.Lagging.{seen_ring, seen_waiting, any-reaches, none-told, told, within-told, map-pushed}
use Rattle.kube_reflect.proofs.ring.Ring.offer.Goals as goal

pub returns-then-any_reaches-clause-full : goal.returns-then-any_reaches-clause-full
returns-then-any_reaches-clause-full g c = λ _.
    let ref = reference_of g.K.Resource.type_of in
    let items = c.self.inside.references.items in
    let lags = c.self.inside.lags in
    let room = c.self.inside.room in
    let w = ap (λ n. list_all (is_within n) lags) (length-map items ref) ∙ c.self.invariant in
    ap is_full (sym c.self.view_is)
    ∙ (any-reaches room (map ref items) lags w
    ∙ (sym c.any_reaches.ensures ∙ c.if-any_reaches.true))

pub invariant_of-self-then-any_there : goal.invariant_of-self-then-any_there
invariant_of-self-then-any_there g c =
    let ref = reference_of g.K.Resource.type_of in
    let items = c.self.inside.references.items in
    let lags = c.self.inside.lags in
    let room = c.self.inside.room in
    let w = ap (λ n. list_all (is_within n) lags) (length-map items ref) ∙ c.self.invariant in
    let f = sym c.any_reaches.ensures ∙ c.if-any_reaches.false in
    let k = c.raise.ensures in
    let n = sym (length-map c.push.new.references.items ref) ∙ ap length (ap (map ref) c.in_ok-push.ensures.ok ∙ map-pushed ref room items c.args.reference) in
    ap₂ (λ m ls. list_all (is_within m) ls) n k ∙ within-told room (map ref items) (ref c.args.reference) lags w f

pub returns-in_ok-push-clause-ok : goal.returns-in_ok-push-clause-ok
returns-in_ok-push-clause-ok g c =
    let ref = reference_of g.K.Resource.type_of in
    let items = c.self.inside.references.items in
    let lags = c.self.inside.lags in
    let room = c.self.inside.room in
    let over = c.self.inside.is_closed in
    let w = ap (λ n. list_all (is_within n) lags) (length-map items ref) ∙ c.self.invariant in
    let f = sym c.any_reaches.ensures ∙ c.if-any_reaches.false in
    let k = c.raise.ensures in
    let p = ap (map ref) c.in_ok-push.ensures.ok ∙ map-pushed ref room items c.args.reference in
    ap₂ (λ rs ls. seen_ring room rs ls over) p k
    ∙ (ap (λ ws. seen_waiting room ws over) (told room (map ref items) (ref c.args.reference) lags w f)
    ∙ ap (λ (r : Ring). offered r (ref c.args.reference)) c.self.view_is)

pub returns-in_ok-push-clause-room : goal.returns-in_ok-push-clause-room
returns-in_ok-push-clause-room g c =
    let ref = reference_of g.K.Resource.type_of in
    let items = c.self.inside.references.items in
    let lags = c.self.inside.lags in
    let room = c.self.inside.room in
    let w = ap (λ n. list_all (is_within n) lags) (length-map items ref) ∙ c.self.invariant in
    ap is_full (sym c.self.view_is)
    ∙ (any-reaches room (map ref items) lags w
    ∙ (sym c.any_reaches.ensures ∙ c.if-any_reaches.false))

pub returns-else-any_there-clause-ok : goal.returns-else-any_there-clause-ok
returns-else-any_there-clause-ok g c =
    let ref = reference_of g.K.Resource.type_of in
    let rs = map ref c.self.inside.references.items in
    let lags = c.self.inside.lags in
    let n = sym c.any_there.ensures ∙ c.if-any_there.false in
    sym c.self.view_is
    ∙ (ap (λ ws. seen_waiting c.self.inside.room ws c.self.inside.is_closed) (none-told (ref c.args.reference) rs lags n)
    ∙ ap (λ (r : Ring). offered r (ref c.args.reference)) c.self.view_is)

pub returns-else-any_there-clause-room : goal.returns-else-any_there-clause-room
returns-else-any_there-clause-room g c =
    let ref = reference_of g.K.Resource.type_of in
    let items = c.self.inside.references.items in
    let lags = c.self.inside.lags in
    let room = c.self.inside.room in
    let w = ap (λ n. list_all (is_within n) lags) (length-map items ref) ∙ c.self.invariant in
    ap is_full (sym c.self.view_is)
    ∙ (any-reaches room (map ref items) lags w
    ∙ (sym c.any_reaches.ensures ∙ c.if-any_reaches.false))
