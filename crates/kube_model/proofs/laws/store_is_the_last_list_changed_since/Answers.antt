use Rattle.std.proofs.Common.{ap, sym, ◌∙◌, Some, None, if◌then◌else◌}
use Rattle.kube_model.specs.History.{TurnRecord, exchanges_of}
use Rattle.kube_model.specs.Store.{store_of}
use Rattle.kube_model.specs.Stored.{stored_by, store_in}
use Rattle.kube_model.proofs.Histories.{exchanges-push}
use Rattle.kube_model.proofs.laws.store_is_the_last_list_changed_since.Goals as goal

pub returns : goal.returns
returns g c w settings watched policies h t m k shows xs same =
    ap (λ (r : TurnRecord _). r.store) k.determined
    ∙ ap (λ feed. (stored_by w feed h t m.1 m.0.exchanges).shown) watched
    ∙ ap (λ b. if b then Some (store_in w h t m.0.exchanges) else None) shows
    ∙ ap (λ ds. Some (store_of w.key (exchanges_of 0 ds))) (sym (exchanges-push h t m))
    ∙ ap (λ ys. Some (store_of w.key ys)) (sym same)
