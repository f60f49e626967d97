use Rattle.std.proofs.Common.{Some, cond, sym, ap, ◌∙◌}
use Rattle.serde_json.specs.Events.{items_len}
use Rattle.serde_json.specs.Find.{index_of}
use Rattle.serde_json.specs.View.{items_view}
use Rattle.serde_json.proofs.Views.{items_len-items_view}
use Rattle.kube_api.proofs.change.place.Goals as goal

pub returns-then-eq : goal.returns-then-eq
returns-then-eq c =
    ap Some (sym (items_len-items_view c.args.items.now)) ∙ ap (λ b. cond b (Some (items_len (items_view c.args.items.now))) (index_of c.args.name.now)) c.if-eq.ensures

pub returns-else-eq : goal.returns-else-eq
returns-else-eq c =
    c.index.ensures ∙ ap (λ b. cond b (Some (items_len (items_view c.args.items.now))) (index_of c.args.name.now)) c.if-eq.ensures
