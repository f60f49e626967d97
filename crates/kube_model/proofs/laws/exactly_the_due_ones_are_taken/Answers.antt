use Rattle.std.proofs.Common.{◌≡◌, ◌∷◌, ◌++◌, [], zero-add, subst, sym, ap, ◌∙◌, is_some, if◌then◌else◌}
use Rattle.std.specs.List.{count_by}
use Rattle.kube_model.specs.History.{TurnRecord}
use Rattle.kube_model.specs.Stored.{stored_in}
use Rattle.kube_model.specs.Requests.{waiting_in}
use Rattle.kube_model.specs.Takes.{found_with, has_room, taken_of, within_room}
use Rattle.kube_model.specs.Turns.{running_in}
use Rattle.kube_model.proofs.Rooms.{room-split}
use Rattle.kube_model.proofs.laws.exactly_the_due_ones_are_taken.Goals as goal

pub returns-clause-due : goal.returns-clause-due
returns-clause-due g c w policies h t m k ready before after u looks n running count runs =
    ap (λ (r : TurnRecord _). r.taken) k.determined
    ∙ ap (λ b. if b then taken_of w.limit (stored_in w h t m.1 m.0.exchanges).found_of (running_in w h t) (waiting_in w h t m.1 m.0.finished m.0.exchanges) else []) ready
    ∙ ap (within_room w.limit _ 0) looks
    ∙ ap (λ r. within_room w.limit r 0 (before ++ u ∷ after)) (sym runs)
    ∙ subst (λ k. within_room w.limit running 0 (before ++ u ∷ after) ≡ within_room w.limit running 0 before ++ ((if has_room w.limit running k then u ∷ [] else []) ++ within_room w.limit running (found_with k u.object) after))
    (zero-add (count_by (λ v. is_some v.object) before) ∙ sym count) (room-split w.limit running 0 before u after)

pub returns-clause-nothing : goal.returns-clause-nothing
returns-clause-nothing g c w policies h t m k ready =
    ap (λ (r : TurnRecord _). r.taken) k.determined
    ∙ ap (λ b. if b then taken_of w.limit (stored_in w h t m.1 m.0.exchanges).found_of (running_in w h t) (waiting_in w h t m.1 m.0.finished m.0.exchanges) else []) ready
