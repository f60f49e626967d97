use Rattle.std.proofs.Common.{◌≡◌, ℕ, List, [], ◌∷◌, ◌++◌, string_bytes, string_cmp, refl, sym, ap, ◌∙◌, subst, append_assoc}
use Rattle.std.specs.List.Sorted.{IsStrictlySortedBy}
use Rattle.std.specs.Map.{keys_of}
use Rattle.serde_json.specs.View.{view, members_view}
use Rattle.serde_json.proofs.Views.{Entry}
use Rattle.kube_meta.specs.Reading.{pairs_at}
use Rattle.kube_script.proofs.Loops.{with_front, SameNames, with_pair-last, same_more, pairs_more}
use Rattle.kube_script.proofs.row.texts.Goals as goal

pub loop-name-preserved : goal.loop-name-preserved
loop-name-preserved c =
    let l = c.loop-name in
    let done = l.invariant.0 in
    let e : Entry = (c.in-Some.name.now, c.in-Some.value.now) in
    let left = c.next.new.self in
    let text : List ℕ = c.in-Ok.text in
    let pair : List ℕ × List ℕ = (string_bytes e.0, text) in
    let step : l.name-iterator ≡ e ∷ left = c.in-Some.ensures.steps in
    let all : c.args.members.now.entries ≡ done ++ e ∷ left = l.invariant.1 ∙ ap (λ es. done ++ es) step in
    let last = with_pair-last l.texts done e left text l.invariant.2 (subst (λ es. IsStrictlySortedBy string_cmp (keys_of es)) all c.iter-name-items.ensures.ordered) in
    let put : c.insert.new.self ≡ l.texts ++ pair ∷ [] = c.in_ok-insert-in-Ok.ensures.ok ∙ rw (c.as_str.ensures.value) last in
    let read = pairs_more l.texts (string_bytes e.0) text (view e.1) (members_view left) _ c.in-Ok.ensures (subst (λ es. with_front l.texts (pairs_at (members_view es)) ≡ pairs_at (members_view c.args.members.now.entries)) step l.invariant.3) in (
      done ++ e ∷ [],
      all ∙ sym (append_assoc done (e ∷ []) left),
      subst (λ ts. SameNames ts (done ++ e ∷ [])) (sym put) (same_more l.texts done pair e l.invariant.2 refl),
      subst (λ ts. with_front ts (pairs_at (members_view left)) ≡ pairs_at (members_view c.args.members.now.entries)) (sym put) read,
    )
