use Rattle.kube_text.proofs.Fronts.{due_shown, none_shown, object_front, value_front}
use Rattle.kube_model.proofs.Results.{on_err}
use Rattle.std.proofs.Common.{◌≡◌, ◌++◌, ◌∙◌, ap, sym}
use Rattle.serde_json.specs.Data.{member, string}
use Rattle.kube_meta.specs.Pairs.{pairs_of}
use Rattle.kube_meta.specs.Writing.{text_members}
use Rattle.kube_text.specs.Shown.{member_tokens}
use Rattle.kube_text.proofs.metadata.TextMapShow.show.Goals as goal

pub returns-in_err-key-clause-front : goal.returns-in_err-key-clause-front
returns-in_err-key-clause-front c =
    let l = c.loop-name in
    let whole : pairs_of c.into_iter-name-iterator.result ≡ c.args.self.now = cc in
    rw (sym whole)
    (on_err _ _ (object_front _ _ _ _ c.in_ok-begin_object.ensures.ok (due_shown _ _ _ _ _ l.invariant.2 (sym l.invariant.1) (none_shown _ _ _ c.in_err-key.ensures.err))))

pub returns-in_err-show-clause-front : goal.returns-in_err-show-clause-front
returns-in_err-show-clause-front c =
    let l = c.loop-name in
    let whole : pairs_of c.into_iter-name-iterator.result ≡ c.args.self.now = cc in
    let steps = ap (λ xs. l.out.tokens ++ member_tokens (text_members (pairs_of xs))) c.in-Some.ensures.steps in
    let named = ap (λ n. l.out.tokens ++ member_tokens (member n (string c.in-Some.text.now) (text_members (pairs_of c.next.new.self)))) (sym c.as_str.ensures.value) in
    rw (sym whole)
    (on_err _ _ (object_front _ _ _ _ c.in_ok-begin_object.ensures.ok
    (due_shown _ _ _ _ _ l.invariant.2 (sym l.invariant.1 ∙ steps ∙ named) (value_front _ _ _ _ _ _ c.in_ok-key.ensures.ok c.in_err-show.ensures.front))))

pub returns-in_err-end_object-clause-front : goal.returns-in_err-end_object-clause-front
returns-in_err-end_object-clause-front c =
    let l = c.loop-name in
    let whole : pairs_of c.into_iter-name-iterator.result ≡ c.args.self.now = cc in
    rw (sym whole)
    (on_err _ _ (object_front _ _ _ _ c.in_ok-begin_object.ensures.ok (due_shown _ _ _ _ _ l.invariant.2 (sym l.invariant.1) (none_shown _ _ _ c.in_err-end_object.ensures.err))))
