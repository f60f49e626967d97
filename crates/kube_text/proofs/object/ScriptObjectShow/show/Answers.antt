use Rattle.std.proofs.Common.{◌∙◌, ◌++◌, ap, sym}
use Rattle.serde_json.specs.Data.{no_members}
use Rattle.kube_meta.specs.Reading.{others}
use Rattle.kube_meta.specs.Writing.{with_fields, content_members}
use Rattle.kube_text.specs.Fields.{left}
use Rattle.kube_text.specs.Shown.{member_tokens, tokens_of}
use Rattle.kube_text.specs.declared.object.Next.TheVariants as nexts
use Rattle.kube_text.proofs.Fields.{object_as_fields}
use Rattle.kube_text.proofs.Shown.{object_shown}
use Rattle.kube_text.proofs.Fronts.{due_shown, none_shown, object_front}
use Rattle.kube_model.proofs.Results.{on_err}
use Rattle.kube_text.proofs.object.ScriptObjectShow.show.Goals as goal

pub returns-clause-tokens : goal.returns-clause-tokens
returns-clause-tokens c =
    let o = c.args.self.now in
    object_shown c.args.out.now.tokens c.begin_object.new.self.tokens c.show_due.new.out.tokens c.end_object.new.self.tokens
    (with_fields (left nexts.ApiVersion o) (others (content_members o.content)))
    c.in_ok-begin_object.ensures.ok
    (c.in_ok-next.ensures.members ∙ c.in_ok-show_due.ensures.members no_members tt
    ∙ ap (λ fs. c.show_due.new.out.tokens ++ member_tokens (with_fields fs no_members)) c.in_ok-show_due.ensures.past)
    c.in_ok-end_object.ensures.ok
    ∙ ap (λ d. c.args.out.now.tokens ++ tokens_of d) (sym (object_as_fields o))

pub returns-in_err-next-clause-front : goal.returns-in_err-next-clause-front
returns-in_err-next-clause-front c =
    rw (object_as_fields c.args.self.now)
    (on_err _ _ (object_front _ _ _ _ c.in_ok-begin_object.ensures.ok c.in_err-next.ensures.front))

pub returns-in_err-show_due-clause-front : goal.returns-in_err-show_due-clause-front
returns-in_err-show_due-clause-front c =
    rw (object_as_fields c.args.self.now)
    (on_err _ _ (object_front _ _ _ _ c.in_ok-begin_object.ensures.ok
    (due_shown _ _ _ _ _ c.in_ok-next.ensures.more c.in_ok-next.ensures.members (c.in_err-show_due.ensures.front no_members tt))))

pub returns-in_err-end_object-clause-front : goal.returns-in_err-end_object-clause-front
returns-in_err-end_object-clause-front c =
    rw (object_as_fields c.args.self.now)
    (on_err _ _ (object_front _ _ _ _ c.in_ok-begin_object.ensures.ok
    (due_shown _ _ _ _ _ c.in_ok-next.ensures.more c.in_ok-next.ensures.members
    (due_shown _ _ _ _ _ c.in_ok-show_due.ensures.more (c.in_ok-show_due.ensures.members no_members tt) (none_shown _ _ _ c.in_err-end_object.ensures.err)))))
