use Rattle.std.proofs.Common.{◌∙◌, sym, codes}
use Rattle.serde_json.specs.Data.{Members, member, string, number, unsigned}
use Rattle.kube_meta.specs.Reading.{ObjectData}
use Rattle.kube_model.specs.History.{Exchange}
use Rattle.kube_text.specs.Shown.{array_of}
use Rattle.kube_meta.specs.Writing.{object_data}
use Rattle.kube_text.specs.TraceText.{request_data, code_members, error_members, from_members, text_members, version_members, exchange_members}
use Rattle.kube_turn.specs.Views.{exchange_of}
use Rattle.kube_object.specs.Named.{named_type}
use Rattle.kube_text.proofs.Fronts.{later_shown}
use Rattle.kube_model.proofs.Results.{on_err}
use Rattle.kube_text.proofs.exchange.show_members.Goals as goal

-- the members from one on, with the rest behind them
abbrev from_version : Exchange ObjectData → Members → Members
from_version x rest = version_members x.answer rest

abbrev from_text : Exchange ObjectData → Members → Members
from_text x rest = text_members x.answer (from_version x rest)

abbrev from_source : Exchange ObjectData → Members → Members
from_source x rest = member (codes "source") (number (unsigned x.source)) (from_text x rest)

abbrev from_requests : Exchange ObjectData → Members → Members
from_requests x rest = member (codes "requests") (array_of request_data x.requests) (from_source x rest)

abbrev from_items : Exchange ObjectData → Members → Members
from_items x rest = member (codes "items") (array_of object_data x.items) (from_requests x rest)

abbrev from_from : Exchange ObjectData → Members → Members
from_from x rest = from_members x.call (from_items x rest)

abbrev from_error : Exchange ObjectData → Members → Members
from_error x rest = error_members x.error (from_from x rest)

abbrev from_code : Exchange ObjectData → Members → Members
from_code x rest = code_members x.answer (from_error x rest)

pub returns-clause-members : goal.returns-clause-members
unfolding exchange_members
returns-clause-members c rest =
    let x = exchange_of named_type c.args.exchange.now in
    rw (sym c.answer_word.ensures, sym c.call_word.ensures)
    (c.in_ok-text_member.ensures.members (member (codes "call") (string c.call_word.result.now) (from_code x rest))
    ∙ c.in_ok-text_member-2.ensures.members (from_code x rest)
    ∙ c.in_ok-show_code.ensures.members (from_error x rest)
    ∙ c.in_ok-show_error.ensures.members (from_from x rest)
    ∙ c.in_ok-show_from.ensures.members (from_items x rest)
    ∙ c.in_ok-member.ensures.members (from_requests x rest)
    ∙ c.in_ok-member-2.ensures.members (from_source x rest)
    ∙ c.in_ok-member-3.ensures.members (from_text x rest)
    ∙ c.in_ok-show_text.ensures.members (from_version x rest)
    ∙ c.in_ok-show_version.ensures.members rest)

pub returns-in_err-text_member-2-clause-front : goal.returns-in_err-text_member-2-clause-front
unfolding exchange_members
returns-in_err-text_member-2-clause-front c rest =
    let x = exchange_of named_type c.args.exchange.now in
    rw (sym c.answer_word.ensures, sym c.call_word.ensures)
    (on_err _ _
    (later_shown _ _ _ _ _ c.in_ok-text_member.ensures.members
    (c.in_err-text_member-2.ensures.front (from_code x rest))))

pub returns-in_err-show_code-clause-front : goal.returns-in_err-show_code-clause-front
unfolding exchange_members
returns-in_err-show_code-clause-front c rest =
    let x = exchange_of named_type c.args.exchange.now in
    rw (sym c.answer_word.ensures, sym c.call_word.ensures)
    (on_err _ _
    (later_shown _ _ _ _ _ c.in_ok-text_member.ensures.members
    (later_shown _ _ _ _ _ c.in_ok-text_member-2.ensures.members
    (c.in_err-show_code.ensures.front (from_error x rest)))))

pub returns-in_err-show_error-clause-front : goal.returns-in_err-show_error-clause-front
unfolding exchange_members
returns-in_err-show_error-clause-front c rest =
    let x = exchange_of named_type c.args.exchange.now in
    rw (sym c.answer_word.ensures, sym c.call_word.ensures)
    (on_err _ _
    (later_shown _ _ _ _ _ c.in_ok-text_member.ensures.members
    (later_shown _ _ _ _ _ c.in_ok-text_member-2.ensures.members
    (later_shown _ _ _ _ _ c.in_ok-show_code.ensures.members
    (c.in_err-show_error.ensures.front (from_from x rest))))))

pub returns-in_err-show_from-clause-front : goal.returns-in_err-show_from-clause-front
unfolding exchange_members
returns-in_err-show_from-clause-front c rest =
    let x = exchange_of named_type c.args.exchange.now in
    rw (sym c.answer_word.ensures, sym c.call_word.ensures)
    (on_err _ _
    (later_shown _ _ _ _ _ c.in_ok-text_member.ensures.members
    (later_shown _ _ _ _ _ c.in_ok-text_member-2.ensures.members
    (later_shown _ _ _ _ _ c.in_ok-show_code.ensures.members
    (later_shown _ _ _ _ _ c.in_ok-show_error.ensures.members
    (c.in_err-show_from.ensures.front (from_items x rest)))))))

pub returns-in_err-member-clause-front : goal.returns-in_err-member-clause-front
unfolding exchange_members
returns-in_err-member-clause-front c rest =
    let x = exchange_of named_type c.args.exchange.now in
    rw (sym c.answer_word.ensures, sym c.call_word.ensures)
    (on_err _ _
    (later_shown _ _ _ _ _ c.in_ok-text_member.ensures.members
    (later_shown _ _ _ _ _ c.in_ok-text_member-2.ensures.members
    (later_shown _ _ _ _ _ c.in_ok-show_code.ensures.members
    (later_shown _ _ _ _ _ c.in_ok-show_error.ensures.members
    (later_shown _ _ _ _ _ c.in_ok-show_from.ensures.members
    (c.in_err-member.ensures.front (from_requests x rest))))))))

pub returns-in_err-member-2-clause-front : goal.returns-in_err-member-2-clause-front
unfolding exchange_members
returns-in_err-member-2-clause-front c rest =
    let x = exchange_of named_type c.args.exchange.now in
    rw (sym c.answer_word.ensures, sym c.call_word.ensures)
    (on_err _ _
    (later_shown _ _ _ _ _ c.in_ok-text_member.ensures.members
    (later_shown _ _ _ _ _ c.in_ok-text_member-2.ensures.members
    (later_shown _ _ _ _ _ c.in_ok-show_code.ensures.members
    (later_shown _ _ _ _ _ c.in_ok-show_error.ensures.members
    (later_shown _ _ _ _ _ c.in_ok-show_from.ensures.members
    (later_shown _ _ _ _ _ c.in_ok-member.ensures.members
    (c.in_err-member-2.ensures.front (from_source x rest)))))))))

pub returns-in_err-member-3-clause-front : goal.returns-in_err-member-3-clause-front
unfolding exchange_members
returns-in_err-member-3-clause-front c rest =
    let x = exchange_of named_type c.args.exchange.now in
    rw (sym c.answer_word.ensures, sym c.call_word.ensures)
    (on_err _ _
    (later_shown _ _ _ _ _ c.in_ok-text_member.ensures.members
    (later_shown _ _ _ _ _ c.in_ok-text_member-2.ensures.members
    (later_shown _ _ _ _ _ c.in_ok-show_code.ensures.members
    (later_shown _ _ _ _ _ c.in_ok-show_error.ensures.members
    (later_shown _ _ _ _ _ c.in_ok-show_from.ensures.members
    (later_shown _ _ _ _ _ c.in_ok-member.ensures.members
    (later_shown _ _ _ _ _ c.in_ok-member-2.ensures.members
    (c.in_err-member-3.ensures.front (from_text x rest))))))))))

pub returns-in_err-show_text-clause-front : goal.returns-in_err-show_text-clause-front
unfolding exchange_members
returns-in_err-show_text-clause-front c rest =
    let x = exchange_of named_type c.args.exchange.now in
    rw (sym c.answer_word.ensures, sym c.call_word.ensures)
    (on_err _ _
    (later_shown _ _ _ _ _ c.in_ok-text_member.ensures.members
    (later_shown _ _ _ _ _ c.in_ok-text_member-2.ensures.members
    (later_shown _ _ _ _ _ c.in_ok-show_code.ensures.members
    (later_shown _ _ _ _ _ c.in_ok-show_error.ensures.members
    (later_shown _ _ _ _ _ c.in_ok-show_from.ensures.members
    (later_shown _ _ _ _ _ c.in_ok-member.ensures.members
    (later_shown _ _ _ _ _ c.in_ok-member-2.ensures.members
    (later_shown _ _ _ _ _ c.in_ok-member-3.ensures.members
    (c.in_err-show_text.ensures.front (from_version x rest)))))))))))

pub returns-in_err-show_version-clause-front : goal.returns-in_err-show_version-clause-front
unfolding exchange_members
returns-in_err-show_version-clause-front c rest =
    let x = exchange_of named_type c.args.exchange.now in
    rw (sym c.answer_word.ensures, sym c.call_word.ensures)
    (on_err _ _
    (later_shown _ _ _ _ _ c.in_ok-text_member.ensures.members
    (later_shown _ _ _ _ _ c.in_ok-text_member-2.ensures.members
    (later_shown _ _ _ _ _ c.in_ok-show_code.ensures.members
    (later_shown _ _ _ _ _ c.in_ok-show_error.ensures.members
    (later_shown _ _ _ _ _ c.in_ok-show_from.ensures.members
    (later_shown _ _ _ _ _ c.in_ok-member.ensures.members
    (later_shown _ _ _ _ _ c.in_ok-member-2.ensures.members
    (later_shown _ _ _ _ _ c.in_ok-member-3.ensures.members
    (later_shown _ _ _ _ _ c.in_ok-show_text.ensures.members
    (c.in_err-show_version.ensures.front rest)))))))))))
