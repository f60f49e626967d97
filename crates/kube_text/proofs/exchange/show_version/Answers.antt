use Rattle.std.proofs.Common.{sym, ◌≡◌, codes, option_map, arith}
use Rattle.serde_json.specs.Data.{string, member}
use Rattle.kube_text.proofs.Fronts.{later_shown}
use Rattle.kube_text.proofs.Shown.{same_option}
use Rattle.kube_model.proofs.Results.{on_err}
use Rattle.kube_text.specs.TraceText.{text_or_null, version_members}
use Rattle.kube_text.proofs.exchange.show_version.Goals as goal

pub returns-in_err-member-in-Page-clause-front : goal.returns-in_err-member-in-Page-clause-front
returns-in_err-member-in-Page-clause-front c rest =
    rw (c.in-Page.is, sym (same_option string c.in-Page.token), sym (same_option string c.in-Page.version))
    (on_err _ _ (c.in_err-member-in-Page.ensures.front _))

pub returns-in_err-member-in-Page-2-clause-front : goal.returns-in_err-member-in-Page-2-clause-front
returns-in_err-member-in-Page-2-clause-front c rest =
    rw (c.in-Page.is, sym (same_option string c.in-Page.token), sym (same_option string c.in-Page.version))
    (on_err _ _ (later_shown _ _ _ _ _ c.in_ok-member-in-Page.ensures.members (c.in_err-member-in-Page-2.ensures.front _)))

pub returns-in_err-member-in-Bookmark-clause-front : goal.returns-in_err-member-in-Bookmark-clause-front
returns-in_err-member-in-Bookmark-clause-front c rest =
    rw c.in-Bookmark.is (on_err _ _ (c.in_err-member-in-Bookmark.ensures.front rest))

pub returns-in_err-member-in-Added-clause-front : goal.returns-in_err-member-in-Added-clause-front
returns-in_err-member-in-Added-clause-front c rest =
    let shown : version_members c.args.answer.now rest ≡ member (codes "version") (text_or_null (option_map (λ x. x) c.in-Added.version)) rest = grind (arith, same_option) in
    rw shown (on_err _ _ (c.in_err-member-in-Added.ensures.front rest))
