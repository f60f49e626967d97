use Rattle.kube_model.proofs.Results.{on_err}
use Rattle.kube_text.proofs.exchange.show_code.Goals as goal

pub returns-in_err-member-in-ErrorItem-clause-front : goal.returns-in_err-member-in-ErrorItem-clause-front
returns-in_err-member-in-ErrorItem-clause-front c rest =
    rw c.in-ErrorItem.is (on_err _ _ (c.in_err-member-in-ErrorItem.ensures.front rest))

pub returns-in_err-member-in-Bookmark-clause-front : goal.returns-in_err-member-in-Bookmark-clause-front
returns-in_err-member-in-Bookmark-clause-front c rest =
    rw c.in-Bookmark.is (on_err _ _ (c.in_err-member-in-Bookmark.ensures.front rest))
