use Rattle.std.proofs.Common.{◌≡◌, map, take}
use Rattle.std.specs.Arc.{arc_value}
use Rattle.kube_server.specs.Tokens.{token_of}
use Rattle.kube_server.proofs.PageLemmas.{page_within-more}
use Rattle.kube_server.proofs.conn.within.Goals as goal

pub returns : goal.returns
returns c =
    let items : map arc_value c.in_ok-share_all.field-0 ≡ map arc_value (take c.args.most c.args.left.now) = c.in_ok-share_all.ensures in
    page_within-more arc_value c.args.most (token_of c.args.token) c.args.left.now _ c.in_ok-text.field-0 c.if-left-most.false items c.in_ok-text.ensures
