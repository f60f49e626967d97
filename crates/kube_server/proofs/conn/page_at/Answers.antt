use Rattle.std.proofs.Common.{◌≡◌, List, map, drop, Ok, sym, ap, subst, ◌∙◌}
use Rattle.std.specs.Arc.{arc_value}
use Rattle.std.specs.Result.{IfOk}
use Rattle.kube_meta.specs.declared.dynamic.DynamicObject.{DynamicObject}
use Rattle.kube_meta.specs.declared.poll.Polled.TheVariants.{Ready}
use Rattle.kube_api.specs.Answers.{list_answer}
use Rattle.kube_server.specs.declared.selector.Sought.{Sought}
use Rattle.kube_server.specs.History.{state_at, objects_of}
use Rattle.kube_server.specs.Tokens.{token_of}
use Rattle.kube_server.specs.Servers.{meta_of}
use Rattle.kube_server.specs.Stored.{name_of}
use Rattle.kube_server.specs.Logs.{LogState}
use Rattle.kube_server.specs.Connections.{named_at, page_of}
use Rattle.kube_server.proofs.PageLemmas.{any_named}
use Rattle.kube_server.proofs.conn.page_at.Goals as goal

pub returns-in-Any-clause-answer : goal.returns-in-Any-clause-answer
returns-in-Any-clause-answer c =
    let named : map arc_value c.shown.result.now ≡ named_at meta_of (name_of c.args.name.now) c.args.log.now.changes c.args.token.revision =
    c.shown.ensures
    ∙ (ap (λ (l : LogState). objects_of (state_at meta_of l.changes l.shown)) c.in_ok-show.ensures.ok
    ∙ (any_named meta_of (objects_of (state_at meta_of c.args.log.now.changes c.args.token.revision))
    ∙ ap (λ (s : Sought). named_at meta_of (name_of s) c.args.log.now.changes c.args.token.revision) (sym c.in-Any.is))) in
    subst (λ (objects : List DynamicObject). IfOk c.page.result (λ p. list_answer (Ready (Ok p)) ≡ page_of c.args.limit (token_of c.args.token) (drop c.args.token.offset objects))) named c.page.ensures
