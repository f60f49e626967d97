use Rattle.std.proofs.Common.{◌≡◌, ℕ, ◌<◌, List, map, drop, Ok, ap, subst, ◌∙◌, arith, rules}
use Rattle.std.specs.Prelude.{unwrap_or}
use Rattle.std.specs.Arc.{arc_value}
use Rattle.std.specs.Result.{IfOk}
use Rattle.kube_meta.specs.declared.dynamic.DynamicObject.{DynamicObject}
use Rattle.kube_meta.specs.declared.poll.Polled.TheVariants.{Ready}
use Rattle.kube_model.specs.Raw.{RawAnswer}
use Rattle.kube_api.specs.Answers.{list_answer}
use Rattle.kube_server.specs.Tokens.{token_of}
use Rattle.kube_server.specs.Connections.{last_page, page_within}
use Rattle.kube_server.proofs.PageLemmas.{page_of-whole, page_of-within, seen_left}
use Rattle.kube_server.proofs.conn.page.Goals as goal

pub returns-then-most-eq0 : goal.returns-then-most-eq0
returns-then-most-eq0 c =
    let left = seen_left arc_value c.args.token.offset c.args.objects.now c.left_after-left.result.now c.left_after-left.ensures in
    let none : unwrap_or c.args.limit 0 ≡ 0 = first_of (omega arith, cc, search rules) in
    subst (λ (a : RawAnswer DynamicObject). IfOk c.last.result (λ p. list_answer (Ready (Ok p)) ≡ a)) (ap (λ (xs : List DynamicObject). last_page c.args.token.revision xs) left ∙ page_of-whole c.args.limit (token_of c.args.token) _ none) c.last.ensures

pub returns : goal.returns
returns c =
    let left = seen_left arc_value c.args.token.offset c.args.objects.now c.left_after-left.result.now c.left_after-left.ensures in
    let asked : c.unwrap_or-most.result ≡ unwrap_or c.args.limit 0 = first_of (cc, search rules) in
    let some : 0 < unwrap_or c.args.limit 0 = first_of (omega arith, search rules) in
    subst (λ (a : RawAnswer DynamicObject). IfOk c.within.result (λ p. list_answer (Ready (Ok p)) ≡ a)) (ap (λ (xs : List DynamicObject). page_within c.unwrap_or-most.result (token_of c.args.token) xs) left ∙ (ap (λ (n : ℕ). page_within n (token_of c.args.token) (drop c.args.token.offset (map arc_value c.args.objects.now))) asked ∙ page_of-within c.args.limit (token_of c.args.token) _ some)) c.within.ensures
