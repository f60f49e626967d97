use Rattle.std.proofs.Common.{◌≡◌, length, string_bytes, sym, ap, ◌∙◌, rules}
use Rattle.std.specs.List.{flat_map}
use Rattle.std.proofs.lemmas.List.Sums.{fold-append}
use Rattle.kube_meta.specs.Pairs.{pairs_of}
use Rattle.kube_streams.specs.Properties.{folded, folded_byte, number_bytes, pair_bytes, text_bytes}
use Rattle.kube_streams.proofs.Folds.{pair_first}
use Rattle.kube_streams.proofs.fold.Fold.map.Goals as goal

pub loop-key-preserved : goal.loop-key-preserved
loop-key-preserved c =
    let l = c.loop-key in
    let left = c.next.new.self in
    let key = string_bytes c.in-Some.key.now in
    let text = c.in-Some.text.now in
    let named : c.as_str.result.now ≡ key = c.as_str.ensures.value in
    let fed : c.text-in-loop-key.new.self ≡ folded (folded l.self (text_bytes key)) (text_bytes text)
    = c.text-in-loop-key.ensures ∙ ap (λ t. folded c.text.new.self (text_bytes t)) c.as_str-in-loop-key.ensures
    ∙ ap (λ h. folded h (text_bytes text)) (c.text.ensures ∙ ap (λ k. folded l.self (text_bytes k)) named) in
    ap (λ h. folded h (flat_map pair_bytes (pairs_of left))) fed ∙ sym (pair_first l.self key text (pairs_of left))
    ∙ ap (λ es. folded l.self (flat_map pair_bytes (pairs_of es))) (sym c.in-Some.ensures.steps) ∙ l.invariant

pub returns : goal.returns
returns c =
    let l = c.loop-key in
    let map = c.args.map.now in
    let whole : c.as_map.result.now.entries ≡ c.into_iter-key-iterator.result = search rules in
    let entries : pairs_of c.into_iter-key-iterator.result ≡ map = ap pairs_of (sym whole) ∙ c.as_map.ensures in
    ap (λ es. folded l.self (flat_map pair_bytes (pairs_of es))) (sym (c.in-None.ensures.steps.0)) ∙ l.invariant
    ∙ ap (λ ps. folded c.number.new.self (flat_map pair_bytes ps)) entries
    ∙ ap (λ h. folded h (flat_map pair_bytes map)) (c.number.ensures ∙ ap (λ n. folded c.args.self.now (number_bytes n)) c.len.ensures)
    ∙ sym (fold-append folded_byte c.args.self.now (number_bytes (length map)) (flat_map pair_bytes map))
