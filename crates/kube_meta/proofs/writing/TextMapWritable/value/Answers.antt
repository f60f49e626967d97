use Rattle.std.proofs.Common.{◌≡◌, [], ◌∷◌, ◌++◌, string_bytes, string_cmp, sym, ap, ◌∙◌, subst, append_assoc, rules}
use Rattle.std.specs.List.Sorted.{IsStrictlySortedBy}
use Rattle.std.specs.Map.{keys_of}
use Rattle.kube_meta.proofs.Loops.{TextEntry, put-last_text}
use Rattle.kube_meta.proofs.writing.TextMapWritable.value.Goals as goal

pub loop-name-preserved : goal.loop-name-preserved
loop-name-preserved c =
    let l = c.loop-name in
    let done = l.invariant.0 in
    let e : TextEntry = (c.in-Some.name.now, c.in-Some.text.now) in
    let left = c.next.new.self in
    let all : c.into_iter-name-iterator.result ≡ done ++ e ∷ left = l.invariant.1 ∙ ap (λ es. done ++ es) c.in-Some.ensures.steps in
    let whole : c.as_map.result.now.entries ≡ c.into_iter-name-iterator.result = search rules in
    let last = put-last_text done e left (subst (λ es. IsStrictlySortedBy string_cmp (keys_of es)) (whole ∙ all) c.iter-name-items.ensures.ordered) in
    let named : c.as_str.result.now ≡ string_bytes e.0 = c.as_str.ensures.value in (
      done ++ e ∷ [],
      all ∙ sym (append_assoc done (e ∷ []) left),
      c.in_ok-put.ensures.ok ∙ rw (named, c.in_ok-value.ensures, l.invariant.2) last,
    )
