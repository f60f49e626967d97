-- Texts with commas between them, written one after the other.
use Rattle.std.proofs.Common.{◌≡◌, ℕ, ◌+◌, ◌<◌, List, [], ◌∷◌, ◌++◌, length, take, get_or, refl, sym, ap, ◌∙◌, append_assoc, append-nil}
use Rattle.std.proofs.lemmas.List.{take_more}
use Rattle.std.specs.declared.fmt.Formatter.{Formatter}
use Rattle.std.specs.Fmt.{HasWritten}
use Rattle.std.proofs.Output.{has_written_append, has_written_of_eq}
use Rattle.kube_meta.specs.declared.selector.Expression.{Expression}
use Rattle.kube_meta.specs.Selectors.{behind_commas, with_commas, expression_text, expression_texts}

-- what stands before the next text
abbrev pub comma_after : List (List ℕ) → List ℕ
comma_after [] = []
comma_after (t ∷ ts) = 44 ∷ []

behind-more : (ts : List (List ℕ)) (t : List ℕ) → behind_commas (ts ++ t ∷ []) ≡ behind_commas ts ++ 44 ∷ t
behind-more [] t = ap (λ s. 44 ∷ s) (append-nil t)
behind-more (s ∷ ts) t = ap (λ r. 44 ∷ (s ++ r)) (behind-more ts t) ∙ ap (λ r. 44 ∷ r) (sym (append_assoc s (behind_commas ts) (44 ∷ t)))

-- one more text
pub commas-more : (ts : List (List ℕ)) (t : List ℕ) → with_commas (ts ++ t ∷ []) ≡ with_commas ts ++ (comma_after ts ++ t)
commas-more [] t = append-nil t
commas-more (s ∷ ts) t = ap (λ r. s ++ r) (behind-more ts t) ∙ sym (append_assoc s (behind_commas ts) (44 ∷ t))

pub comma-more : (ts : List (List ℕ)) (t : List ℕ) → 44 ∷ [] ≡ comma_after (ts ++ t ∷ [])
comma-more [] t = refl
comma-more (s ∷ ts) t = refl

-- what stands before a text was written, and the text
pub comma_written : {W : Type 0} (took : W → List ℕ → W → Type 0) (f g h i : Formatter W) (ts : List (List ℕ)) (separator t : List ℕ) → separator ≡ comma_after ts
    → HasWritten took f (with_commas ts) g → HasWritten took g separator h → HasWritten took h t i → HasWritten took f (with_commas (ts ++ t ∷ [])) i
comma_written took f g h i ts separator t e x y z =
    has_written_of_eq _ _ _ _ _ (ap (λ s. with_commas ts ++ (s ++ t)) e ∙ sym (commas-more ts t)) (has_written_append _ _ _ _ _ _ x (has_written_append _ _ _ _ _ _ y z))

texts-append : (es : List Expression) (e : Expression) → expression_texts (es ++ e ∷ []) ≡ expression_texts es ++ expression_text e ∷ []
texts-append [] e = refl
texts-append (f ∷ es) e = ap (λ r. expression_text f ∷ r) (texts-append es e)

pub expressions-more : (es : List Expression) (i : ℕ) (e d : Expression) → i < length es → e ≡ get_or es i d → expression_texts (take (i + 1) es) ≡ expression_texts (take i es) ++ expression_text e ∷ []
expressions-more es i e d h is =
    ap expression_texts (take_more es i d h) ∙ texts-append (take i es) (get_or es i d) ∙ ap (λ x. expression_texts (take i es) ++ expression_text x ∷ []) (sym is)
