-- Polls of a stream, one after another.
use Rattle.std.proofs.Common.{◌≡◌, ℕ, ◌+◌, ◌∙◌, true, false, Err, List, [], ◌∷◌, ◌++◌, replicate, Ok, refl, sym, ap, subst}
use Rattle.std.proofs.lemmas.List.{replicate_more}
use Rattle.kube_meta.specs.declared.poll.Next.TheVariants.{Item, NotReady, Spent, End}
use Rattle.kube_watch.specs.Streams.{Answer}
use Rattle.kube_watch.specs.Asking.{Polls, gives_something}

module _ {S I : Type 0} (polls : S → ℕ → ℕ → Answer I → S → Type 0) (now : ℕ) where
  pub polls-push : (s m s' : S) (xs : List (Answer I)) (a : Answer I) → Polls polls now s xs m → polls m now 1 a s' → Polls polls now s (xs ++ a ∷ []) s'
  polls-push s m s' [] a e p = (s', subst (λ q. polls q now 1 a s') (sym e) p, refl)
  polls-push s m s' (x ∷ xs) a h p = (h.0, h.1, polls-push h.0 m s' xs a h.2 p)

  pub polls-idle : (s m s' : S) (n : ℕ) (a : Answer I) → Polls polls now s (replicate n (Ok Spent)) m → polls m now 1 a s' → a ≡ Ok Spent → Polls polls now s (replicate (n + 1) (Ok Spent)) s'
  polls-idle s m s' n a h p e =
      subst (λ xs. Polls polls now s xs s') (replicate_more n (Ok Spent))
      (subst (λ b. Polls polls now s (replicate n (Ok Spent) ++ b ∷ []) s') e (polls-push s m s' (replicate n (Ok Spent)) a h p))

true_is_false : {P : Type 0} → true ≡ false → P
true_is_false h = cc

pub gave-nothing : {I : Type 0} (a : Answer I) → gives_something a ≡ false → a ≡ Ok Spent
gave-nothing (Ok (Item i)) h = true_is_false h
gave-nothing (Ok NotReady) h = true_is_false h
gave-nothing (Ok Spent) h = refl
gave-nothing (Ok End) h = true_is_false h
gave-nothing (Err fault) h = true_is_false h

pub not-spent : {I : Type 0} {P : Type 0} (a : Answer I) → gives_something a ≡ true → a ≡ Ok Spent → P
not-spent a h e = true_is_false (sym h ∙ ap gives_something e)
