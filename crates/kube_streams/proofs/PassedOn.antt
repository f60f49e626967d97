-- What is passed on of a stream that is asked again and again.
use Rattle.std.proofs.Common.{◌≡◌, ℕ, zero, suc, List, [], ◌∷◌, ◌++◌, map, replicate, Ok, refl, sym, ap, ap₂, subst, ◌∙◌, append-nil, append_assoc}
use Rattle.kube_meta.specs.declared.poll.Next.TheVariants.{Spent}
use Rattle.kube_watch.specs.Streams.{Answer}
use Rattle.kube_watch.specs.Asking.{Asked, Polls}
use Rattle.kube_streams.specs.Adapts.{Told, told_in, all_told}
use Rattle.kube_streams.specs.InOrder.{answers_told, AskedInTurn, Answered, PassedOn, PolledInTurn}

abbrev at : {I : Type 0} → ℕ → List (Answer I) → List (ℕ × Answer I)
at now answers = map (λ a. (now, a)) answers

told-then : {I : Type 0} (xs ys : List (ℕ × Answer I)) → answers_told (xs ++ ys) ≡ answers_told xs ++ answers_told ys
told-then [] ys = refl
told-then (x ∷ xs) ys = ap (λ ts. told_in x.1 ++ ts) (told-then xs ys) ∙ sym (append_assoc (told_in x.1) (answers_told xs) (answers_told ys))

-- those that gave nothing, and the last one
last-told : {I : Type 0} (now n : ℕ) (last : Answer I) → answers_told (at now (replicate n (Ok Spent) ++ last ∷ [])) ≡ told_in last
last-told now zero last = append-nil (told_in last)
last-told now (suc n) last = last-told now n last

module _ {S I : Type 0} (polls : S → ℕ → ℕ → Answer I → S → Type 0) where
  polls-answered : (now : ℕ) (s : S) (xs : List (Answer I)) (r : S) → Polls polls now s xs r → Answered polls s (at now xs) r
  polls-answered now s [] r p = sym p
  polls-answered now s (x ∷ xs) r p = (p.0, p.1, polls-answered now p.0 xs r p.2)

  answered-then : (s : S) (xs ys : List (ℕ × Answer I)) (m r : S) → Answered polls s xs m → Answered polls m ys r → Answered polls s (xs ++ ys) r
  answered-then s [] ys m r p q = subst (λ x. Answered polls x ys r) p q
  answered-then s (x ∷ xs) ys m r p q = (p.0, p.1, answered-then p.0 xs ys m r p.2 q)

  -- what was told is all that some polls of the stream tell, in order
  pub record Heard (s : S) (xs : List (Told I)) (r : S) : Type 0 where
    pub answers : List (ℕ × Answer I)
    pub answered : Answered polls s answers r
    pub told : xs ≡ answers_told answers

  pub nothing-heard : (s r : S) → r ≡ s → Heard s [] r
  nothing-heard s r e = record { answers = []; answered = e; told = refl }

  pub asked-heard : (now fuel : ℕ) (s : S) (last : Answer I) (r : S) → Asked polls now fuel s last r → Heard s (told_in last) r
  asked-heard now fuel s last r a =
      let xs = replicate a.idle (Ok Spent) ++ last ∷ [] in
      record { answers = at now xs; answered = polls-answered now s xs r a.polled; told = sym (last-told now a.idle last) }

  pub heard-then : (s m r : S) (xs ys : List (Told I)) → Heard s xs m → Heard m ys r → Heard s (xs ++ ys) r
  heard-then s m r xs ys h k = record {
    answers = h.answers ++ k.answers;
    answered = answered-then s h.answers k.answers m r h.answered k.answered;
    told = ap₂ (λ a b. a ++ b) h.told k.told ∙ sym (told-then h.answers k.answers);
  }

  pub heard-passed : (s r : S) (ps : List (ℕ × ℕ × Answer I)) → Heard s (all_told ps) r → PassedOn polls s ps r
  heard-passed s r ps h = record { answers = h.answers; answered = h.answered; told = h.told }

-- polls of what is made of a stream, each of which passes on what it hears
module _ {S I Q : Type 0} (polls : S → ℕ → ℕ → Answer I → S → Type 0) (stream : Q → S) (step : Q → ℕ → ℕ → Answer I → Q → Type 0)
    (one : (a : Q) (now fuel : ℕ) (answer : Answer I) (b : Q) → step a now fuel answer b → Heard polls (stream a) (told_in answer) (stream b)) where
  pub heard-in-turn : (a : Q) (ps : List (ℕ × ℕ × Answer I)) (b : Q) → PolledInTurn step a ps b → Heard polls (stream a) (all_told ps) (stream b)
  heard-in-turn a [] b p = nothing-heard polls (stream a) (stream b) (ap stream p)
  heard-in-turn a (x ∷ ps) b p =
      heard-then polls (stream a) (stream p.0) (stream b) (told_in x.2) (all_told ps) (one a x.0 x.1 x.2 p.0 p.1) (heard-in-turn p.0 ps b p.2)

module _ {S I : Type 0} (polls : S → ℕ → ℕ → Answer I → S → Type 0) where
  pub passed-on : (s : S) (ps : List (ℕ × ℕ × Answer I)) (r : S) → AskedInTurn polls s ps r → PassedOn polls s ps r
  passed-on s ps r a =
      heard-passed polls s r ps
      (heard-in-turn polls (λ x. x) (λ s now fuel answer r. Asked polls now fuel s answer r) (λ s now fuel answer r e. asked-heard polls now fuel s answer r e) s ps r a)
