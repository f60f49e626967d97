-- What the stream of a filter gave.
use Rattle.std.proofs.Common.{◌≡◌, ℕ, Bool, List, [], ◌∷◌, ◌++◌, map, Option, None, Ok, Err, refl, sym, ap, ap₂, subst, ◌∙◌}
use Rattle.kube_meta.specs.declared.metadata.ObjectMeta.{ObjectMeta}
use Rattle.kube_meta.specs.declared.poll.Next.TheVariants.{Item, NotReady, Spent, End}
use Rattle.kube_watch.specs.Streams.{Answer}
use Rattle.kube_streams.specs.Adapts.{Told, Adapting, Adapted, Came, Gives, NeverFall, Polled}
use Rattle.kube_streams.specs.InOrder.{Answered, PolledInTurn}
use Rattle.kube_streams.specs.Filters.{Filtering, Filtered, Judgement, JudgedInTurn, FilteredSoFar, objects_in, objects_of_all, through, let_through}
use Rattle.kube_streams.proofs.Forgetting.{passed-without-forgetting}
use Rattle.kube_streams.proofs.Given.{fall-from, given-so-far}

module _ {P O A S : Type 0} (gives : P → O → Option ℕ → Type 0) (meta : O → ObjectMeta) (value : A → O) (polls : S → ℕ → ℕ → Answer A → S → Type 0) where
  abbrev takes : ℕ → Filtering P → Told A → List (Told A) → Filtering P → Type 0
  takes now f told given g = Filtered gives meta value now f told given g

  abbrev unnamed : Filtering P → Told A → Type 0
  unnamed f told = ⊥

  -- answers, and what a filter made of them
  record Made (s : S) (f : Filtering P) (xs : List (ℕ × Answer A)) (given : List (Told A)) (r : S) (g : Filtering P) : Type 0 where
    pub answered : Answered polls s xs r
    pub judgements : List (Judgement O)
    pub judged : map (λ j. (j.at, j.object)) judgements ≡ objects_of_all value xs
    pub turns : JudgedInTurn gives meta f judgements g
    pub given_is : given ≡ let_through xs (map (λ j. j.passed) judgements)
    pub moments : (from : ℕ) → NeverFall from (map (λ x. x.0) xs) → NeverFall from (map (λ j. j.at) judgements)

  -- an answer that gives no object, and then others
  passes-by : (s q r : S) (f v g : Filtering P) (at : ℕ) (answer : Answer A) (xs : List (ℕ × Answer A)) (first rest : List (Told A)) → polls s at 1 answer q → Made q v xs rest r g
      → v ≡ f → objects_in value at answer ≡ [] → ((bs : List Bool) → through answer bs ≡ (first, bs)) → Made s f ((at, answer) ∷ xs) (first ++ rest) r g
  passes-by s q r f v g at answer xs first rest polled more same none says = record {
    answered = (q, polled, more.answered);
    judgements = more.judgements;
    judged = more.judged ∙ ap (λ os. os ++ objects_of_all value xs) (sym none);
    turns = subst (λ w. JudgedInTurn gives meta w more.judgements g) same more.turns;
    given_is = ap (λ gs. first ++ gs) more.given_is ∙ ap (λ (t : List (Told A) × List Bool). t.0 ++ let_through xs t.1) (sym (says (map (λ j. j.passed) more.judgements)));
    moments = λ from m. fall-from from at (map (λ j. j.at) more.judgements) m.0 (more.moments at m.1);
  }

  one : (s q r : S) (f v g : Filtering P) (at : ℕ) (answer : Answer A) (xs : List (ℕ × Answer A)) (first rest : List (Told A)) → polls s at 1 answer q → Gives polls takes unnamed at f answer first v → Made q v xs rest r g
      → Made s f ((at, answer) ∷ xs) (first ++ rest) r g
  one s q r f v g at (Ok (Item (Ok object))) xs first rest polled p more = record {
    answered = (q, polled, more.answered);
    judgements = record { at = at; object = value object; passed = p.0 } ∷ more.judgements;
    judged = ap (λ os. (at, value object) ∷ os) more.judged;
    turns = (v, p.1, more.turns);
    given_is = ap₂ (λ gs hs. gs ++ hs) p.2 more.given_is;
    moments = λ from m. (m.0, more.moments at m.1);
  }
  one s q r f v g at (Ok (Item (Err e))) xs first rest polled p more =
      passes-by s q r f v g at (Ok (Item (Err e))) xs first rest polled more p.1 refl (λ bs. ap (λ gs. (gs, bs)) (sym p.0))
  one s q r f v g at (Ok NotReady) xs first rest polled p more = passes-by s q r f v g at (Ok NotReady) xs first rest polled more p.1 refl (λ bs. ap (λ gs. (gs, bs)) (sym p.0))
  one s q r f v g at (Ok Spent) xs first rest polled p more = passes-by s q r f v g at (Ok Spent) xs first rest polled more p.1 refl (λ bs. ap (λ gs. (gs, bs)) (sym p.0))
  one s q r f v g at (Ok End) xs first rest polled p more = passes-by s q r f v g at (Ok End) xs first rest polled more p.1 refl (λ bs. ap (λ gs. (gs, bs)) (sym p.0))
  one s q r f v g at (Err fault) xs first rest polled p more = absurd p

  all-made : (s r : S) (f g : Filtering P) (xs : List (ℕ × Answer A)) (given : List (Told A)) → Came polls takes unnamed s f xs given r g → Made s f xs given r g
  all-made s r f g [] given c = record {
    answered = c.1;
    judgements = [];
    judged = refl;
    turns = c.2;
    given_is = c.0;
    moments = λ from m. tt;
  }
  all-made s r f g (x ∷ xs) given c =
      subst (λ gs. Made s f (x ∷ xs) gs r g) (sym c.7) (one s c.0 r f c.1 g x.0 x.1 xs c.2 c.3 c.4 c.5 (all-made c.0 r c.1 g xs c.3 c.6))

  polled-in-turn : (a : Adapting S (Filtering P) A) (ps : List (ℕ × ℕ × Answer A)) (b : Adapting S (Filtering P) A)
      → PolledInTurn (λ (a : Adapting S (Filtering P) A) now fuel answer b. Adapted polls takes unnamed a.fault a now fuel answer b) a ps b → Polled polls takes unnamed a ps b
  polled-in-turn a [] b e = e
  polled-in-turn a (p ∷ ps) b e = (e.0, e.1, polled-in-turn e.0 ps b e.2)

  pub filtered-so-far : (from : ℕ) (a b : Adapting S (Filtering P) A) (ps : List (ℕ × ℕ × Answer A)) → NeverFall from (map (λ p. p.0) ps) → PolledInTurn (λ (a : Adapting S (Filtering P) A) now fuel answer b. Adapted polls takes unnamed a.fault a now fuel answer b) a ps b
      → b.fault ≡ None → FilteredSoFar gives meta value polls a ps b
  filtered-so-far from a b ps m p none =
      let so-far = given-so-far polls takes unnamed a b ps (polled-in-turn a ps b p) none in
      let made = all-made a.stream b.stream a.adapt b.adapt so-far.answers so-far.given so-far.came in
      record {
        answers = so-far.answers;
        answered = made.answered;
        judgements = made.judgements;
        judged = made.judged;
        passed = passed-without-forgetting gives meta from a.adapt made.judgements b.adapt (made.moments from (so-far.moments from m)) made.turns;
        told = so-far.told ∙ ap (λ gs. a.waiting ++ gs) made.given_is;
      }
