-- What many polls of an adapted stream gave.
use Rattle.std.proofs.Common.{◌≡◌, ◌≤◌, ℕ, zero, suc, List, [], ◌∷◌, ◌++◌, map, Option, Some, None, Ok, Err, refl, sym, ap, subst, ◌∙◌, inl, inr, append-nil, append_assoc, arith}
use Rattle.std.specs.Prelude.{⊤}
use Rattle.kube_meta.specs.declared.poll.Next.TheVariants.{Item, NotReady, Spent, End}
use Rattle.kube_watch.specs.declared.stream.StreamFault.{StreamFault}
use Rattle.kube_watch.specs.Streams.{Answer}
use Rattle.kube_watch.specs.Asking.{fault_in}
use Rattle.kube_streams.specs.Adapts.{Told, told_in, all_told, Adapting, IsQuiet, AreQuiet, ComesTo, Asked, Advanced, Adapted, Gives, Came, NeverFall, Polled, GivenSoFar}

pub fall-from : (from moment : ℕ) (ms : List ℕ) → from ≤ moment → NeverFall moment ms → NeverFall from ms
fall-from from moment [] e r = tt
fall-from from moment (m ∷ ms) e r = (let k = r.0 in omega arith, r.1)

-- all at one moment
abbrev AllAt : {X : Type 0} → ℕ → List (ℕ × X) → Type 0
AllAt now [] = ⊤
AllAt now (x ∷ xs) = (x.0 ≡ now) × AllAt now xs

all-at-then : {X : Type 0} (now : ℕ) (xs ys : List (ℕ × X)) → AllAt now xs → AllAt now ys → AllAt now (xs ++ ys)
all-at-then now [] ys a b = b
all-at-then now (x ∷ xs) ys a b = (a.0, all-at-then now xs ys a.1 b)

fall-then : {X : Type 0} (from now : ℕ) (xs ys : List (ℕ × X)) → AllAt now xs → from ≤ now → NeverFall now (map (λ x. x.0) ys) → NeverFall from (map (λ x. x.0) (xs ++ ys))
fall-then from now [] ys a e r = fall-from from now (map (λ x. x.0) ys) e r
fall-then from now (x ∷ xs) ys a e r = (let k = a.0 in omega arith, fall-then x.0 now xs ys a.1 (let k = a.0 in omega arith) r)

module _ {S T I J : Type 0} (polls : S → ℕ → ℕ → Answer I → S → Type 0) (takes : ℕ → T → Told I → List (Told J) → T → Type 0) (unnamed : T → Told I → Type 0) where
  -- answers after others
  came-then : (s : S) (t : T) (xs ys : List (ℕ × Answer I)) (g h : List (Told J)) (r : S) (u : T) (q : S) (v : T) → Came polls takes unnamed s t xs g r u → Came polls takes unnamed r u ys h q v
      → Came polls takes unnamed s t (xs ++ ys) (g ++ h) q v
  came-then s t [] ys g h r u q v c d =
      subst (λ k. Came polls takes unnamed s t ys (k ++ h) q v) (sym c.0)
      (subst (λ x. Came polls takes unnamed x t ys h q v) c.1 (subst (λ x. Came polls takes unnamed r x ys h q v) c.2 d))
  came-then s t (x ∷ xs) ys g h r u q v c d =
      (c.0, c.1, c.2, c.3 ++ h, c.4, c.5, came-then c.0 c.1 xs ys c.3 h r u q v c.6 d, ap (λ k. k ++ h) c.7 ∙ append_assoc c.2 c.3 h)

  -- one that gives nothing
  quiet-gives : (now : ℕ) (t : T) (answer : Answer I) (u : T) → IsQuiet polls takes unnamed now t answer u → Gives polls takes unnamed now t answer [] u
  quiet-gives now t (Ok (Item told)) u i = i
  quiet-gives now t (Ok Spent) u i = (refl, i)
  quiet-gives now t (Ok NotReady) u i = absurd i
  quiet-gives now t (Ok End) u i = absurd i
  quiet-gives now t (Err fault) u i = absurd i

  record Quietly (now : ℕ) (s : S) (t : T) (r : S) (u : T) : Type 0 where
    pub answers : List (ℕ × Answer I)
    pub came : Came polls takes unnamed s t answers [] r u
    pub at : AllAt now answers

  -- so many that give nothing
  quiet-came : (n now : ℕ) (s : S) (t : T) (r : S) (u : T) → AreQuiet polls takes unnamed n now s t r u → Quietly now s t r u
  quiet-came zero now s t r u q = record { answers = []; came = (refl, q.0, q.1); at = tt }
  quiet-came (suc n) now s t r u q =
      let rest = quiet-came n now q.1 q.2 r u q.5 in
      record { answers = (now, q.0) ∷ rest.answers; came = (q.1, q.2, [], [], q.3, quiet-gives now t q.0 q.2 q.4, rest.came, refl); at = (refl, rest.at) }

  record Last (now : ℕ) (t : T) (last : Answer I) (answer : Answer J) (rest : List (Told J)) (u : T) : Type 0 where
    pub given : List (Told J)
    pub gives : Gives polls takes unnamed now t last given u
    pub told : told_in answer ++ rest ≡ given

  -- the one that came to the answer
  last-given : (now : ℕ) (t : T) (last : Answer I) (answer : Answer J) (rest : List (Told J)) (u : T) → fault_in answer ≡ None → ComesTo polls takes unnamed now t last answer rest u → Last now t last answer rest u
  last-given now t (Ok (Item told)) (Ok (Item first)) rest u n c = record { given = first ∷ rest; gives = c; told = refl }
  last-given now t (Ok (Item told)) (Ok NotReady) rest u n c = absurd c
  last-given now t (Ok (Item told)) (Ok Spent) rest u n c = absurd c
  last-given now t (Ok (Item told)) (Ok End) rest u n c = absurd c
  last-given now t (Ok (Item told)) (Err fault) rest u n c = absurd (cc)
  last-given now t (Ok NotReady) answer rest u n c = record { given = []; gives = (refl, c.2); told = ap (λ a. told_in a ++ rest) c.0 ∙ c.1 }
  last-given now t (Ok Spent) answer rest u n c = absurd c
  last-given now t (Ok End) answer rest u n c = record { given = []; gives = (refl, c.2); told = ap (λ a. told_in a ++ rest) c.0 ∙ c.1 }
  last-given now t (Err fault) answer rest u n c = (let f : Some fault ≡ None = sym (ap fault_in c.0) ∙ n in absurd (cc))

  record OnePoll (now : ℕ) (a : Adapting S T J) (answer : Answer J) (b : Adapting S T J) : Type 0 where
    pub answers : List (ℕ × Answer I)
    pub given : List (Told J)
    pub came : Came polls takes unnamed a.stream a.adapt answers given b.stream b.adapt
    pub told : told_in answer ++ b.waiting ≡ a.waiting ++ given
    pub at : AllAt now answers

  asked-given : (a : Adapting S T J) (now fuel : ℕ) (answer : Answer J) (b : Adapting S T J) → a.waiting ≡ [] → fault_in answer ≡ None
      → Asked polls takes unnamed now fuel a.stream a.adapt answer b.waiting b.stream b.adapt → OnePoll now a answer b
  asked-given a now fuel answer b none n (inl g) =
      let quiet = quiet-came g.idle now a.stream a.adapt g.stream g.adapt g.quiet in
      let last = last-given now g.adapt g.last answer b.waiting b.adapt n g.comes in
      record {
        answers = quiet.answers ++ (now, g.last) ∷ [];
        given = last.given;
        came = came-then a.stream a.adapt quiet.answers ((now, g.last) ∷ []) [] last.given g.stream g.adapt b.stream b.adapt quiet.came
            (b.stream, b.adapt, last.given, [], g.polled, last.gives, (refl, refl, refl), sym (append-nil last.given));
        told = last.told ∙ ap (λ w. w ++ last.given) (sym none);
        at = all-at-then now quiet.answers ((now, g.last) ∷ []) quiet.at (refl, tt);
      }
  asked-given a now fuel answer b none n (inr g) =
      let quiet = quiet-came fuel now a.stream a.adapt b.stream b.adapt g.2 in
      record { answers = quiet.answers; given = []; came = quiet.came; told = ap (λ x. told_in x ++ b.waiting) g.0 ∙ g.1 ∙ ap (λ w. w ++ []) (sym none); at = quiet.at }

  advanced-given : (waiting : List (Told J)) (a : Adapting S T J) (now fuel : ℕ) (answer : Answer J) (b : Adapting S T J) → a.waiting ≡ waiting → b.fault ≡ None
      → Advanced polls takes unnamed waiting a now fuel answer b → OnePoll now a answer b
  advanced-given [] a now fuel answer b w n p = asked-given a now fuel answer b w (sym p.1 ∙ n) p.0
  advanced-given (first ∷ rest) a now fuel answer b w n p = record {
    answers = [];
    given = [];
    came = (refl, ap (λ (x : Adapting S T J). x.stream) p.1, ap (λ (x : Adapting S T J). x.adapt) p.1);
    told = ap (λ x. told_in x ++ b.waiting) p.0 ∙ ap (λ (x : Adapting S T J). first ∷ x.waiting) p.1 ∙ sym w ∙ sym (append-nil a.waiting);
    at = tt;
  }

  fault-stays : (a b : Adapting S T J) (ps : List (ℕ × ℕ × Answer J)) (fault : StreamFault) → a.fault ≡ Some fault → Polled polls takes unnamed a ps b → b.fault ≡ Some fault
  fault-stays a b [] fault e p = ap (λ (x : Adapting S T J). x.fault) p ∙ e
  fault-stays a b (x ∷ ps) fault e p =
      let same = subst (λ o. Adapted polls takes unnamed o a x.0 x.1 x.2 p.0) e p.1 in
      fault-stays p.0 b ps fault (ap (λ (y : Adapting S T J). y.fault) same.1 ∙ e) p.2

  fault-none : (fault : Option StreamFault) (a b : Adapting S T J) (ps : List (ℕ × ℕ × Answer J)) → a.fault ≡ fault → b.fault ≡ None → Polled polls takes unnamed a ps b → a.fault ≡ None
  fault-none None a b ps e n p = e
  fault-none (Some fault) a b ps e n p = (let s = fault-stays a b ps fault e p in absurd (cc))

  many : (fault : Option StreamFault) (a : Adapting S T J) (ps : List (ℕ × ℕ × Answer J)) (b : Adapting S T J) → a.fault ≡ fault → b.fault ≡ None → Polled polls takes unnamed a ps b
      → GivenSoFar polls takes unnamed a ps b
  many fault a [] b e n p = record {
    answers = [];
    given = [];
    came = (refl, ap (λ (x : Adapting S T J). x.stream) p, ap (λ (x : Adapting S T J). x.adapt) p);
    told = ap (λ (x : Adapting S T J). x.waiting) p ∙ sym (append-nil a.waiting);
    moments = λ from r. tt;
  }
  many (Some fault) a (x ∷ ps) b e n p = (let s = fault-stays a b (x ∷ ps) fault e p in absurd (cc))
  many None a (x ∷ ps) b e n p =
      let m = p.0 in
      let one = advanced-given a.waiting a x.0 x.1 x.2 m refl (fault-none m.fault m b ps refl n p.2) (subst (λ o. Adapted polls takes unnamed o a x.0 x.1 x.2 m) e p.1) in
      let more = many m.fault m ps b refl n p.2 in
      record {
        answers = one.answers ++ more.answers;
        given = one.given ++ more.given;
        came = came-then a.stream a.adapt one.answers more.answers one.given more.given m.stream m.adapt b.stream b.adapt one.came more.came;
        told = append_assoc (told_in x.2) (all_told ps) b.waiting ∙ ap (λ w. told_in x.2 ++ w) more.told ∙ sym (append_assoc (told_in x.2) m.waiting more.given)
            ∙ ap (λ w. w ++ more.given) one.told ∙ append_assoc a.waiting one.given more.given;
        moments = λ from r. fall-then from x.0 one.answers more.answers one.at r.0 (more.moments x.0 r.1);
      }

  -- polls of a stream that has no fault
  pub given-so-far : (a b : Adapting S T J) (ps : List (ℕ × ℕ × Answer J)) → Polled polls takes unnamed a ps b → b.fault ≡ None → GivenSoFar polls takes unnamed a ps b
  given-so-far a b ps p n = many a.fault a ps b refl n p
