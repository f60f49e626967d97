-- Many polls of a stream at whose end a closure is called.
use Rattle.std.proofs.Common.{◌≡◌, ℕ, Bool, true, false, ◌||◌, cond, List, [], ◌∷◌, Option, Some, None, Ok, Err, refl, sym, ap, subst, ◌∙◌}
use Rattle.std.specs.Fn.{Once}
use Rattle.kube_meta.specs.declared.poll.Next.TheVariants.{Item, NotReady, Spent, End}
use Rattle.kube_watch.specs.declared.stream.StreamFault.{StreamFault}
use Rattle.kube_watch.specs.Streams.{Answer}
use Rattle.kube_streams.specs.Adapts.{told_in, all_told}
use Rattle.kube_streams.specs.InOrder.{PolledInTurn}
use Rattle.kube_streams.specs.Completes.{Completing, WasCalled, IsCalledAt, left_after, is_end, has_ended, Completed, CompletedSoFar, OnlyEnds}
use Rattle.kube_streams.proofs.PassedOn.{Heard, nothing-heard, asked-heard, heard-then, heard-passed}

module _ {S F I : Type 0} (g : Once F (Unit {0}) (Unit {0})) (polls : S → ℕ → ℕ → Answer I → S → Type 0) where
  left-is : (f : Option F) (answer : Answer I) → left_after f answer ≡ cond (is_end answer) None f
  left-is f (Ok (Item told)) = refl
  left-is f (Ok NotReady) = refl
  left-is f (Ok Spent) = refl
  left-is f (Ok End) = refl
  left-is f (Err fault) = refl

  called-at : (f : Option F) (answer : Answer I) → IsCalledAt g f answer → is_end answer ≡ true → WasCalled g f
  called-at f (Ok (Item told)) c e = absurd (cc)
  called-at f (Ok NotReady) c e = absurd (cc)
  called-at f (Ok Spent) c e = absurd (cc)
  called-at f (Ok End) c e = c
  called-at f (Err fault) c e = absurd (cc)

  -- what polls leave: what they heard, whether one of them ended, and the closure
  record Polled (c : Completing S F) (ps : List (ℕ × ℕ × Answer I)) (ended : Bool) (d : Completing S F) : Type 0 where
    pub heard : Heard polls c.stream (all_told ps) d.stream
    pub called : ended ≡ true → WasCalled g c.f
    pub left : d.f ≡ cond ended None c.f

  record OnePoll (c : Completing S F) (answer : Answer I) (d : Completing S F) : Type 0 where
    pub heard : Heard polls c.stream (told_in answer) d.stream
    pub called : is_end answer ≡ true → WasCalled g c.f
    pub left : d.f ≡ cond (is_end answer) None c.f

  -- it answers this, and stays as it is
  stays : (answer : Answer I) (c d : Completing S F) (b : Bool) → is_end answer ≡ b → told_in answer ≡ [] → (b ≡ true → WasCalled g c.f) → cond b None c.f ≡ c.f → d ≡ c → OnePoll c answer d
  stays answer c d b ends nothing called none same = record {
    heard = subst (λ told. Heard polls c.stream told d.stream) (sym nothing) (nothing-heard polls c.stream d.stream (ap (λ (x : Completing S F). x.stream) same));
    called = λ ended. called (sym ends ∙ ended);
    left = ap (λ (x : Completing S F). x.f) same ∙ (sym none ∙ ap (λ b. cond b None c.f) (sym ends));
  }

  one-poll : (fault : Option StreamFault) (f : Option F) (now fuel : ℕ) (c : Completing S F) (answer : Answer I) (d : Completing S F) → c.f ≡ f → Completed g polls fault f now fuel c answer d → OnePoll c answer d
  one-poll (Some fault) f now fuel c answer d is e = stays answer c d false (ap (λ a. is_end a) e.0) (ap (λ a. told_in a) e.0) (λ ended. absurd (cc)) refl e.1
  one-poll None None now fuel c answer d is e = stays answer c d true (ap (λ a. is_end a) e.0) (ap (λ a. told_in a) e.0) (λ ended. subst (λ x. WasCalled g x) (sym is) tt) (sym is) e.1
  one-poll None (Some f) now fuel c answer d is e = record {
    heard = asked-heard polls now fuel c.stream answer d.stream e.asked;
    called = called-at c.f answer e.called;
    left = e.f ∙ left-is c.f answer;
  }

  called-then : (a b : Bool) (f m : Option F) → (a ≡ true → WasCalled g f) → (b ≡ true → WasCalled g m) → m ≡ cond a None f → (a || b) ≡ true → WasCalled g f
  called-then true b f m first more e h = first refl
  called-then false b f m first more e h = subst (λ x. WasCalled g x) e (more h)

  left-then : (a b : Bool) (f : Option F) → cond b None (cond a None f) ≡ cond (a || b) None f
  left-then true true f = refl
  left-then true false f = refl
  left-then false b f = refl

  many : (c : Completing S F) (ps : List (ℕ × ℕ × Answer I)) (d : Completing S F)
      → PolledInTurn (λ (c : Completing S F) now fuel answer d. Completed g polls c.fault c.f now fuel c answer d) c ps d → Polled c ps (has_ended ps) d
  many c [] d e = record {
    heard = nothing-heard polls c.stream d.stream (ap (λ (x : Completing S F). x.stream) e);
    called = λ ended. absurd (cc);
    left = ap (λ (x : Completing S F). x.f) e;
  }
  many c (p ∷ ps) d e =
      let one = one-poll c.fault c.f p.0 p.1 c p.2 e.0 refl e.1 in
      let more = many e.0 ps d e.2 in
      record {
        heard = heard-then polls c.stream e.0.stream d.stream (told_in p.2) (all_told ps) one.heard more.heard;
        called = called-then (is_end p.2) (has_ended ps) c.f e.0.f one.called more.called one.left;
        left = more.left ∙ ap (λ f. cond (has_ended ps) None f) one.left ∙ left-then (is_end p.2) (has_ended ps) c.f;
      }

  pub completed-so-far : (c : Completing S F) (ps : List (ℕ × ℕ × Answer I)) (d : Completing S F)
      → PolledInTurn (λ (c : Completing S F) now fuel answer d. Completed g polls c.fault c.f now fuel c answer d) c ps d → CompletedSoFar g polls c ps d
  completed-so-far c ps d e =
      let all = many c ps d e in
      record { passed_on = heard-passed polls c.stream d.stream ps all.heard; called = all.called; left = all.left }

  ended-poll : (fault : Option StreamFault) (f : Option F) (now fuel : ℕ) (c : Completing S F) (answer : Answer I) (d : Completing S F) → fault ≡ None → f ≡ None → Completed g polls fault f now fuel c answer d
      → (answer ≡ Ok End) × (d ≡ c)
  ended-poll fault f now fuel c answer d faultless called e =
      subst (λ x. Completed g polls x None now fuel c answer d) faultless (subst (λ y. Completed g polls fault y now fuel c answer d) called e)

  pub only-ends : (c : Completing S F) (ps : List (ℕ × ℕ × Answer I)) (d : Completing S F) → c.fault ≡ None → c.f ≡ None
      → PolledInTurn (λ (c : Completing S F) now fuel answer d. Completed g polls c.fault c.f now fuel c answer d) c ps d → OnlyEnds c ps d
  only-ends c [] d faultless called e = e
  only-ends c (p ∷ ps) d faultless called e =
      let one = ended-poll c.fault c.f p.0 p.1 c p.2 e.0 faultless called e.1 in
      (one.0, only-ends c ps d faultless called (subst (λ m. PolledInTurn (λ (c : Completing S F) now fuel answer d. Completed g polls c.fault c.f now fuel c answer d) m ps d) one.1 e.2))
