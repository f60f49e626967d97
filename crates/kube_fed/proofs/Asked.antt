-- What is left of a stream that was asked.
use Rattle.std.proofs.Common.{◌≡◌, ℕ, Bool, true, false, List, [], ◌∷◌, ◌++◌, Some, Result, Ok, Err, refl, sym, ap, subst, ◌∙◌}
use Rattle.std.specs.List.{list_any}
use Rattle.kube_meta.specs.declared.poll.Next.TheVariants.{Item, NotReady, Spent, End}
use Rattle.kube_model.specs.declared.call.Answer.{Answer as CallAnswer}
use Rattle.kube_model.specs.declared.call.Answer.TheVariants as answers
use Rattle.kube_model.specs.History.{Dated, Exchange}
use Rattle.kube_model.specs.Owed.{is_end}
use Rattle.kube_model.specs.Named.{is_given_named}
use Rattle.kube_model.specs.Streams.{recorded}
use Rattle.kube_model.proofs.Lasts.{any-hit, any-miss}
use Rattle.kube_watch.specs.Polls.{dated_now}
use Rattle.kube_watch.specs.Streams.{Answer, stream_answer}
use Rattle.kube_watch.specs.declared.stream.StreamFault.{StreamFault}
use Rattle.kube_watch.specs.declared.stream.StreamFault.TheVariants.{NoMemory, Unnamed}
use Rattle.kube_fed.specs.declared.feeding.Standing.{Standing}
use Rattle.kube_fed.specs.declared.feeding.Standing.TheVariants.{Open, Ended, Failed}
use Rattle.kube_fed.specs.declared.feeding.Feeding.{Feeding}
use Rattle.kube_fed.specs.Feedings.{IsAskedAs, IsAsked, has_ended, standing_after, takes_memory}
use Rattle.kube_fed.specs.Fed.{Came, FedStands, IsFedBroken, IsFedLost}
use Rattle.kube_fed.proofs.Fits.{some-is, HasSome}

abbrev err_or : {T E : Type 0} → E → Result T E → E
err_or e (Ok x) = e
err_or e (Err f) = f

pub err-is : {T E : Type 0} (r : Result T E) (a b : E) → r ≡ Err a → r ≡ Err b → a ≡ b
err-is r a b p q = ap (err_or a) (sym p ∙ q)

-- the end is recorded exactly where the stream ended
ends-alike : {I V : Type 0} (value : I → V) (answer : Answer I) (a : CallAnswer) → Came (λ came. Some a ≡ recorded came) (stream_answer value answer) → has_ended (standing_after answer) ≡ is_end a
ends-alike value (Ok (Item (Ok item))) a e = sym (ap is_end (some-is a answers.Item e))
ends-alike value (Ok (Item (Err error))) a e = sym (ap is_end (some-is a answers.Item e))
ends-alike value (Ok NotReady) a e = sym (ap is_end (some-is a answers.NotReady e))
ends-alike value (Ok Spent) a e = sym (ap is_end (some-is a answers.Spent e))
ends-alike value (Ok End) a e = sym (ap is_end (some-is a answers.End e))
ends-alike value (Err Unnamed) a e = absurd (subst HasSome e tt)
ends-alike value (Err NoMemory) a e = absurd e

-- no exchange is recorded from a fault
no-fault : {I V : Type 0} (value : I → V) (fault : StreamFault) (a : CallAnswer) → Came (λ came. Some a ≡ recorded came) (stream_answer value (Err fault)) → ⊥
no-fault value Unnamed a e = subst HasSome e tt
no-fault value NoMemory a e = e

abbrev ended : {O : Type 0} → Dated O → Bool
ended d = is_end d.exchange.answer

after-none : {O : Type 0} (own : List (Dated O)) (d : Dated O) → list_any ended own ≡ false → ended d ≡ list_any ended (own ++ d ∷ [])
after-none own d none = go (ended d) refl
  where
    go : (b : Bool) → ended d ≡ b → ended d ≡ list_any ended (own ++ d ∷ [])
    go true e = e ∙ sym (any-hit ended own d e)
    go false e = e ∙ sym (any-miss ended own d e ∙ none)

after-one : {O : Type 0} (own : List (Dated O)) (d : Dated O) → list_any ended own ≡ true → list_any ended (own ++ d ∷ []) ≡ true
after-one own d one = go (ended d) refl
  where
    go : (b : Bool) → ended d ≡ b → list_any ended (own ++ d ∷ []) ≡ true
    go true e = any-hit ended own d e
    go false e = any-miss ended own d e ∙ one

module _ {S I V : Type 0} (polls : S → ℕ → ℕ → Answer I → S → Type 0) (value : I → V) where
  -- the exchange is one more for which it stands
  pub stands-too : {O : Type 0} (own : List (Dated O)) (now : ℕ) (y : Exchange O) (old new : Feeding S) (answer : Answer I) → IsAsked polls now old answer new → FedStands own old
      → Came (λ came. Some y.answer ≡ recorded came) (stream_answer value answer) → FedStands (own ++ dated_now now y ∷ []) new
  stands-too own now y old new answer asked stands came = go old.standing refl asked stands
    where
      go : (s : Standing) → old.standing ≡ s → IsAskedAs polls s now old answer new → has_ended s ≡ list_any ended own → FedStands (own ++ dated_now now y ∷ []) new
      go Open is p none = ap has_ended p.1 ∙ (ends-alike value answer y.answer came ∙ after-none own (dated_now now y) (sym none))
      go Ended is p one = ap (λ f. has_ended f.standing) p.1 ∙ (ap has_ended is ∙ sym (after-one own (dated_now now y) (sym one)))
      go (Failed fault) is p none = absurd (no-fault value fault y.answer (subst (λ z. Came (λ came. Some y.answer ≡ recorded came) (stream_answer value z)) p.0 came))

  -- a fault that the stream answered
  pub broken-too : (is_named : V → Bool) (now : ℕ) (old new : Feeding S) (fault : StreamFault) → IsAsked polls now old (Err fault) new → new.standing ≡ Failed fault → fault ≡ Unnamed → IsFedBroken polls value is_named now old new
  broken-too is_named now old new fault asked failed is =
      record {
        answer = Err fault;
        reached = new;
        asked = asked;
        unnamed = subst (λ f. Came (λ came. is_given_named is_named came ≡ false) (stream_answer value (Err f))) (sym is) refl;
        failed = ap (λ s. record new { standing = s }) (failed ∙ ap Failed is);
      }

pub lost-too : {S I : Type 0} (polls : S → ℕ → ℕ → Answer I → S → Type 0) (now : ℕ) (old new : Feeding S) (fault : StreamFault) → IsAsked polls now old (Err fault) new → new.standing ≡ Failed fault → fault ≡ NoMemory → IsFedLost polls now old new
lost-too {S} {I} polls now old new fault asked failed is =
    record {
      answer = Err fault;
      reached = new;
      asked = asked;
      memory = subst (λ f. takes_memory {I = I} (Err f) ≡ true) (sym is) refl;
      failed = ap (λ s. record new { standing = s }) (failed ∙ ap Failed is);
    }
