-- Many polls of a stream that applies its events to a writer.
use Rattle.std.proofs.Common.{◌≡◌, ℕ, List, [], ◌∷◌, ◌++◌, Option, Some, None, Ok, Err, refl, sym, ap, subst, ◌∙◌, inl, inr}
use Rattle.std.specs.List.{fold}
use Rattle.kube_meta.specs.declared.metadata.ObjectMeta.{ObjectMeta}
use Rattle.kube_meta.specs.declared.poll.Next.TheVariants.{Item, NotReady, Spent, End}
use Rattle.kube_watch.specs.declared.event.Event.{Event}
use Rattle.kube_watch.specs.declared.stream.StreamFault.{StreamFault}
use Rattle.kube_watch.specs.Streams.{Answer}
use Rattle.kube_watch.specs.Asking.{fault_in}
use Rattle.kube_reflect.specs.Writers.{Writing}
use Rattle.kube_streams.specs.Adapts.{Told, told_in, all_told}
use Rattle.kube_streams.specs.InOrder.{PolledInTurn}
use Rattle.kube_streams.specs.Applies.{Applying, IsApplied, AnswerApplied, Applied, AppliedSoFar, with_told}
use Rattle.kube_streams.proofs.PassedOn.{Heard, nothing-heard, asked-heard, heard-then, heard-passed}

module _ {O A : Type 0} (value : A → O) (meta : O → ObjectMeta) where
  -- the writer with all of these applied
  abbrev with_all : Writing O → List (Told (Event A)) → Writing O
  with_all w told = fold (with_told value meta) w told

  with-all-then : (w : Writing O) (xs ys : List (Told (Event A))) → with_all (with_all w xs) ys ≡ with_all w (xs ++ ys)
  with-all-then w [] ys = refl
  with-all-then w (x ∷ xs) ys = with-all-then (with_told value meta w x) xs ys

  -- an answer that is another one told what that tells
  written-as : (w after : Writing O) (answer same : Answer (Event A)) → answer ≡ same → after ≡ with_all w (told_in same) → after ≡ with_all w (told_in answer)
  written-as w after answer same e p = p ∙ ap (λ a. with_all w (told_in a)) (sym e)

  event-written : (w : Writing O) (event : Event A) (answer : Answer (Event A)) (after : Writing O) → IsApplied value meta w event answer after → after ≡ with_all w (told_in answer)
  event-written w event answer after (inl a) = written-as w after answer (Ok (Item (Ok event))) a.1 a.2
  event-written w event answer after (inr (inl a)) = written-as w after answer (Err _) a.1 a.2
  event-written w event answer after (inr (inr a)) = written-as w after answer (Err _) a.0 a.1

  answer-written : (w : Writing O) (last answer : Answer (Event A)) (after : Writing O) → AnswerApplied value meta w last answer after → after ≡ with_all w (told_in answer)
  answer-written w (Ok (Item (Ok event))) answer after a = event-written w event answer after a
  answer-written w (Ok (Item (Err e))) answer after a = written-as w after answer (Ok (Item (Err e))) a.0 a.1
  answer-written w (Ok NotReady) answer after a = written-as w after answer (Ok NotReady) a.0 a.1
  answer-written w (Ok Spent) answer after a = written-as w after answer (Ok Spent) a.0 a.1
  answer-written w (Ok End) answer after a = written-as w after answer (Ok End) a.0 a.1
  answer-written w (Err fault) answer after a = written-as w after answer (Err fault) a.0 a.1

  is-fault : (answer : Answer (Event A)) (fault : StreamFault) → answer ≡ Err fault → fault_in answer ≡ None → ⊥
  is-fault answer fault e n = (let f : Some fault ≡ None = sym (ap (λ a. fault_in a) e) ∙ n in cc)

  -- an answer without a fault tells what the stream's answer tells
  event-told : (w : Writing O) (event : Event A) (answer : Answer (Event A)) (after : Writing O) → fault_in answer ≡ None → IsApplied value meta w event answer after → told_in answer ≡ Ok event ∷ []
  event-told w event answer after n (inl a) = ap (λ a. told_in a) a.1
  event-told w event answer after n (inr (inl a)) = absurd (is-fault answer _ a.1 n)
  event-told w event answer after n (inr (inr a)) = absurd (is-fault answer _ a.0 n)

  answer-told : (w : Writing O) (last answer : Answer (Event A)) (after : Writing O) → fault_in answer ≡ None → AnswerApplied value meta w last answer after → told_in answer ≡ told_in last
  answer-told w (Ok (Item (Ok event))) answer after n a = event-told w event answer after n a
  answer-told w (Ok (Item (Err e))) answer after n a = ap (λ a. told_in a) a.0
  answer-told w (Ok NotReady) answer after n a = ap (λ a. told_in a) a.0
  answer-told w (Ok Spent) answer after n a = ap (λ a. told_in a) a.0
  answer-told w (Ok End) answer after n a = ap (λ a. told_in a) a.0
  answer-told w (Err fault) answer after n a = ap (λ a. told_in a) a.0

  module _ {S : Type 0} (polls : S → ℕ → ℕ → Answer (Event A) → S → Type 0) where
    -- what polls leave: the writer; and without a fault there was none before, and all was heard
    record Polled (a : Applying O S) (xs : List (Told (Event A))) (b : Applying O S) : Type 0 where
      pub written : b.writer ≡ with_all a.writer xs
      pub unfaulted : b.fault ≡ None → a.fault ≡ None
      pub heard : b.fault ≡ None → Heard polls a.stream xs b.stream

    one-poll : (fault : Option StreamFault) (now fuel : ℕ) (a : Applying O S) (answer : Answer (Event A)) (b : Applying O S) → a.fault ≡ fault → Applied value meta polls fault now fuel a answer b
        → Polled a (told_in answer) b
    one-poll (Some fault) now fuel a answer b e p = record {
      written = written-as a.writer b.writer answer (Err fault) p.0 (ap (λ (x : Applying O S). x.writer) p.1);
      unfaulted = λ n. ap (λ (x : Applying O S). x.fault) (sym p.1) ∙ n;
      heard = λ n. subst (λ told. Heard polls a.stream told b.stream) (sym (ap (λ x. told_in x) p.0)) (nothing-heard polls a.stream b.stream (ap (λ (x : Applying O S). x.stream) p.1));
    }
    one-poll None now fuel a answer b e p = record {
      written = answer-written a.writer p.last answer b.writer p.applied;
      unfaulted = λ n. e;
      heard = λ n. subst (λ told. Heard polls a.stream told b.stream) (sym (answer-told a.writer p.last answer b.writer (sym p.fault ∙ n) p.applied))
          (asked-heard polls now fuel a.stream p.last b.stream p.asked);
    }

    many : (a : Applying O S) (ps : List (ℕ × ℕ × Answer (Event A))) (b : Applying O S)
        → PolledInTurn (λ (a : Applying O S) now fuel answer b. Applied value meta polls a.fault now fuel a answer b) a ps b → Polled a (all_told ps) b
    many a [] b p = record {
      written = ap (λ (x : Applying O S). x.writer) p;
      unfaulted = λ n. ap (λ (x : Applying O S). x.fault) (sym p) ∙ n;
      heard = λ n. nothing-heard polls a.stream b.stream (ap (λ (x : Applying O S). x.stream) p);
    }
    many a (x ∷ ps) b p =
        let m = p.0 in
        let one = one-poll a.fault x.0 x.1 a x.2 m refl p.1 in
        let more = many m ps b p.2 in
        record {
          written = more.written ∙ ap (λ w. with_all w (all_told ps)) one.written ∙ with-all-then a.writer (told_in x.2) (all_told ps);
          unfaulted = λ n. one.unfaulted (more.unfaulted n);
          heard = λ n. heard-then polls a.stream m.stream b.stream (told_in x.2) (all_told ps) (one.heard (more.unfaulted n)) (more.heard n);
        }

    pub applied-so-far : (a : Applying O S) (ps : List (ℕ × ℕ × Answer (Event A))) (b : Applying O S)
        → PolledInTurn (λ (a : Applying O S) now fuel answer b. Applied value meta polls a.fault now fuel a answer b) a ps b → AppliedSoFar value meta polls a ps b
    applied-so-far a ps b p =
        let all = many a ps b p in
        record { applied = all.written; passed_on = λ n. heard-passed polls a.stream b.stream ps (all.heard n) }
