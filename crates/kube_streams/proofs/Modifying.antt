-- Many polls of a stream whose events a closure changes.
use Rattle.std.proofs.Common.{◌≡◌, ℕ, List, [], ◌∷◌, ◌++◌, Option, Some, None, Ok, Err, refl, sym, ap, subst}
use Rattle.std.specs.Fn.{Mut}
use Rattle.std.specs.Borrow.{MutBor}
use Rattle.kube_meta.specs.declared.poll.Next.TheVariants.{Item, NotReady, Spent, End}
use Rattle.kube_watch.specs.declared.event.Event.{Event}
use Rattle.kube_watch.specs.declared.stream.StreamFault.{StreamFault}
use Rattle.kube_watch.specs.Streams.{Answer}
use Rattle.kube_streams.specs.Adapts.{Told, told_in, all_told}
use Rattle.kube_streams.specs.InOrder.{PolledInTurn}
use Rattle.kube_streams.specs.Modifies.{Modifying, AnswerChanged, Modified, AllChanged, ModifiedSoFar}
use Rattle.kube_streams.proofs.PassedOn.{Heard, nothing-heard, asked-heard, heard-then}

module _ {F T : Type 0} (g : Mut F (MutBor T × Unit {0}) (Unit {0} × (MutBor T × Unit {0}))) where
  changed-then : (f m after : F) (xs us ys vs : List (Told (Event T))) → AllChanged g f xs us m → AllChanged g m ys vs after → AllChanged g f (xs ++ ys) (us ++ vs) after
  changed-then f m after [] [] ys vs c d = subst (λ x. AllChanged g x ys vs after) c d
  changed-then f m after [] (u ∷ us) ys vs c d = absurd c
  changed-then f m after (x ∷ xs) [] ys vs c d = absurd c
  changed-then f m after (x ∷ xs) (u ∷ us) ys vs c d = (c.0, c.1, changed-then c.0 m after xs us ys vs c.2 d)

  -- an answer that is another one told what that tells
  changed-as : (f after : F) (xs : List (Told (Event T))) (answer same : Answer (Event T)) → answer ≡ same → AllChanged g f xs (told_in same) after → AllChanged g f xs (told_in answer) after
  changed-as f after xs answer same e c = subst (λ a. AllChanged g f xs (told_in a) after) (sym e) c

  answer-changed : (f : F) (last answer : Answer (Event T)) (after : F) → AnswerChanged g f last answer after → AllChanged g f (told_in last) (told_in answer) after
  answer-changed f (Ok (Item (Ok event))) answer after c = changed-as f after (Ok event ∷ []) answer (Ok (Item (Ok c.0))) c.2 (after, (c.0, c.1, refl), refl)
  answer-changed f (Ok (Item (Err error))) answer after c = changed-as f after (Err error ∷ []) answer (Ok (Item (Err error))) c.0 (f, (refl, refl), c.1)
  answer-changed f (Ok NotReady) answer after c = changed-as f after [] answer (Ok NotReady) c.0 c.1
  answer-changed f (Ok Spent) answer after c = changed-as f after [] answer (Ok Spent) c.0 c.1
  answer-changed f (Ok End) answer after c = changed-as f after [] answer (Ok End) c.0 c.1
  answer-changed f (Err fault) answer after c = changed-as f after [] answer (Err fault) c.0 c.1

  module _ {S : Type 0} (polls : S → ℕ → ℕ → Answer (Event T) → S → Type 0) where
    -- what polls heard, and how it was changed
    record Polled (m : Modifying S F) (told : List (Told (Event T))) (n : Modifying S F) : Type 0 where
      pub xs : List (Told (Event T))
      pub heard : Heard polls m.stream xs n.stream
      pub changed : AllChanged g m.f xs told n.f

    one-poll : (fault : Option StreamFault) (now fuel : ℕ) (m : Modifying S F) (answer : Answer (Event T)) (n : Modifying S F) → Modified g polls fault now fuel m answer n → Polled m (told_in answer) n
    one-poll (Some fault) now fuel m answer n p = record {
      xs = [];
      heard = nothing-heard polls m.stream n.stream (ap (λ (x : Modifying S F). x.stream) p.1);
      changed = changed-as m.f n.f [] answer (Err fault) p.0 (ap (λ (x : Modifying S F). x.f) p.1);
    }
    one-poll None now fuel m answer n p = record {
      xs = told_in p.last;
      heard = asked-heard polls now fuel m.stream p.last n.stream p.asked;
      changed = answer-changed m.f p.last answer n.f p.changed;
    }

    many : (m : Modifying S F) (ps : List (ℕ × ℕ × Answer (Event T))) (n : Modifying S F)
        → PolledInTurn (λ (m : Modifying S F) now fuel answer n. Modified g polls m.fault now fuel m answer n) m ps n → Polled m (all_told ps) n
    many m [] n p = record {
      xs = [];
      heard = nothing-heard polls m.stream n.stream (ap (λ (x : Modifying S F). x.stream) p);
      changed = ap (λ (x : Modifying S F). x.f) p;
    }
    many m (x ∷ ps) n p =
        let k = p.0 in
        let one = one-poll m.fault x.0 x.1 m x.2 k p.1 in
        let more = many k ps n p.2 in
        record {
          xs = one.xs ++ more.xs;
          heard = heard-then polls m.stream k.stream n.stream one.xs more.xs one.heard more.heard;
          changed = changed-then m.f k.f n.f one.xs (told_in x.2) more.xs (all_told ps) one.changed more.changed;
        }

    pub modified-so-far : (m : Modifying S F) (ps : List (ℕ × ℕ × Answer (Event T))) (n : Modifying S F)
        → PolledInTurn (λ (m : Modifying S F) now fuel answer n. Modified g polls m.fault now fuel m answer n) m ps n → ModifiedSoFar g polls m ps n
    modified-so-far m ps n p =
        let all = many m ps n p in
        record { answers = all.heard.answers; answered = all.heard.answered; changed = subst (λ xs. AllChanged g m.f xs (all_told ps) n.f) all.heard.told all.changed }
