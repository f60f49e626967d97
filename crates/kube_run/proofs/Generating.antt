-- One more turn of the run over a generated input.
use Rattle.std.proofs.Common.{◌≡◌, ℕ, suc, ◌+◌, ◌≤◌, Bool, true, false, not, List, [], ◌∷◌, ◌++◌, map, length, Option, None, Some, if◌then◌else◌, refl, sym, ap, ap₂, subst, ◌∙◌, append_assoc, append-nil, arith}
use Rattle.std.specs.Prelude.{◌||◌}
use Rattle.std.specs.List.{filter, filter_map, flat_map, list_any}
use Rattle.std.proofs.lemmas.List.{length-append, length-map, map-append}
use Rattle.std.proofs.lemmas.List.Folds.{list_any-append}
use Rattle.kube_meta.specs.Reference.{Reference, same_reference}
use Rattle.kube_meta.specs.ReferenceLaws.{same_reference_equiv}
use Rattle.kube_model.specs.World.{World}
use Rattle.kube_model.specs.History.{Exchange, Finish, Step, Turn, TurnRecord}
use Rattle.kube_model.specs.Named.{AreNamedTurns}
use Rattle.kube_model.specs.Takes.{Running, is_finished, running, started, unfinished}
use Rattle.kube_model.specs.Traces.{has_ended, IsRecord, IsTrace, Made, unread, step, steps}
use Rattle.kube_model.proofs.Histories.{running-push}
use Rattle.kube_run.specs.GeneratedRun.{AreTurnsFrom, ended_well, references_in, running_references, started_by, turn_at}
use Rattle.kube_run.specs.Reached.{HasTaken}
use Rattle.kube_step.proofs.Traced.{named-push, steps-end, steps-push, trace-ends, trace-long}

-- ---- what runs

abbrev pub reference_of : {O : Type 0} → Running O → Reference
reference_of p = p.reference

any-of : (a b : Bool) → b ≡ true → (a || b) ≡ true
any-of true b e = refl
any-of false b e = e

is-among : (fs : List Finish) (r : Reference) (rest : List Reference) → is_finished (fs ++ map ended_well (r ∷ rest)) r ≡ true
is-among fs r rest =
    list_any-append (λ f. same_reference f.reference r) fs (map ended_well (r ∷ rest))
    ∙ any-of (is_finished fs r) (same_reference r r || is_finished (map ended_well rest) r) (ap (λ b. b || is_finished (map ended_well rest) r) (same_reference_equiv.refl r))

module _ {O : Type 0} where
  -- nothing runs on where all finishes
  none-left : (ps : List (Running O)) (fs : List Finish) → unfinished ps (fs ++ map ended_well (map reference_of ps)) ≡ []
  none-left [] fs = refl
  none-left (p ∷ ps) fs =
      let rest = map ended_well (map reference_of ps) in
      ap (λ b. if (not b) then p ∷ unfinished ps (fs ++ ended_well p.reference ∷ rest) else unfinished ps (fs ++ ended_well p.reference ∷ rest)) (is-among fs p.reference (map reference_of ps))
      ∙ (ap (unfinished ps) (sym (append_assoc fs (ended_well p.reference ∷ []) rest)) ∙ none-left ps (fs ++ ended_well p.reference ∷ []))

  -- after a turn in which all finishes what it started runs
  pub runs-then : (k : ℕ) (h : List (Step O)) (t : Turn) (r : TurnRecord O) → t ≡ turn_at k (running_references h) → running_references (h ++ step t (unread r) ∷ []) ≡ map reference_of (filter_map started r.taken)
  runs-then k h t r e =
      ap (map reference_of) (running-push h (step t (unread r))
      ∙ ap (λ ps. ps ++ filter_map started r.taken) (ap (λ (u : Turn). unfinished (running h) u.finishes) e ∙ none-left (running h) []))

  -- ---- turns

  pub turns-push : (k : ℕ) (h : List (Step O)) (ts : List Turn) (rs : List (TurnRecord O)) (t : Turn) (r : TurnRecord O) → length ts ≡ length rs → AreTurnsFrom k h ts rs
      → t ≡ turn_at (k + length ts) (running_references (h ++ steps ts (map unread rs))) → AreTurnsFrom k h (ts ++ t ∷ []) (rs ++ r ∷ [])
  turns-push k h [] [] t r e a b = (b ∙ ap₂ (λ n g. turn_at n (running_references g)) (omega arith) (append-nil h), tt)
  turns-push k h [] (q ∷ rs) t r e a b = absurd (omega (arith, e))
  turns-push k h (u ∷ ts) [] t r e a b = absurd (omega (arith, e))
  turns-push k h (u ∷ ts) (q ∷ rs) t r e a b = (
    a.0,
    turns-push (k + 1) (h ++ step u (unread q) ∷ []) ts rs t r (omega (arith, e)) a.1
        (b ∙ ap₂ (λ n g. turn_at n (running_references g)) (omega arith) (sym (append_assoc h (step u (unread q) ∷ []) (steps ts (map unread rs))))),
  )

  pub turns-stay : (k : ℕ) (h : List (Step O)) (ts : List Turn) (rs : List (TurnRecord O)) (t : Turn) → length rs ≤ length ts → AreTurnsFrom k h ts rs → AreTurnsFrom k h (ts ++ t ∷ []) rs
  turns-stay k h [] [] t l a = tt
  turns-stay k h [] (r ∷ rs) t l a = absurd (omega (arith, l))
  turns-stay k h (u ∷ ts) [] t l a = tt
  turns-stay k h (u ∷ ts) (r ∷ rs) t l a = (a.0, turns-stay (k + 1) (h ++ step u (unread r) ∷ []) ts rs t (omega (arith, l)) a.1)

-- ---- the run

module _ {O B : Type 0} (w : World O B) (policy : O → Option ℕ) (named : ℕ → List (Exchange O) → Exchange O → Type 0) where
  -- no more records than turns
  few : (h : List (Step O)) (ts : List Turn) (rs : List (TurnRecord O)) → IsTrace w (λ n k. policy) h ts (map unread rs) → length rs ≤ length ts
  few h ts [] k = omega arith
  few h [] (r ∷ rs) k = absurd (cc)
  few h (t ∷ ts) (r ∷ rs) k = let rest = few (h ++ step t (unread r) ∷ []) ts rs k.2 in omega (arith, rest)

  trace-more : (h : List (Step O)) (ts : List Turn) (rs : List (TurnRecord O)) (t : Turn) (r : TurnRecord O) → length ts ≡ length rs → IsTrace w (λ n k. policy) h ts (map unread rs)
      → has_ended (h ++ steps ts (map unread rs)) ≡ false → IsRecord w (λ k. policy) (h ++ steps ts (map unread rs)) t (unread r) → IsTrace w (λ n k. policy) h (ts ++ t ∷ []) (map unread (rs ++ r ∷ []))
  trace-more h [] [] t r e k going made = (subst (λ g. has_ended g ≡ false) (append-nil h) going, subst (λ g. IsRecord w (λ k. policy) g t (unread r)) (append-nil h) made, refl)
  trace-more h [] (q ∷ rs) t r e k going made = absurd (omega (arith, e))
  trace-more h (u ∷ ts) [] t r e k going made = absurd (omega (arith, e))
  trace-more h (u ∷ ts) (q ∷ rs) t r e k going made = (
    k.0,
    k.1,
    trace-more (h ++ step u (unread q) ∷ []) ts rs t r (omega (arith, e)) k.2
        (subst (λ g. has_ended g ≡ false) (sym (append_assoc h (step u (unread q) ∷ []) (steps ts (map unread rs)))) going)
        (subst (λ g. IsRecord w (λ k. policy) g t (unread r)) (sym (append_assoc h (step u (unread q) ∷ []) (steps ts (map unread rs)))) made),
  )

  pub none-taken : HasTaken w policy named 0 [] []
  none-taken = record { count_is = refl; turns_are = tt; trace = refl; all_named = tt }

  -- one more turn, with its record if there is one
  pub record HasTakenMore (count : ℕ) (ts : List Turn) (rs : List (TurnRecord O)) (t : Turn) (qs : List (TurnRecord O)) : Type 0 where
    pub taken : HasTaken w policy named (count + 1) (ts ++ t ∷ []) (rs ++ qs)
    pub steps_are : steps (ts ++ t ∷ []) (map unread (rs ++ qs)) ≡ steps ts (map unread rs) ++ steps (t ∷ []) (map unread qs)
    pub run_on : (has_ended (steps ts (map unread rs) ++ steps (t ∷ []) (map unread qs)) ≡ false) → running_references (steps ts (map unread rs) ++ steps (t ∷ []) (map unread qs)) ≡ started_by qs

  pub one-more : (count : ℕ) (ts : List Turn) (rs : List (TurnRecord O)) (t : Turn) (qs : List (TurnRecord O)) → HasTaken w policy named count ts rs
      → (has_ended (steps ts (map unread rs)) ≡ false → t ≡ turn_at count (running_references (steps ts (map unread rs))))
      → IsTrace w (λ n k. policy) (steps ts (map unread rs)) (t ∷ []) (map unread qs) → AreNamedTurns w named (steps ts (map unread rs)) (steps (t ∷ []) (map unread qs)) → HasTakenMore count ts rs t qs
  one-more count ts rs t [] k told trace names =
      let same : rs ++ [] ≡ rs = append-nil rs in
      let are : steps (ts ++ t ∷ []) (map unread rs) ≡ steps ts (map unread rs) = steps-end w (λ n k. policy) [] ts (t ∷ []) (map unread rs) k.trace in
      let whole : HasTaken w policy named (count + 1) (ts ++ t ∷ []) rs = record {
        count_is = let l = length-append ts (t ∷ []) in let c = k.count_is in omega (arith, l, c);
        turns_are = turns-stay 0 [] ts rs t (few [] ts rs k.trace) k.turns_are;
        trace = trace-ends w (λ n k. policy) [] ts (t ∷ []) (map unread rs) k.trace trace;
        all_named = subst (AreNamedTurns w named []) (sym are) k.all_named;
      } in record {
        taken = subst (HasTaken w policy named (count + 1) (ts ++ t ∷ [])) (sym same) whole;
        steps_are = ap (λ qs. steps (ts ++ t ∷ []) (map unread qs)) same ∙ (are ∙ sym (append-nil (steps ts (map unread rs))));
        run_on = λ going. absurd (let z : true ≡ false = sym trace ∙ subst (λ g. has_ended g ≡ false) (append-nil (steps ts (map unread rs))) going in cc);
      }
  one-more count ts rs t (r ∷ []) k told trace names =
      let hist = steps ts (map unread rs) in
      let long : length ts ≡ length (map unread rs) = trace-long w (λ n k. policy) [] ts (map unread rs) k.trace trace.0 in
      let as-long : length ts ≡ length rs = long ∙ length-map rs unread in
      let turn : t ≡ turn_at count (running_references hist) = told trace.0 in
      let are : steps (ts ++ t ∷ []) (map unread (rs ++ r ∷ [])) ≡ hist ++ step t (unread r) ∷ [] = ap (steps (ts ++ t ∷ [])) (map-append unread rs (r ∷ [])) ∙ steps-push w ts (map unread rs) t (unread r) long in record {
        taken = record {
          count_is = let l = length-append ts (t ∷ []) in let c = k.count_is in omega (arith, l, c);
          turns_are = turns-push 0 [] ts rs t r as-long k.turns_are (turn ∙ ap (λ n. turn_at n (running_references hist)) (let c = k.count_is in omega (arith, c)));
          trace = trace-more [] ts rs t r as-long k.trace trace.0 trace.1;
          all_named = subst (AreNamedTurns w named []) (sym are) (named-push w named [] hist (step t (unread r)) k.all_named names.0);
        };
        steps_are = are;
        run_on = λ going. runs-then count hist t r turn ∙ sym (append-nil (references_in r.taken));
      }
  one-more count ts rs t (r ∷ q ∷ qs) k told trace names = absurd (let z = trace.2 in cc)
