-- Takes that are made one after another are a front of a turn's takes.
use Rattle.std.proofs.Common.{◌≡◌, ℕ, zero, suc, ◌≤◌, false, List, [], ◌∷◌, ◌++◌, length, Option, Some, None, refl, sym, ap, subst, ◌∙◌, append_assoc, append-nil, arith}
use Rattle.std.proofs.lemmas.List.{map-append}
use Rattle.kube_model.specs.World.{World, Settings, Watched, feed_of}
use Rattle.kube_model.specs.Reads.{nothing_read}
use Rattle.kube_model.specs.History.{Exchange, Turn, Finished, Taken, Step}
use Rattle.kube_model.specs.Shutdowns.{is_closed}
use Rattle.kube_model.specs.Takes.{running}
use Rattle.kube_model.specs.Turns.{next_source, taken_in}
use Rattle.kube_model.specs.Traces.{IsValid, AreFinishesOf, EachIsNext}
use Rattle.kube_history.specs.CoreWorld.{CoreWorld, core_world}
use Rattle.kube_history.specs.CoreEvents.{CoreEvent, Took, clock_of, next_taken}
use Rattle.kube_history.specs.Legal.{AreLegal}
use Rattle.kube_history.specs.TurnEvents.{before_takes, takes}
use Rattle.kube_history.specs.Agrees.{Agrees}
use Rattle.kube_history.proofs.Segments.{clock-append, legal-append}
use Rattle.kube_history.proofs.Calls.{calls-make}
use Rattle.kube_step.specs.Takes.{taken_so_far}
use Rattle.kube_step.proofs.Waits.{waits_after, fewer-wait}

module _ {O : Type 0} (core : CoreWorld O) (at : ℕ) where
  -- from anywhere on takes lead to one that finds nothing
  all-takes : (n : ℕ) (es : List (CoreEvent O)) → clock_of es ≤ at → length (waits_after core es) ≤ n → (ts : List (Taken O)) × AreLegal core es (takes at ts)
  all-takes zero es m l = go (next_taken core es) refl
    where
      go : (o : Option (Taken O)) → next_taken core es ≡ o → (ts : List (Taken O)) × AreLegal core es (takes at ts)
      go None e = ([], (record { moment = m; reply = sym e }, tt))
      go (Some t) e = let f = fewer-wait core es at t (sym e) in absurd (omega (arith, l, f))
  all-takes (suc n) es m l =
      go (next_taken core es) refl (λ t e.
      let f = fewer-wait core es at t (sym e) in
      all-takes n (es ++ Took at (Some t) ∷ []) (let c : clock_of (es ++ Took at (Some t) ∷ []) ≡ at = clock-append es (Took at (Some t) ∷ []) in omega (arith, c)) (omega (arith, l, f)))
    where
      go : (o : Option (Taken O)) → next_taken core es ≡ o → ((t : Taken O) → next_taken core es ≡ Some t → (ts : List (Taken O)) × AreLegal core (es ++ Took at (Some t) ∷ []) (takes at ts))
          → (ts : List (Taken O)) × AreLegal core es (takes at ts)
      go None e rest = ([], (record { moment = m; reply = sym e }, tt))
      go (Some t) e rest = let r = rest t e in (t ∷ r.0, (record { moment = m; reply = sym e }, r.1))

  clock-takes : (es : List (CoreEvent O)) (ts : List (Taken O)) → clock_of es ≤ at → clock_of (es ++ taken_so_far at ts) ≤ at
  clock-takes es [] m = subst (λ us. clock_of us ≤ at) (sym (append-nil es)) m
  clock-takes es (t ∷ ts) m =
      subst (λ us. clock_of us ≤ at) (append_assoc es (Took at (Some t) ∷ []) (taken_so_far at ts))
      (clock-takes (es ++ Took at (Some t) ∷ []) ts (let c : clock_of (es ++ Took at (Some t) ∷ []) ≡ at = clock-append es (Took at (Some t) ∷ []) in omega (arith, c)))

module _ {O B : Type 0} (w : World O B) (settings : Settings) (watched : feed_of w 0 ≡ Watched settings) (policies : ℕ → O → Option ℕ) (h : List (Step O)) (t : Turn) where
  -- takes that were made so far in an open turn are those that it makes first
  pub takes-front : (fs : List Finished) (xs : List (Exchange O)) (ts : List (Taken O)) (es : List (CoreEvent O)) → is_closed w h t ≡ false → Agrees w h es → IsValid h t → AreFinishesOf policies (running h) t.finishes fs
      → EachIsNext w h t [] xs → next_source w h t xs ≡ None → clock_of (es ++ before_takes w h t fs xs) ≤ t.at → AreLegal (core_world w) [] (es ++ before_takes w h t fs xs ++ taken_so_far t.at ts)
      → (rest : List (Taken O)) × (taken_in w h t nothing_read fs xs ≡ ts ++ rest)
  takes-front fs xs ts es o a v z k d m l =
      let core = core_world w in
      let so-far = es ++ before_takes w h t fs xs ++ taken_so_far t.at ts in
      let all = all-takes core t.at (length (waits_after core so-far)) so-far (clock-takes core t.at (es ++ before_takes w h t fs xs) ts m) (omega arith) in
      let joined : taken_so_far t.at ts ++ takes t.at all.0 ≡ takes t.at (ts ++ all.0) =
      sym (append_assoc (taken_so_far t.at ts) (taken_so_far t.at all.0) (Took t.at None ∷ []))
      ∙ ap (λ us. us ++ Took t.at None ∷ []) (sym (map-append (λ u. Took t.at (Some u)) ts all.0)) in
      let legal : AreLegal core [] (es ++ before_takes w h t fs xs ++ takes t.at (ts ++ all.0)) =
      subst (AreLegal core []) (append_assoc (es ++ before_takes w h t fs xs) (taken_so_far t.at ts) (takes t.at all.0) ∙ ap (λ us. es ++ before_takes w h t fs xs ++ us) joined) (legal-append core [] so-far (takes t.at all.0) l all.1) in
      (all.0, (calls-make w settings watched policies h t fs xs (ts ++ all.0) es o a v z k d legal).1)
