-- A pool's history, entry by entry.
use Rattle.std.proofs.Common.{◌≡◌, List, [], ◌∷◌, ◌++◌, sym, ap, subst, ◌∙◌, append_assoc, append-nil}
use Rattle.std.proofs.lemmas.Grind.{flat_map-append}
use Rattle.kube_history.specs.CoreWorld.{CoreWorld}
use Rattle.kube_history.specs.CoreEvents.{CoreEvent}
use Rattle.kube_history.specs.Legal.{AreLegal}
use Rattle.kube_history.specs.PoolHistory.{PoolEntry, entry_events, events_in, IsOfPass, AreOfPasses, IsPoolHistory}
use Rattle.kube_history.proofs.Segments.{legal-append}
use Rattle.kube_history.proofs.Calls.{legal-left, legal-right}

module _ {O : Type 0} where
  pub events-append : (es fs : List (PoolEntry O)) → events_in (es ++ fs) ≡ events_in es ++ events_in fs
  events-append es fs = flat_map-append entry_events es fs

  pub events-push : (es : List (PoolEntry O)) (e : PoolEntry O) → events_in (es ++ e ∷ []) ≡ events_in es ++ entry_events e
  events-push es e = events-append es (e ∷ []) ∙ ap (λ us. events_in es ++ us) (append-nil (entry_events e))

  passes-left : (before es fs : List (PoolEntry O)) → AreOfPasses before (es ++ fs) → AreOfPasses before es
  passes-left before [] fs k = tt
  passes-left before (a ∷ es) fs k = (k.0, passes-left (before ++ a ∷ []) es fs k.1)

  passes-right : (before es fs : List (PoolEntry O)) → AreOfPasses before (es ++ fs) → AreOfPasses (before ++ es) fs
  passes-right before [] fs k = subst (λ b. AreOfPasses b fs) (sym (append-nil before)) k
  passes-right before (a ∷ es) fs k = subst (λ b. AreOfPasses b fs) (append_assoc before (a ∷ []) es) (passes-right (before ++ a ∷ []) es fs k.1)

  passes-push : (before es : List (PoolEntry O)) (e : PoolEntry O) → AreOfPasses before es → IsOfPass (before ++ es) e → AreOfPasses before (es ++ e ∷ [])
  passes-push before [] e k p = (subst (λ b. IsOfPass b e) (append-nil before) p, tt)
  passes-push before (a ∷ es) e k p = (k.0, passes-push (before ++ a ∷ []) es e k.1 (subst (λ b. IsOfPass b e) (sym (append_assoc before (a ∷ []) es)) p))

module _ {O : Type 0} (core : CoreWorld O) (opening : List (CoreEvent O)) where
  pub front : (es fs : List (PoolEntry O)) → IsPoolHistory core opening (es ++ fs) → IsPoolHistory core opening es
  front es fs k = record {
    legal = legal-left core opening (events_in es) (events_in fs) (subst (AreLegal core opening) (events-append es fs) k.legal);
    passes = passes-left [] es fs k.passes;
  }

  pub shrinks : (es : List (PoolEntry O)) (e : PoolEntry O) → IsPoolHistory core opening (es ++ e ∷ [])
      → IsPoolHistory core opening es × AreLegal core (opening ++ events_in es) (entry_events e) × IsOfPass es e
  shrinks es e k = (
    front es (e ∷ []) k,
    legal-right core opening (events_in es) (entry_events e) (subst (AreLegal core opening) (events-push es e) k.legal),
    (passes-right [] es (e ∷ []) k.passes).0,
  )

  pub grows : (es : List (PoolEntry O)) (e : PoolEntry O) → IsPoolHistory core opening es × AreLegal core (opening ++ events_in es) (entry_events e) × IsOfPass es e
      → IsPoolHistory core opening (es ++ e ∷ [])
  grows es e (k, l, p) = record {
    legal = subst (AreLegal core opening) (sym (events-push es e)) (legal-append core opening (events_in es) (entry_events e) k.legal l);
    passes = passes-push [] es e k.passes p;
  }

  pub whole : (es : List (PoolEntry O)) → AreLegal core [] opening → IsPoolHistory core opening es → AreLegal core [] (opening ++ events_in es)
  whole es l k = legal-append core [] opening (events_in es) l k.legal
