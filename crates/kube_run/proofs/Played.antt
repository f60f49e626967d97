-- Traces of a script's first turns.
use Rattle.std.proofs.Common.{◌≡◌, ℕ, ◌+◌, List, [], ◌∷◌, ◌++◌, length, map, take, Option, refl, sym, ap, subst}
use Rattle.kube_meta.specs.Reading.{ObjectData}
use Rattle.kube_model.specs.History.{Step, Turn, TurnRecord}
use Rattle.kube_model.specs.Named.{AreNamedTurns, RootIsNamed}
use Rattle.kube_model.specs.Traces.{IsTrace, step, steps, unread}
use Rattle.kube_model.specs.World.{World}
use Rattle.kube_script.specs.Script.{Script}
use Rattle.kube_run.specs.Played.{IsFront, IsPlayed, IsPlayedFront, apis_at_first, policies_in, script_world, trace_text, turns_in}

-- no turn was taken yet
pub none-played : (s : Script) → IsPlayedFront s []
none-played s = (apis_at_first s, record { trace = refl; named = tt; answered = (refl, refl) })

-- a trace is that of the turns that have records
trace-front : {O B : Type 0} (w : World O B) (p : ℕ → ℕ → O → Option ℕ) (h : List (Step O)) (ts : List Turn) (rs : List (TurnRecord O)) → IsTrace w p h ts (map unread rs) → IsTrace w p h (take (length rs) ts) (map unread rs)
trace-front w p h [] [] k = k
trace-front w p h [] (r ∷ rs) k = absurd (cc)
trace-front w p h (t ∷ ts) [] k = refl
trace-front w p h (t ∷ ts) (r ∷ rs) k = (k.0, k.1, trace-front w (λ n. p (n + 1)) (h ++ step t (unread r) ∷ []) ts rs k.2)

-- so are their steps
steps-front : {O : Type 0} (ts : List Turn) (rs : List (TurnRecord O)) → steps (take (length rs) ts) (map unread rs) ≡ steps ts (map unread rs)
steps-front [] [] = refl
steps-front [] (r ∷ rs) = refl
steps-front (t ∷ ts) [] = refl
steps-front (t ∷ ts) (r ∷ rs) = ap (λ ss. step t (unread r) ∷ ss) (steps-front ts rs)

pub whole-front : (s : Script) (rs : List (TurnRecord ObjectData)) → IsPlayed s rs → IsPlayedFront s rs
whole-front s rs p = (
  p.0,
  record {
    trace = trace-front (script_world s) (policies_in s) [] (turns_in s) rs p.1.trace;
    named = subst (λ ss. AreNamedTurns (script_world s) (RootIsNamed (script_world s)) [] ss) (sym (steps-front (turns_in s) rs)) p.1.named;
    answered = p.1.answered;
  },
)

pub front-is-front : (s : Script) (rs : List (TurnRecord ObjectData)) → IsPlayedFront s rs → IsFront s (trace_text s rs)
front-is-front s rs p = (rs, p, refl)
