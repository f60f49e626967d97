-- Turns whose moment is refused, and others.
use Rattle.std.proofs.Common.{◌≡◌, ℕ, ◌^◌, false, ◌||◌, nat_le, nat_lt, List, [], Some, if◌then◌else◌, sym, ap, ◌∙◌}
use Rattle.kube_model.specs.History.{Step, Turn}
use Rattle.kube_model.specs.Takes.{running}
use Rattle.kube_model.specs.Traces.{Moment, last_moment, refusal, refused_finish}

pub good-moment : {O : Type 0} (h : List (Step O)) (t : Turn) (last : ℕ) → (nat_le (2 ^ 63) t.at || nat_lt t.at last) ≡ false → last ≡ last_moment h → refusal h t ≡ refused_finish (running h) [] 0 t.finishes
good-moment h t last bad is =
    ap (λ b. if b then Some (Moment t.at (last_moment h)) else refused_finish (running h) [] 0 t.finishes)
    (ap (λ n. nat_le (2 ^ 63) t.at || nat_lt t.at n) (sym is) ∙ bad)
