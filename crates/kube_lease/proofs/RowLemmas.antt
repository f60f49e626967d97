-- The candidates of worked elections.
use Rattle.std.proofs.Common.{◌≡◌, ℕ, zero, suc, [], Some, slice_get, refl, ap, sym, ◌∙◌, true≢false}
use Rattle.std.proofs.lemmas.Slice.Eq.{bytes_eq-Decides}
use Rattle.kube_lease.specs.declared.election.Entrant.{Entrant}
use Rattle.kube_lease.specs.Elections.{AreEntrants}
use Rattle.kube_lease.specs.Rows.{both, entrant, x, y}

named : (c : ℕ) (e : Entrant) → slice_get both c ≡ Some e → e.id ≡ [] → ⊥
named zero e h k = let same : entrant x ≡ e = cc in true≢false (sym ((bytes_eq-Decides x []).1 (ap (λ (f : Entrant). f.id) same ∙ k)))
named (suc zero) e h k = let same : entrant y ≡ e = cc in true≢false (sym ((bytes_eq-Decides y []).1 (ap (λ (f : Entrant). f.id) same ∙ k)))
named (suc (suc c)) e h k = absurd (cc)

apart : (e f : Entrant) → entrant x ≡ e → entrant y ≡ f → e.id ≡ f.id → ⊥
apart e f h k same = true≢false (sym ((bytes_eq-Decides x y).1 (ap (λ (g : Entrant). g.id) h ∙ same ∙ sym (ap (λ (g : Entrant). g.id) k))))

different : (c d : ℕ) (e f : Entrant) → slice_get both c ≡ Some e → slice_get both d ≡ Some f → e.id ≡ f.id → c ≡ d
different zero zero e f h k same = refl
different zero (suc zero) e f h k same = let first : entrant x ≡ e = cc in let second : entrant y ≡ f = cc in absurd (apart e f first second same)
different zero (suc (suc d)) e f h k same = absurd (cc)
different (suc zero) zero e f h k same = let first : entrant x ≡ f = cc in let second : entrant y ≡ e = cc in absurd (apart f e first second (sym same))
different (suc zero) (suc zero) e f h k same = refl
different (suc zero) (suc (suc d)) e f h k same = absurd (cc)
different (suc (suc c)) d e f h k same = absurd (cc)

pub both_entrants : AreEntrants both
both_entrants = record { named = named; different = different }
