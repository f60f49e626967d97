-- Sources whose exchanges are determined. O is the type of objects, B that of a backoff's states, R that of roots, S that of sets of related sources.
use Rattle.std.proofs.Common.{◌≡◌, ℕ, List}
use Rattle.kube_model.specs.World.{World}
use Rattle.kube_model.specs.History.{Dated, Exchange}
use Rattle.kube_model.specs.Fits.{IsFitting}
use Rattle.kube_asks.specs.Asking.{IsPolledAt}

-- polls at the same source, after the same exchanges and at the same moment, make the same exchange of sources that are alike, and leave sources that are
abbrev pub ArePollsDetermined : {O B R S : Type 0} → World O B → (R → List (Dated O) → ℕ → Exchange O → R → Type 0) → (S → ℕ → List (Dated O) → ℕ → Exchange O → S → Type 0) → (R → R → Type 0) → (S → S → Type 0) → Type 0
ArePollsDetermined {O} {B} {R} {S} w root_polls related_polls AreRootsAlike AreSetsAlike =
    (before : List (Dated O)) (at : ℕ) (x y : Exchange O) (r r' q q' : R) (s s' u u' : S) → AreRootsAlike r q → AreSetsAlike s u → IsFitting w before at x → IsFitting w before at y → x.source ≡ y.source
    → IsPolledAt root_polls related_polls before at x r s r' s' x.source → IsPolledAt root_polls related_polls before at y q u q' u' y.source → (x ≡ y) × AreRootsAlike r' q' × AreSetsAlike s' u'
