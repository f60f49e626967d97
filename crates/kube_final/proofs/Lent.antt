-- A wait whose API was lent is as alive as it was.
use Rattle.std.proofs.Common.{inl, inr}
use Rattle.std.proofs.Math.Logic.{∥∥₁_map}
use Rattle.kube_watch.specs.Objects.{Observing}
use Rattle.kube_watch.specs.Lending.{with_observed_api}
use Rattle.kube_final.specs.Waiting.{IsLive, Stands}

stands-lent : {A V : Type 0} (watch : Observing A V) (api : A) → Stands watch → Stands (with_observed_api watch api)
stands-lent watch api s = record { exchanges = s.exchanges; stands = record { stands = s.stands.stands; unspent = s.stands.unspent } }

live-lent : {A V : Type 0} (watch : Observing A V) (api : A) → IsLive watch → IsLive (with_observed_api watch api)
live-lent watch api (inl spent) = inl spent
live-lent watch api (inr stands) = inr (stands-lent watch api stands)

pub lent : {A V : Type 0} (watch : Observing A V) (api : A) → ∥ IsLive watch ∥₁ → ∥ IsLive (with_observed_api watch api) ∥₁
lent watch api live = ∥∥₁_map live (live-lent watch api)
