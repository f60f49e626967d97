-- What the loops of a wait keep.
use Rattle.std.proofs.Common.{◌≡◌, ℕ, List, Option, true, false}
use Rattle.kube_meta.specs.declared.poll.Next.TheVariants.{Spent}
use Rattle.kube_watch.specs.Polls.{Api}
use Rattle.kube_model.specs.History.{Dated}
use Rattle.kube_watch.specs.Stands.{StandsFor, is_spent}
use Rattle.kube_watch.specs.Objects.{Found, Observing, answers_in, is_held}
use Rattle.kube_final.specs.Waiting.{IsLive}
use Rattle.kube_final.specs.Waits.{Awaited, FirstEnd, Says}

-- no exchange was made, and what ends the answers that are left ends those at first
pub record IsTaking {A V : Type 0} (says : Says V) (first new : Observing A V) : Type 0 where
  pub live : ∥ IsLive new ∥₁
  pub api : new.watcher.api ≡ first.watcher.api
  pub config : new.watcher.config ≡ first.watcher.config
  pub stands : (ds : List (Dated V)) → StandsFor ds first.watcher → StandsFor ds new.watcher
  pub held : (ds : List (Dated V)) → StandsFor ds first.watcher → is_held new ≡ is_held first
  pub ends : (ds : List (Dated V)) → StandsFor ds first.watcher → (found : Option (Found V)) (left : List (Found V)) → FirstEnd says (answers_in new) found left → FirstEnd says (answers_in first) found left
  pub spent : is_spent first.watcher ≡ true → new ≡ first

-- so many exchanges were made, none of which told what ends the wait
pub record IsAsking {A V : Type 0} (api : Api A V) (says : Says V) (now asked : ℕ) (first new : Observing A V) : Type 0 where
  pub live : ∥ IsLive new ∥₁
  pub unspent : is_spent first.watcher ≡ false
  pub awaited : Awaited api says now asked first Spent new
