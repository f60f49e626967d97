-- What the API of a watched root has told by the end of turns. V is the type of objects.
use Rattle.std.specs.Prelude.{◌≡◌, ℕ, List, ◌++◌, Option, Some}
use Rattle.kube_model.specs.World.{Settings}
use Rattle.kube_model.specs.History.{Exchange}
use Rattle.kube_model.specs.Raw.{Raw}
use Rattle.kube_model.specs.Recorded.{AreRecorded}

-- it told these raw forms before, and then those of these exchanges
pub record HasTold {V : Type 0} (version : V → Option (List ℕ)) (settings : Settings) (before : List (Raw V)) (xs : List (Exchange V)) (told : Option (List (Raw V))) : Type 0 where
  pub talk : List (Raw V)
  pub is : told ≡ Some (before ++ talk)
  pub recorded : AreRecorded version settings talk xs
