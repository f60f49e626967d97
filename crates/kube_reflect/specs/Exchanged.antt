-- What the exchanges of a watched source leave in a cache that is told of them. O is the type of objects. (Crate: `Writer::apply_watcher_event`, over `watcher`; Kubernetes API concepts, "efficient detection of changes", "streaming lists".)
use Rattle.std.specs.Prelude.{◌≡◌, Bool, true, false, List, [], ◌∷◌, ◌++◌, map, Some, None, IsTrue}
use Rattle.std.specs.List.{fold}
use Rattle.kube_meta.specs.Reference.{Reference}
use Rattle.kube_model.specs.declared.call.Call.{Call}
use Rattle.kube_model.specs.declared.call.Call.TheVariants.{List as ListCall, Watch, Next, Stream}
use Rattle.kube_model.specs.World.{Settings, Watched}
use Rattle.kube_model.specs.History.{Exchange}
use Rattle.kube_model.specs.Owed.{owed, is_initial}
use Rattle.kube_model.specs.Fits.{answers}
use Rattle.kube_model.specs.Store as model
use Rattle.kube_reflect.specs.Cached.{Kept, keyed}

-- a list is under way where this call is owed: the next of its pages, or the next of an initial watch
abbrev pub IsUnderWay : Call → Bool → Type 0
IsUnderWay (ListCall (Some token)) initial = Unit {0}
IsUnderWay (ListCall None) initial = ⊥
IsUnderWay (Watch version start) initial = ⊥
IsUnderWay Next true = Unit {0}
IsUnderWay Next false = ⊥
IsUnderWay Stream initial = ⊥

-- a list was complete where this call is owed: a later watch, or the next of one
abbrev pub IsLater : Call → Bool → Type 0
IsLater (ListCall token) initial = ⊥
IsLater (Watch version true) initial = ⊥
IsLater (Watch version false) initial = Unit {0}
IsLater Next true = ⊥
IsLater Next false = Unit {0}
IsLater Stream initial = ⊥

module _ {O : Type 0} where
  -- an exchange may come after these: by some settings its call is owed, and has this answer
  pub record MayFollow (before : List (Exchange O)) (x : Exchange O) : Type 0 where
    pub settings : Settings
    pub owes : x.call ≡ owed (Watched settings) before
    pub answered : IsTrue (answers x.call x.answer)

  -- each may come after those before it
  abbrev pub MayCome : List (Exchange O) → List (Exchange O) → Type 0
  MayCome before [] = Unit {0}
  MayCome before (x ∷ xs) = MayFollow before x × MayCome (before ++ x ∷ []) xs

module _ {O : Type 0} (key : O → Reference) where
  -- objects, each beside its own reference
  abbrev pub all_keyed : List O → List (Reference × O)
  all_keyed os = map (keyed key) os

  -- what is kept is what these exchanges leave: their store and whether a list was complete; and by whichever settings: the objects of a list that is under way, and where a later watch is owed a list was complete
  pub record IsLeftBy (xs : List (Exchange O)) (k : Kept O) : Type 0 where
    pub stored : k.cache ≡ all_keyed (model.store_of key xs)
    pub ready : k.is_ready ≡ model.is_ready xs
    pub listing : (settings : Settings) → IsUnderWay (owed (Watched settings) xs) (is_initial xs)
        → k.buffer ≡ all_keyed (fold (model.put key) [] (model.under_way (owed (Watched settings) xs) xs))
    pub later : (settings : Settings) → IsLater (owed (Watched settings) xs) (is_initial xs) → model.is_ready xs ≡ true
