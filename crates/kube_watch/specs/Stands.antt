-- What a watcher stands for: the exchanges of which its parts are what the definitions give. V is the type of objects.
use Rattle.std.specs.Prelude.{◌≡◌, ℕ, Bool, true, false, List, map, Option}
use Rattle.kube_model.specs.World.{Settings, Watched}
use Rattle.kube_model.specs.History.{Dated, Exchange}
use Rattle.kube_model.specs.Owed.{owed, is_initial, seen}
use Rattle.kube_model.specs.Fits.{silent_since}
use Rattle.kube_watch.specs.declared.state.State.{State}
use Rattle.kube_watch.specs.declared.state.State.TheVariants.{Empty, InitPage, InitialWatch, InitListed, Watching}
use Rattle.kube_watch.specs.Watching.{Told, Watching as Seen}
use Rattle.kube_watch.specs.declared.config.Config.{Config}
use Rattle.kube_watch.specs.Configs.{settings_of}
use Rattle.kube_watch.specs.States.{call_in}
use Rattle.kube_watch.specs.Table.{Row, table}

-- the API of a watcher, its configuration, and whether a call of it once had no memory
abbrev pub api_of : {A V : Type 0} → Seen A V → A
api_of w = w.api

abbrev pub config_of : {A V : Type 0} → Seen A V → Config
config_of w = w.config

abbrev pub settings_in : {A V : Type 0} → Seen A V → Settings
settings_in w = settings_of w.config

-- what a watcher has to tell before it asks again
abbrev pub waiting_in : {A V : Type 0} → Seen A V → List (Told V)
waiting_in w = w.waiting

abbrev pub is_spent : {A V : Type 0} → Seen A V → Bool
is_spent w = w.is_spent

abbrev pub exchanges_in : {O : Type 0} → List (Dated O) → List (Exchange O)
exchanges_in ds = map (λ d. d.exchange) ds

-- a state fits, where a `next` belongs to an initial watch or not, and where this version was seen
abbrev pub IsIn : State → Bool → List ℕ → Type 0
IsIn Empty initial kept = Unit {0}
IsIn (InitPage token) initial kept = Unit {0}
IsIn InitialWatch initial kept = initial ≡ true
IsIn (InitListed version) initial kept = version ≡ kept
IsIn (Watching version) initial kept = (initial ≡ false) × (version ≡ kept)

-- these exchanges leave this state, silent since that moment or not at all
pub record Stands {O : Type 0} (settings : Settings) (state : State) (since : Option ℕ) (ds : List (Dated O)) : Type 0 where
  pub owes : call_in settings state ≡ owed (Watched settings) (exchanges_in ds)
  pub within : IsIn state (is_initial (exchanges_in ds)) (seen (exchanges_in ds))
  pub silent : since ≡ silent_since ds

-- the watcher's owed call, its seen version and the beginning of its silence are those that the definitions give for these exchanges; a watcher that once had no memory stands for none
pub record StandsFor {A V : Type 0} (ds : List (Dated V)) (w : Seen A V) : Type 0 where
  pub stands : Stands (settings_in w) w.state w.silent_since ds
  pub unspent : is_spent w ≡ false

-- the row of the table for an exchange after those before
abbrev pub row_of : {O : Type 0} → Settings → List (Exchange O) → Exchange O → Row O
row_of settings before x = table settings (seen before) (is_initial before) x.call x.answer x.items
