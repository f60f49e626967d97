-- How the code holds changes, keys, watches and talks, as plain data.
use Rattle.std.specs.Prelude.{ℕ, List, [], ◌∷◌, ◌++◌, map, drop, Option, Some, None, option_map, string_bytes}
use Rattle.std.specs.Arc.{arc_value}
use Rattle.std.specs.declared.string.String.{String}
use Rattle.std.specs.declared.alloc.Global.{Global}
use Rattle.std.specs.declared.sync.Arc.{Arc}
use Rattle.kube_meta.specs.declared.dynamic.DynamicObject.{DynamicObject}
use Rattle.kube_meta.specs.declared.poll.Polled.TheVariants.{Ready}
use Rattle.kube_model.specs.Raw.{ListAsked, WatchAsked, NextAsked, Raw}
use Rattle.kube_api.specs.Answers.{list_answer, watch_answer, next_answer}
use Rattle.kube_server.specs.declared.entry.Entry.{Entry}
use Rattle.kube_server.specs.declared.entry.Entry.TheVariants.{Added, Modified, Deleted}
use Rattle.kube_server.specs.declared.selector.Sought.{Sought}
use Rattle.kube_server.specs.declared.selector.Sought.TheVariants.{Any, Named}
use Rattle.kube_server.specs.declared.talk.Told.{Told}
use Rattle.kube_server.specs.declared.talk.Told.TheVariants.{List as ListTold, Watch as WatchTold, Next as NextTold}
use Rattle.kube_server.specs.History.{Key, Change, Adds, Modifies, Removes, State}
use Rattle.kube_server.specs.Numbers.{NameSought, AnyName, OneName}

-- the change that an entry of the log is
abbrev pub change_of : Entry → Change DynamicObject
change_of (Added object) = Adds (arc_value object)
change_of (Modified object) = Modifies (arc_value object)
change_of (Deleted object) = Removes (arc_value object)

-- the key that a place of the map is
abbrev pub key_at : {A : Type 0} → Option (String A) × String A → Key
key_at place = record { namespace = option_map string_bytes place.0; name = string_bytes place.1 }

-- what a map of shared objects by place holds
abbrev pub state_held : {A B V : Type 0} → List ((Option (String A) × String A) × Arc V B) → State V
state_held [] = []
state_held (p ∷ ps) = (key_at p.0, arc_value p.1) ∷ state_held ps

-- the name that is sought
abbrev pub name_of : Sought → NameSought
name_of Any = AnyName
name_of (Named name) = OneName name

-- a call with its answer
abbrev pub raw_of : Told → Raw DynamicObject
raw_of (ListTold params page) = record { call = ListAsked params; answer = list_answer (Ready page) }
raw_of (WatchTold params version opened) = record { call = WatchAsked params version; answer = watch_answer (Ready opened) }
raw_of (NextTold event) = record { call = NextAsked; answer = next_answer event }
