-- Worked talks over a history of three changes: a comes, b comes, and a is changed.
use Rattle.std.specs.Prelude.{ℕ, Bool, true, false, List, [], ◌∷◌, Option, Some, None, codes}
use Rattle.kube_meta.specs.declared.metadata.ObjectMeta.{ObjectMeta}
use Rattle.kube_model.specs.Raw.{RawAnswer, ListAsked, WatchAsked, NextAsked, GivesPage, Opens, GivesBookmark, Raw}
use Rattle.kube_model.specs.Plays.{Thing, thing}
use Rattle.kube_server.specs.History.{Change, Adds, Modifies}
use Rattle.kube_server.specs.Honest.{Selection, ending_mark, IsHonest}

abbrev pub meta_of_thing : Thing → ObjectMeta
meta_of_thing o = record {
  name = Some o.name;
  namespace = o.namespace;
  uid = None;
  resource_version = o.version;
  deletion_timestamp = None;
  generation = None;
  labels = None;
  annotations = None;
  finalizers = None;
  owner_references = None;
}

abbrev pub a1 : Thing
a1 = thing (codes "a") (codes "1")

abbrev pub b2 : Thing
b2 = thing (codes "b") (codes "2")

abbrev pub a3 : Thing
a3 = thing (codes "a") (codes "3")

abbrev pub three_changes : List (Change Thing)
three_changes = Adds a1 ∷ Adds b2 ∷ Modifies a3 ∷ []

-- each object is selected
abbrev pub each : Selection → Thing → Bool
each selection o = true

abbrev pub IsHonestRow : List (Raw Thing) → Type 0
IsHonestRow talk = IsHonest meta_of_thing each three_changes talk

-- ---- calls with their answers

-- a list is asked by a token, or begins without one: a page of objects, with a token or a version
abbrev pub page : Option (List ℕ) → List Thing → Option (List ℕ) → Option (List ℕ) → Raw Thing
page asked objects token version = record {
  call = ListAsked (record { label_selector = None; field_selector = None; limit = None; continue_token = asked; resource_version = None; version_match = None });
  answer = GivesPage objects token version;
}

-- one page that is a whole list, of a version
abbrev pub whole_page : List Thing → List ℕ → List (Raw Thing)
whole_page objects version = page None objects None (Some version) ∷ []

-- a watch, initial or later, from a version
abbrev pub opens : Bool → List ℕ → Raw Thing
opens initial version = record {
  call = WatchAsked (record { label_selector = None; field_selector = None; timeout = None; bookmarks = true; send_initial_events = initial }) version;
  answer = Opens;
}

abbrev pub tells : RawAnswer Thing → Raw Thing
tells event = record { call = NextAsked; answer = event }

abbrev pub bookmark : List ℕ → RawAnswer Thing
bookmark version = GivesBookmark version []

abbrev pub ending : List ℕ → RawAnswer Thing
ending version = GivesBookmark version ((ending_mark, codes "true") ∷ [])
