-- What each call leaves of a connection, by what became of its parts.
use Rattle.std.proofs.Common.{◌≡◌, ℕ, Bool, true, false, List, [], ◌∷◌, ◌++◌, fold, Option, Some, None, refl, ap, subst, ◌∙◌}
use Rattle.std.specs.List.{AllByRecursion}
use Rattle.kube_meta.specs.declared.metadata.ObjectMeta.{ObjectMeta}
use Rattle.kube_model.specs.declared.params.ListParams.{ListParams}
use Rattle.kube_model.specs.declared.params.WatchParams.{WatchParams}
use Rattle.kube_model.specs.Raw.{RawCall, ListAsked, WatchAsked, NextAsked, RawAnswer, Waits, Fails, GivesPage, Opens, GivesAdded, GivesModified, GivesDeleted, GivesBookmark, GivesError, Ends, Raw, IsNotOpened, IsNeverOpened}
use Rattle.kube_server.specs.History.{Change}
use Rattle.kube_server.specs.Numbers.{NameSought, name_sought}
use Rattle.kube_server.specs.Honest.{WatchTold, watch_told, watch_after, after_watch_answer, after_next_answer}
use Rattle.kube_server.specs.Connections.{OpenWatch, Connection, fresh, failures_after, unsupported, listed, after_list, watched_by, watched, opening, opened_by, opened, after_watch, poll_current, left_current, polled, after_next}
use Rattle.kube_server.specs.Standing.{WatchStands, Stands}
use Rattle.kube_server.proofs.StandingLemmas.{Stands-watched}

module _ {V : Type 0} (meta : V → ObjectMeta) where
  made : (raw : Raw V) (call : RawCall) (answer : RawAnswer V) → raw.call ≡ call → raw.answer ≡ answer → raw ≡ record { call = call; answer = answer }
  made raw call answer same_call same_answer = λ i. record { call = same_call i; answer = same_answer i }

  pub list_left : (old : Connection V) (params : ListParams) (raw : Raw V) (changes : List (Change V)) (raws : List (Raw V)) (failures : ℕ) → changes ≡ old.changes → raw.call ≡ ListAsked params → raw.answer ≡ listed meta params (fresh old.changes old.compacted) → raws ≡ old.talk ++ raw ∷ [] → failures ≡ failures_after raw.answer old.failures → after_list meta params old ≡ record { changes = changes; compacted = old.compacted; watch = old.watch; talk = raws; failures = failures }
  list_left old params raw changes raws failures same call answer talk count =
      let one : raw ≡ record { call = ListAsked params; answer = listed meta params old } = made raw _ _ call answer in
      rw (same, talk, count, one) refl

  pub watch_left : (old : Connection V) (params : WatchParams) (version : List ℕ) (raw : Raw V) (changes : List (Change V)) (watch : Option (OpenWatch V)) (raws : List (Raw V)) (failures : ℕ) → changes ≡ old.changes → raw.call ≡ WatchAsked params version → raw.answer ≡ watched params → watch ≡ opened meta params version old → raws ≡ old.talk ++ raw ∷ [] → failures ≡ failures_after raw.answer old.failures → after_watch meta params version old ≡ record { changes = changes; compacted = old.compacted; watch = watch; talk = raws; failures = failures }
  watch_left old params version raw changes watch raws failures same call answer left talk count =
      let one : raw ≡ record { call = WatchAsked params version; answer = watched params } = made raw _ _ call answer in
      rw (same, left, talk, count, one) refl

  pub watch_stands : (old : Connection V) (params : WatchParams) (version : List ℕ) (raw : Raw V) (changes : List (Change V)) (watch : Option (OpenWatch V)) (raws : List (Raw V)) (failures : ℕ) → changes ≡ old.changes → raw.call ≡ WatchAsked params version → raw.answer ≡ watched params → watch ≡ opened meta params version old → raws ≡ old.talk ++ raw ∷ [] → failures ≡ failures_after raw.answer old.failures → Stands meta old → Stands meta (record { changes = changes; compacted = old.compacted; watch = watch; talk = raws; failures = failures })
  watch_stands old params version raw changes watch raws failures same call answer left talk count s =
      subst (λ (c : Connection V). Stands meta c) (watch_left old params version raw changes watch raws failures same call answer left talk count) (Stands-watched meta old params version s)

  pub next_left : (old : Connection V) (raw : Raw V) (watch : Option (OpenWatch V)) (raws : List (Raw V)) (failures : ℕ) → raw.call ≡ NextAsked → raw.answer ≡ polled meta old → watch ≡ left_current meta old.changes old.watch → raws ≡ old.talk ++ raw ∷ [] → failures ≡ failures_after raw.answer old.failures → after_next meta old ≡ record { changes = old.changes; compacted = old.compacted; watch = watch; talk = raws; failures = failures }
  next_left old raw watch raws failures call answer left talk count =
      let one : raw ≡ record { call = NextAsked; answer = polled meta old } = made raw _ _ call answer in
      rw (left, talk, count, one) refl

  -- ---- a watch call of a connection of which nothing was asked yet, and of any other with that log

  refused_by : (old : Connection V) (params : WatchParams) (version : List ℕ) (name : Option NameSought) → None ≡ opened_by meta params version (fresh old.changes old.compacted) name → ◌≡◌ {A = RawAnswer V} unsupported (watched_by name) × (old.watch ≡ opened_by meta params version old name)
  refused_by old params version None none = (refl, refl)
  refused_by old params version (Some name) none = absurd (cc)

  pub refused : (old : Connection V) (params : WatchParams) (version : List ℕ) → None ≡ opened meta params version (fresh old.changes old.compacted) → ◌≡◌ {A = RawAnswer V} unsupported (watched params) × (old.watch ≡ opened meta params version old)
  refused old params version none = refused_by old params version (name_sought params.label_selector params.field_selector) none

  opening_same : (old : Connection V) (name : NameSought) (version : List ℕ) (initial : Bool) → opening meta name initial version (fresh old.changes old.compacted) ≡ opening meta name initial version old
  opening_same old name version true = refl
  opening_same old name version false = refl

  begun_by : (old : Connection V) (params : WatchParams) (version : List ℕ) (name : Option NameSought) (watch : OpenWatch V) → Some watch ≡ opened_by meta params version (fresh old.changes old.compacted) name → ◌≡◌ {A = RawAnswer V} Opens (watched_by name) × (Some watch ≡ opened_by meta params version old name)
  begun_by old params version None watch some = absurd (cc)
  begun_by old params version (Some name) watch some = (refl, some ∙ ap Some (opening_same old name version params.send_initial_events))

  pub begun : (old : Connection V) (params : WatchParams) (version : List ℕ) (watch : OpenWatch V) → Some watch ≡ opened meta params version (fresh old.changes old.compacted) → ◌≡◌ {A = RawAnswer V} Opens (watched params) × (Some watch ≡ opened meta params version old)
  begun old params version watch some = begun_by old params version (name_sought params.label_selector params.field_selector) watch some

  -- ---- without an open watch there is nothing but the end

  no_watch : (params : WatchParams) (version : List ℕ) (answer : RawAnswer V) → IsNotOpened answer → after_watch_answer None params version answer ≡ None
  no_watch params version Waits n = refl
  no_watch params version (Fails error) n = refl
  no_watch params version (GivesPage items token version') n = refl
  no_watch params version Opens n = absurd n
  no_watch params version (GivesAdded object) n = refl
  no_watch params version (GivesModified object) n = refl
  no_watch params version (GivesDeleted object) n = refl
  no_watch params version (GivesBookmark version' annotations) n = refl
  no_watch params version (GivesError status) n = refl
  no_watch params version Ends n = refl

  no_event : (answer : RawAnswer V) → after_next_answer None answer ≡ None
  no_event Waits = refl
  no_event (Fails error) = refl
  no_event (GivesPage items token version) = refl
  no_event Opens = refl
  no_event (GivesAdded object) = refl
  no_event (GivesModified object) = refl
  no_event (GivesDeleted object) = refl
  no_event (GivesBookmark version annotations) = refl
  no_event (GivesError status) = refl
  no_event Ends = refl

  still_none : (call : RawCall) (answer : RawAnswer V) → IsNotOpened answer → watch_after None call answer ≡ None
  still_none (ListAsked params) answer n = refl
  still_none (WatchAsked params version) answer n = no_watch params version answer n
  still_none NextAsked answer n = no_event answer

  all_none : (talk : List (Raw V)) (watch : Option (WatchTold V)) → watch ≡ None → AllByRecursion (λ (r : Raw V). IsNotOpened r.answer) talk → fold (λ w raw. watch_after w raw.call raw.answer) watch talk ≡ None
  all_none [] watch none n = none
  all_none (raw ∷ talk) watch none n = all_none talk (watch_after watch raw.call raw.answer) (ap (λ w. watch_after w raw.call raw.answer) none ∙ still_none raw.call raw.answer n.0) n.1

  ends : (h : List (Change V)) (told : Option (WatchTold V)) (watch : Option (OpenWatch V)) → told ≡ None → WatchStands meta h told watch → poll_current meta h watch ≡ Ends
  ends h None None none x = refl
  ends h None (Some w) none x = absurd x
  ends h (Some t) watch none x = absurd (cc)

  pub never_open : (c : Connection V) → Stands meta c → IsNeverOpened (Some c.talk) → polled meta c ≡ Ends
  never_open c s never = ends c.changes (watch_told c.talk) c.watch (all_none c.talk None refl never) s.watch
