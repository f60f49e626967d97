-- The exchanges of a root in the turns of a trace.
use Rattle.std.proofs.Common.{◌≡◌, ℕ, ◌+◌, ◌<◌, ◌^◌, ◌==◌, Bool, true, false, if◌then◌else◌, List, [], ◌∷◌, ◌++◌, map, length, take, drop, Option, refl, sym, ap, subst, ◌∙◌, append_assoc, append-nil, eqb-true}
use Rattle.std.proofs.lemmas.Grind.{flat_map-append}
use Rattle.std.proofs.lemmas.List.{map-append, take-append-drop}
use Rattle.std.proofs.lemmas.List.Elements.{filter-append}
use Rattle.kube_meta.specs.declared.metadata.ObjectMeta.{ObjectMeta}
use Rattle.kube_meta.specs.Reference.{ObjectType}
use Rattle.kube_model.specs.declared.call.Call.TheVariants.{Next}
use Rattle.kube_model.specs.World.{World, Settings, Watched, feed_of}
use Rattle.kube_model.specs.History.{Exchange, Dated, Turn, Step, dated, exchanges, dated_of, exchanges_of}
use Rattle.kube_model.specs.Owed.{owed}
use Rattle.kube_model.specs.Raw.{Raw}
use Rattle.kube_model.specs.Recorded.{AreRecorded}
use Rattle.kube_model.specs.Store.{store_of}
use Rattle.kube_model.specs.Traces.{IsTrace, Made, step, steps}
use Rattle.kube_model.proofs.Histories.{exchanges-push, exchanges_of-own, exchanges_of-other}
use Rattle.kube_history.specs.Agrees.{EachFits}
use Rattle.kube_history.proofs.TurnParts.{turn-fits}
use Rattle.kube_server.specs.History.{Change, IsHistory}
use Rattle.kube_server.specs.Honest.{Selection, IsHonest}
use Rattle.kube_honest.specs.States.{selection_by, IsOfMetadata, IsStateAt, StoresState}
use Rattle.kube_server.specs.Readers.{IsByKey, IsToldAll}
use Rattle.kube_honest.proofs.Endings.{alike-keys, stores-first, stores-newest, stores-state, EachIsOwed}

module _ {V B : Type 0} (w : World V B) where
  -- the exchanges of a trace fit, each after those before it
  pub trace-fits : (policies : ℕ → ℕ → V → Option ℕ) (h : List (Step V)) (ts : List Turn) (ms : List (Made V)) → EachFits w [] (exchanges h) → IsTrace w policies h ts ms
      → EachFits w [] (exchanges (h ++ steps ts ms))
  trace-fits policies h [] ms f k = subst (λ g. EachFits w [] (exchanges g)) (sym (append-nil h)) f
  trace-fits policies h (t ∷ ts) [] f k = subst (λ g. EachFits w [] (exchanges g)) (sym (append-nil h)) f
  trace-fits policies h (t ∷ ts) (m ∷ ms) f k =
      subst (λ g. EachFits w [] (exchanges g)) (append_assoc h (step t m ∷ []) (steps ts ms))
      (trace-fits (λ n. policies (n + 1)) (h ++ step t m ∷ []) ts ms
      (subst (EachFits w []) (sym (exchanges-push h t m))
      (turn-fits w h t [] m.0.exchanges (subst (EachFits w []) (sym (append-nil (exchanges h))) f) k.1.asked)) k.2)

module _ {V B : Type 0} (w : World V B) (settings : Settings) (watched : feed_of w 0 ≡ Watched settings) (kind : ObjectType) (meta : V → ObjectMeta) (of_meta : IsOfMetadata w kind meta)
    (selects : Selection → V → Bool) (history : List (Change V)) (by_key : IsByKey meta (selects (selection_by settings))) (is_history : IsHistory meta history) (small : length history < 2 ^ 64) where
  versions : (o : V) → w.version o ≡ (meta o).resource_version
  versions o = λ i. of_meta.version i o

  abbrev IsOwedEach : List (Exchange V) → List (Exchange V) → Type 0
  IsOwedEach = EachIsOwed meta selects history settings by_key is_history small w.key (alike-keys meta kind w.key of_meta.key) w.version versions

  -- those of the root make the calls that it owes
  owed-each : (before ds : List (Dated V)) → EachFits w before ds → IsOwedEach (exchanges_of 0 before) (exchanges_of 0 ds)
  owed-each before [] f = tt
  owed-each before (d ∷ ds) f = go (d.exchange.source == 0) refl (owed-each (before ++ d ∷ []) ds f.1)
    where
      go : (b : Bool) → (d.exchange.source == 0) ≡ b → IsOwedEach (exchanges_of 0 (before ++ d ∷ [])) (exchanges_of 0 ds)
          → IsOwedEach (exchanges_of 0 before) (map (λ e. e.exchange) (if b then d ∷ dated_of 0 ds else dated_of 0 ds))
      go true e r =
          let source : d.exchange.source ≡ 0 = eqb-true d.exchange.source 0 e in (
            subst (λ n. d.exchange.call ≡ owed (feed_of w n) (exchanges_of n before)) source f.0.owes ∙ ap (λ feed. owed feed (exchanges_of 0 before)) watched,
            f.0.answer.answered,
            subst (λ xs. IsOwedEach xs (exchanges_of 0 ds)) (exchanges_of-own 0 before d e) r,
          )
      go false e r = subst (λ xs. IsOwedEach xs (exchanges_of 0 ds)) (exchanges_of-other 0 before d e) r

  -- exchanges of all sources, each of which fits those before it
  pub exchanges-store : (ds : List (Dated V)) → EachFits w [] ds → (before talk : List (Raw V)) → AreRecorded w.version settings talk (exchanges_of 0 ds) → IsHonest meta selects history (before ++ talk)
      → StoresState w.key meta selects history (selection_by settings) (exchanges_of 0 ds)
  exchanges-store ds f before talk r honest =
      stores-state meta selects history settings by_key is_history small w.key (alike-keys meta kind w.key of_meta.key) w.version versions before talk (exchanges_of 0 ds) r (owed-each [] ds f) honest

  pub exchanges-newest : (ds : List (Dated V)) → EachFits w [] ds → (before talk : List (Raw V)) → AreRecorded w.version settings talk (exchanges_of 0 ds) → IsHonest meta selects history (before ++ talk)
      → owed (Watched settings) (exchanges_of 0 ds) ≡ Next → IsToldAll meta selects history (before ++ talk)
      → IsStateAt w.key meta selects history (selection_by settings) (length history) (store_of w.key (exchanges_of 0 ds))
  exchanges-newest ds f before talk r honest owes all =
      stores-newest meta selects history settings by_key is_history small w.key (alike-keys meta kind w.key of_meta.key) w.version versions before talk (exchanges_of 0 ds) r (owed-each [] ds f) honest owes all

  -- the root's exchanges of turns, cut at one
  cut : (n : ℕ) (h : List (Step V)) → exchanges_of 0 (exchanges h) ≡ exchanges_of 0 (exchanges (take n h)) ++ exchanges_of 0 (exchanges (drop n h))
  cut n h =
      ap (λ g. exchanges_of 0 (exchanges g)) (sym (take-append-drop n h))
      ∙ (ap (exchanges_of 0) (flat_map-append (λ s. dated s.turn.at s.made.exchanges) (take n h) (drop n h))
      ∙ (ap (map (λ d. d.exchange)) (filter-append (λ (d : Dated V). d.exchange.source == 0) (exchanges (take n h)) (exchanges (drop n h)))
      ∙ map-append (λ d. d.exchange) (dated_of 0 (exchanges (take n h))) (dated_of 0 (exchanges (drop n h)))))

  -- turns whose exchanges fit
  pub fitting-stores : (h : List (Step V)) → EachFits w [] (exchanges h) → (before talk : List (Raw V)) → AreRecorded w.version settings talk (exchanges_of 0 (exchanges h))
      → IsHonest meta selects history (before ++ talk) → (n : ℕ) → StoresState w.key meta selects history (selection_by settings) (exchanges_of 0 (exchanges (take n h)))
  fitting-stores h f before talk r honest n =
      stores-first meta selects history settings by_key is_history small w.key (alike-keys meta kind w.key of_meta.key) w.version versions before talk
      (exchanges_of 0 (exchanges (take n h))) (exchanges_of 0 (exchanges (drop n h)))
      (subst (AreRecorded w.version settings talk) (cut n h) r) (subst (IsOwedEach []) (cut n h) (owed-each [] (exchanges h) f)) honest

  pub trace-stores : (policies : ℕ → ℕ → V → Option ℕ) (ts : List Turn) (ms : List (Made V)) → IsTrace w policies [] ts ms
      → (before talk : List (Raw V)) → AreRecorded w.version settings talk (exchanges_of 0 (exchanges (steps ts ms))) → IsHonest meta selects history (before ++ talk)
      → (n : ℕ) → StoresState w.key meta selects history (selection_by settings) (exchanges_of 0 (exchanges (take n (steps ts ms))))
  trace-stores policies ts ms k before talk r honest n = fitting-stores (steps ts ms) (trace-fits w policies [] ts ms tt k) before talk r honest n
