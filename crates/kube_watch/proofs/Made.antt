-- What a unit tells and leaves, by the definitions.
use Rattle.std.proofs.Common.{◌≡◌, ℕ, Bool, true, false, List, [], ◌∷◌, ◌++◌, map, Option, None, if◌then◌else◌, IsTrue, refl, sym, ap, ◌∙◌, subst}
use Rattle.std.specs.Arc.{arc_value}
use Rattle.kube_model.specs.declared.call.Call.{Call}
use Rattle.kube_model.specs.declared.call.Call.TheVariants.{List as ListCall, Watch, Next, Stream}
use Rattle.kube_model.specs.declared.call.Answer.{Answer}
use Rattle.kube_model.specs.World.{Settings, version_zero}
use Rattle.kube_model.specs.History.{Exchange, Dated}
use Rattle.kube_model.specs.Owed.{is_initial, is_next, mark, seen}
use Rattle.kube_model.specs.Fits.{answers, error_of, has_references}
use Rattle.kube_watch.specs.declared.state.State.{State}
use Rattle.kube_watch.specs.declared.state.State.TheVariants.{Empty, InitPage, InitialWatch, InitListed, Watching}
use Rattle.kube_watch.specs.declared.unit.Exchange.{Exchange as Asked}
use Rattle.std.specs.List.{flat_map}
use Rattle.kube_watch.specs.declared.event.Event.{Event}
use Rattle.kube_watch.specs.Agrees.{asks_api, objects_of}
use Rattle.kube_watch.specs.States.{call_in, is_initial_in, state_after, since_after}
use Rattle.kube_watch.specs.Stands.{IsIn, Stands, exchanges_in, row_of}
use Rattle.kube_watch.specs.Table.{Row, table}
use Rattle.kube_watch.specs.Units.{IsMade, as_exchange}
use Rattle.kube_watch.proofs.Rows.{agrees-at}
use Rattle.kube_watch.proofs.Steps.{stands-push}

start-look : (b : Bool) → is_next (if b then Watch version_zero true else ListCall None) ≡ false
start-look true = refl
start-look false = refl

pub start-asks : (b : Bool) → asks_api (if b then Watch version_zero true else ListCall None) ≡ true
start-asks true = refl
start-asks false = refl

pub asks-in : (settings : Settings) (s : State) → asks_api (call_in settings s) ≡ true
asks-in settings Empty = start-asks settings.streaming
asks-in settings (InitPage token) = refl
asks-in settings InitialWatch = refl
asks-in settings (InitListed version) = refl
asks-in settings (Watching version) = refl

module _ {O : Type 0} (settings : Settings) (k : List ℕ) where
  -- a row of another call than a look doesn't depend on the watch
  no-look : (i j : Bool) (c : Call) (a : Answer) (items : List O) → is_next c ≡ false → table settings k i c a items ≡ table settings k j c a items
  no-look i j (ListCall token) a items h = refl
  no-look i j (Watch version true) a items h = refl
  no-look i j (Watch version false) a items h = refl
  no-look i j Next a items h = cc
  no-look i j Stream a items h = refl

  pub table-in : (s : State) (i : Bool) (c : Call) (a : Answer) (items : List O) → c ≡ call_in settings s → IsIn s i k
      → table settings k (is_initial_in s) c a items ≡ table settings k i c a items
  table-in Empty i c a items same within = no-look false i c a items (ap is_next same ∙ start-look settings.streaming)
  table-in (InitPage token) i c a items same within = no-look false i c a items (ap is_next same)
  table-in InitialWatch i c a items same within = ap (λ j. table settings k j c a items) (sym within)
  table-in (InitListed version) i c a items same within = no-look false i c a items (ap is_next same)
  table-in (Watching version) i c a items same within = ap (λ j. table settings k j c a items) (sym within.0)

-- a state whose call is a look says to which watch it belongs
next-start : (P : Type 0) (b : Bool) → IsTrue (is_next (if b then Watch version_zero true else ListCall None)) → P
next-start P true next = absurd (cc)
next-start P false next = absurd (cc)

pub initial-in : (settings : Settings) (s : State) (i : Bool) (k : List ℕ) → IsIn s i k → IsTrue (is_next (call_in settings s)) → is_initial_in s ≡ i
initial-in settings Empty i k within next = next-start (false ≡ i) settings.streaming next
initial-in settings (InitPage token) i k within next = absurd (cc)
initial-in settings InitialWatch i k within next = sym within
initial-in settings (InitListed version) i k within next = absurd (cc)
initial-in settings (Watching version) i k within next = sym within.0

module _ {V : Type 0} (settings : Settings) (s : State) (since : Option ℕ) (now : ℕ) (u : Asked V) (to : State) (left : Option ℕ) (made : IsMade settings s since now u to left) (ds : List (Dated V)) (h : Stands settings s since ds) where
  same-row : table settings (seen (exchanges_in ds)) (is_initial_in s) u.call u.answer (map arc_value u.items) ≡ row_of settings (exchanges_in ds) (as_exchange u)
  same-row = table-in settings (seen (exchanges_in ds)) s (is_initial (exchanges_in ds)) u.call u.answer (map arc_value u.items) made.owes h.within

  asks : asks_api u.call ≡ true
  asks = ap asks_api made.owes ∙ asks-in settings s

  pub made-row : table settings (seen (exchanges_in ds)) u.initial u.call u.answer (map arc_value u.items) ≡ row_of settings (exchanges_in ds) (as_exchange u)
  made-row = ap (λ i. table settings (seen (exchanges_in ds)) i u.call u.answer (map arc_value u.items)) made.initial ∙ same-row

  pub made-initial : IsTrue (is_next u.call) → u.initial ≡ is_initial (exchanges_in ds)
  made-initial next = made.initial ∙ initial-in settings s (is_initial (exchanges_in ds)) (seen (exchanges_in ds)) h.within (subst (λ c. IsTrue (is_next c)) made.owes next)

  pub made-error : u.error ≡ (row_of settings (exchanges_in ds) (as_exchange u)).error
  made-error =
      made.error
      ∙ (sym (agrees-at settings (is_initial_in s) (seen (exchanges_in ds)) (as_exchange u) asks made.answered).error
      ∙ ap (λ (r : Row V). r.error) same-row)

  pub made-fails : u.error ≡ error_of (mark (exchanges_in ds) (as_exchange u))
  made-fails = made-error ∙ (agrees-at settings (is_initial (exchanges_in ds)) (seen (exchanges_in ds)) (as_exchange u) asks made.answered).error

  pub made-stands : (x : Exchange V) → x.call ≡ u.call → x.answer ≡ u.answer → Stands settings to left (ds ++ record { at = now; exchange = x } ∷ [])
  made-stands x same-call same-answer =
      let d : Dated V = record { at = now; exchange = x } in
      let ok : IsTrue (answers x.call x.answer) =
      subst (λ c. IsTrue (answers c x.answer)) (sym same-call) (subst (λ a. IsTrue (answers u.call a)) (sym same-answer) made.answered) in
      subst (λ t. Stands settings t left (ds ++ d ∷ [])) (ap (state_after s) same-answer ∙ sym made.reached)
      (subst (λ l. Stands settings (state_after s x.answer) l (ds ++ d ∷ []))
      (ap (λ c. since_after since now c x.answer) same-call ∙ (ap (since_after since now u.call) same-answer ∙ sym made.silent))
      (stands-push settings s since ds d h (same-call ∙ made.owes) ok))

-- of what objects the events of an exchange tell
pub told-objects : {V : Type 0} (settings : Settings) (before : List (Exchange V)) (x : Exchange V) (events : List (Event V)) → asks_api x.call ≡ true → IsTrue (answers x.call x.answer)
    → events ≡ (row_of settings before x).events → flat_map objects_of events ≡ (if has_references (mark before x) then x.items else [])
told-objects settings before x events asks ok same =
    ap (flat_map objects_of) same ∙ (agrees-at settings (is_initial before) (seen before) x asks ok).objects
