-- One more exchange of a watcher: the state that it leaves is the one that the definitions give.
use Rattle.std.proofs.Common.{◌≡◌, ℕ, Bool, true, false, ◌==◌, List, [], ◌∷◌, ◌++◌, Option, Some, None, if◌then◌else◌, IsTrue, refl, sym, ap, ◌∙◌, subst}
use Rattle.std.proofs.lemmas.List.{map-append}
use Rattle.kube_model.specs.declared.call.Call.{Call}
use Rattle.kube_model.specs.declared.call.Call.TheVariants.{List as ListCall, Watch, Next}
use Rattle.kube_model.specs.declared.call.Answer.{Answer}
use Rattle.kube_model.specs.declared.call.Answer.TheVariants.{Page, Opened, Added, Modified, Deleted, Bookmark, ErrorItem, Fault, End, NotReady, Idle, Item, Spent}
use Rattle.kube_model.specs.World.{Settings, Watched, start_by, version_zero}
use Rattle.kube_model.specs.History.{Exchange, Dated}
use Rattle.kube_model.specs.Owed.{owed, is_initial, seen}
use Rattle.kube_model.specs.Fits.{answers}
use Rattle.kube_model.specs.SecondForms.{initial_after}
use Rattle.kube_model.proofs.Marks.{initial-push}
use Rattle.kube_watch.specs.declared.state.State.{State}
use Rattle.kube_watch.specs.declared.state.State.TheVariants.{Empty, InitPage, InitialWatch, InitListed, Watching}
use Rattle.kube_watch.specs.States.{call_in, state_after, after_fault, since_after}
use Rattle.kube_watch.specs.Stands.{IsIn, Stands, exchanges_in}
use Rattle.kube_watch.proofs.Pushes.{seen_after, owed_next, seen-push, owed-push, silent-push}

-- an error item of code 410 starts anew
error-call : (settings : Settings) (s : State) (b : Bool) → call_in settings s ≡ Next → call_in settings (if b then Empty else s) ≡ (if b then start_by settings else Next)
error-call settings s true same = refl
error-call settings s false same = same

error-within : (s : State) (b : Bool) (i : Bool) (k : List ℕ) → IsIn s i k → IsIn (if b then Empty else s) i k
error-within s true i k within = tt
error-within s false i k within = within

module _ {O : Type 0} (settings : Settings) where
  -- the state after an exchange owes what the definitions then owe, and fits
  abbrev pub Holds : State → Bool → List ℕ → Exchange O → Type 0
  Holds s i k x =
      (call_in settings (state_after s x.answer) ≡ owed_next settings i k (call_in settings s) x)
      × IsIn (state_after s x.answer) (initial_after i x) (seen_after i k x)

  abbrev with_call : Exchange O → Call → Answer → Exchange O
  with_call x c a = record x { call = c; answer = a }

  list-step : (s : State) (i : Bool) (k : List ℕ) (x : Exchange O) (token : Option (List ℕ)) (a : Answer)
      → after_fault s ≡ Empty → IsIn s i k → IsTrue (answers (ListCall token) a) → Holds s i k (with_call x (ListCall token) a)
  list-step s i k x token (Page (Some next) version) fault within ok = (refl, tt)
  list-step s i k x token (Page None (Some version)) fault within ok = (refl, refl)
  list-step s i k x token (Page None None) fault within ok = (refl, tt)
  list-step s i k x token (Fault error) fault within ok = (ap (call_in settings) fault, subst (λ t. IsIn t i k) (sym fault) tt)
  list-step s i k x token NotReady fault within ok = (refl, within)
  list-step s i k x token Opened fault within ok = cc
  list-step s i k x token (Added version) fault within ok = cc
  list-step s i k x token (Modified version) fault within ok = cc
  list-step s i k x token (Deleted version) fault within ok = cc
  list-step s i k x token (Bookmark version ending) fault within ok = cc
  list-step s i k x token (ErrorItem status) fault within ok = cc
  list-step s i k x token End fault within ok = cc
  list-step s i k x token Idle fault within ok = cc
  list-step s i k x token Item fault within ok = cc
  list-step s i k x token Spent fault within ok = cc

  start-step : (i : Bool) (k : List ℕ) (x : Exchange O) (version : List ℕ) (a : Answer)
      → IsTrue (answers (Watch version true) a) → Holds Empty i k (with_call x (Watch version true) a)
  start-step i k x version Opened ok = (refl, refl)
  start-step i k x version (Fault error) ok = (refl, tt)
  start-step i k x version NotReady ok = (refl, tt)
  start-step i k x version (Page token reached) ok = cc
  start-step i k x version (Added reached) ok = cc
  start-step i k x version (Modified reached) ok = cc
  start-step i k x version (Deleted reached) ok = cc
  start-step i k x version (Bookmark reached ending) ok = cc
  start-step i k x version (ErrorItem status) ok = cc
  start-step i k x version End ok = cc
  start-step i k x version Idle ok = cc
  start-step i k x version Item ok = cc
  start-step i k x version Spent ok = cc

  watch-step : (i : Bool) (k : List ℕ) (x : Exchange O) (version : List ℕ) (a : Answer) → version ≡ k
      → IsTrue (answers (Watch version false) a) → Holds (InitListed version) i k (with_call x (Watch version false) a)
  watch-step i k x version Opened w ok = (refl, (refl, w))
  watch-step i k x version (Fault error) w ok = (ap (λ v. Watch v false) w, w)
  watch-step i k x version NotReady w ok = (refl, w)
  watch-step i k x version (Page token reached) w ok = cc
  watch-step i k x version (Added reached) w ok = cc
  watch-step i k x version (Modified reached) w ok = cc
  watch-step i k x version (Deleted reached) w ok = cc
  watch-step i k x version (Bookmark reached ending) w ok = cc
  watch-step i k x version (ErrorItem status) w ok = cc
  watch-step i k x version End w ok = cc
  watch-step i k x version Idle w ok = cc
  watch-step i k x version Item w ok = cc
  watch-step i k x version Spent w ok = cc

  initial-step : (k : List ℕ) (x : Exchange O) (a : Answer) → IsTrue (answers Next a) → Holds InitialWatch true k (with_call x Next a)
  initial-step k x (Added version) ok = (refl, refl)
  initial-step k x (Modified version) ok = (refl, refl)
  initial-step k x (Deleted version) ok = (refl, refl)
  initial-step k x (Bookmark version true) ok = (refl, (refl, refl))
  initial-step k x (Bookmark version false) ok = (refl, refl)
  initial-step k x (ErrorItem status) ok =
      (error-call settings InitialWatch (status.code == 410) refl, error-within InitialWatch (status.code == 410) true k refl)
  initial-step k x (Fault error) ok = (refl, refl)
  initial-step k x End ok = (refl, tt)
  initial-step k x Idle ok = (refl, tt)
  initial-step k x NotReady ok = (refl, refl)
  initial-step k x (Page token version) ok = cc
  initial-step k x Opened ok = cc
  initial-step k x Item ok = cc
  initial-step k x Spent ok = cc

  later-step : (k : List ℕ) (x : Exchange O) (version : List ℕ) (a : Answer) → version ≡ k → IsTrue (answers Next a) → Holds (Watching version) false k (with_call x Next a)
  later-step k x version (Added (Some reached)) w ok = (refl, (refl, refl))
  later-step k x version (Modified (Some reached)) w ok = (refl, (refl, refl))
  later-step k x version (Deleted (Some reached)) w ok = (refl, (refl, refl))
  later-step k x version (Added None) w ok = (refl, tt)
  later-step k x version (Modified None) w ok = (refl, tt)
  later-step k x version (Deleted None) w ok = (refl, tt)
  later-step k x version (Bookmark reached ending) w ok = (refl, (refl, refl))
  later-step k x version (ErrorItem status) w ok =
      (error-call settings (Watching version) (status.code == 410) refl, error-within (Watching version) (status.code == 410) false k (refl, w))
  later-step k x version (Fault error) w ok = (refl, (refl, w))
  later-step k x version End w ok = (ap (λ v. Watch v false) w, w)
  later-step k x version Idle w ok = (ap (λ v. Watch v false) w, w)
  later-step k x version NotReady w ok = (refl, (refl, w))
  later-step k x version (Page token reached) w ok = cc
  later-step k x version Opened w ok = cc
  later-step k x version Item w ok = cc
  later-step k x version Spent w ok = cc

  -- by the call
  by-call : (s : State) (i : Bool) (k : List ℕ) (x : Exchange O) (c : Call) → x.call ≡ c → IsTrue (answers x.call x.answer)
      → (IsTrue (answers c x.answer) → Holds s i k (with_call x c x.answer)) → Holds s i k x
  by-call s i k x c e ok step =
      subst (λ d. Holds s i k (record x { call = d })) (sym e) (step (subst (λ d. IsTrue (answers d x.answer)) e ok))

  empty-step : (i : Bool) (k : List ℕ) (x : Exchange O) (b : Bool) → settings.streaming ≡ b
      → x.call ≡ call_in settings Empty → IsTrue (answers x.call x.answer) → Holds Empty i k x
  empty-step i k x true e same ok =
      by-call Empty i k x (Watch version_zero true) (same ∙ ap (λ c. if c then Watch version_zero true else ListCall None) e) ok (start-step i k x version_zero x.answer)
  empty-step i k x false e same ok =
      by-call Empty i k x (ListCall None) (same ∙ ap (λ c. if c then Watch version_zero true else ListCall None) e) ok (list-step Empty i k x None x.answer refl tt)

  pub step : (s : State) (i : Bool) (k : List ℕ) (x : Exchange O) → IsIn s i k → x.call ≡ call_in settings s → IsTrue (answers x.call x.answer) → Holds s i k x
  step Empty i k x within same ok = empty-step i k x settings.streaming refl same ok
  step (InitPage token) i k x within same ok = by-call (InitPage token) i k x (ListCall (Some token)) same ok (list-step (InitPage token) i k x (Some token) x.answer refl within)
  step InitialWatch i k x within same ok =
      subst (λ j. Holds InitialWatch j k x) (sym within) (by-call InitialWatch true k x Next same ok (initial-step k x x.answer))
  step (InitListed version) i k x within same ok = by-call (InitListed version) i k x (Watch version false) same ok (watch-step i k x version x.answer within)
  step (Watching version) i k x within same ok =
      subst (λ j. Holds (Watching version) j k x) (sym within.0) (by-call (Watching version) false k x Next same ok (later-step k x version x.answer within.1))

  -- these exchanges leave this state
  pub record Fits (s : State) (xs : List (Exchange O)) : Type 0 where
    pub owes : call_in settings s ≡ owed (Watched settings) xs
    pub within : IsIn s (is_initial xs) (seen xs)

  pub fits-push : (s : State) (xs : List (Exchange O)) (x : Exchange O) → Fits s xs → x.call ≡ call_in settings s → IsTrue (answers x.call x.answer)
      → Fits (state_after s x.answer) (xs ++ x ∷ [])
  fits-push s xs x h same ok =
      let made = step s (is_initial xs) (seen xs) x h.within same ok in
      record {
        owes = made.0 ∙ (ap (λ c. owed_next settings (is_initial xs) (seen xs) c x) h.owes ∙ sym (owed-push settings xs x));
        within =
            subst (λ i. IsIn (state_after s x.answer) i (seen (xs ++ x ∷ []))) (sym (initial-push xs x))
            (subst (λ k. IsIn (state_after s x.answer) (initial_after (is_initial xs) x) k) (sym (seen-push xs x)) made.1);
      }

  exchanges-push : (ds : List (Dated O)) (d : Dated O) → exchanges_in (ds ++ d ∷ []) ≡ exchanges_in ds ++ d.exchange ∷ []
  exchanges-push ds d = map-append (λ (e : Dated O). e.exchange) ds (d ∷ [])

  -- a watcher in this state stands for one more exchange
  pub stands-push : (s : State) (since : Option ℕ) (ds : List (Dated O)) (d : Dated O) → Stands settings s since ds
      → d.exchange.call ≡ call_in settings s → IsTrue (answers d.exchange.call d.exchange.answer)
      → Stands settings (state_after s d.exchange.answer) (since_after since d.at d.exchange.call d.exchange.answer) (ds ++ d ∷ [])
  stands-push s since ds d h same ok =
      let xs = exchanges_in ds in
      let x = d.exchange in
      let made = fits-push s xs x (record { owes = h.owes; within = h.within }) same ok in
      record {
        owes = made.owes ∙ ap (owed (Watched settings)) (sym (exchanges-push ds d));
        within = subst (λ ys. IsIn (state_after s x.answer) (is_initial ys) (seen ys)) (sym (exchanges-push ds d)) made.within;
        silent = ap (λ o. since_after o d.at x.call x.answer) h.silent ∙ sym (silent-push ds d);
      }
