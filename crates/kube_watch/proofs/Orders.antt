-- The events of a watcher come in order.
use Rattle.std.proofs.Common.{◌≡◌, ℕ, Bool, true, false, ◌==◌, List, [], ◌∷◌, ◌++◌, map, Option, Some, None, if◌then◌else◌, IsTrue, refl, sym, ap, ◌∙◌, subst}
use Rattle.std.specs.List.{list_any}
use Rattle.kube_model.specs.declared.call.Call.{Call}
use Rattle.kube_model.specs.declared.call.Call.TheVariants.{List as ListCall, Watch, Next}
use Rattle.kube_model.specs.declared.call.Answer.{Answer}
use Rattle.kube_model.specs.declared.call.Answer.TheVariants.{Page, Opened, Added, Modified, Deleted, Bookmark, ErrorItem, Fault, End, NotReady, Idle, Item, Spent}
use Rattle.kube_model.specs.World.{Settings, version_zero}
use Rattle.kube_model.specs.History.{Exchange}
use Rattle.kube_model.specs.Owed.{is_initial, seen}
use Rattle.kube_model.specs.Fits.{answers}
use Rattle.kube_watch.specs.declared.event.Event.{Event}
use Rattle.kube_watch.specs.declared.event.Event.TheVariants.{Apply, Delete, Init, InitApply, InitDone}
use Rattle.kube_watch.specs.declared.state.State.{State}
use Rattle.kube_watch.specs.declared.state.State.TheVariants.{Empty, InitPage, InitialWatch, InitListed, Watching}
use Rattle.kube_watch.specs.Agrees.{is_done}
use Rattle.kube_watch.specs.Order.{Phase, Unbegun, Listing, Listed, phase_after, IsOrdered, AreMade, events_after, is_change}
use Rattle.kube_watch.specs.States.{call_in, is_initial_in, state_after, after_fault}
use Rattle.kube_watch.specs.Stands.{row_of}
use Rattle.kube_watch.specs.Table.{Row, table, begun, all_init}
use Rattle.kube_watch.proofs.Made.{table-in}
use Rattle.kube_watch.proofs.Steps.{Fits, fits-push}

-- the phase that a state is in
abbrev pub InPhase : State → Phase → Type 0
InPhase Empty phase = Unit {0}
InPhase (InitPage token) phase = phase ≡ Listing
InPhase InitialWatch phase = phase ≡ Listing
InPhase (InitListed version) phase = phase ≡ Listed
InPhase (Watching version) phase = phase ≡ Listed

-- the phase of a list that is asked for with or without a token
abbrev pub Begins : Option (List ℕ) → Phase → Type 0
Begins None p = Unit {0}
Begins (Some token) p = p ≡ Listing

error-phase : (s : State) (b : Bool) (p : Phase) → InPhase s p → InPhase (if b then Empty else s) p
error-phase s true p h = tt
error-phase s false p h = h

module _ {O : Type 0} where
  abbrev pub phase_of : Phase → List (Event O) → Phase
  phase_of p [] = p
  phase_of p (e ∷ es) = phase_of (phase_after p e) es

  ordered-append : (p : Phase) (es fs : List (Event O)) → IsOrdered p es → IsOrdered (phase_of p es) fs → IsOrdered p (es ++ fs)
  ordered-append p [] fs h k = k
  ordered-append p (e ∷ es) fs h k = (h.0, ordered-append (phase_after p e) es fs h.1 k)

  ordered-rest : (p : Phase) (es fs : List (Event O)) → IsOrdered p (es ++ fs) → IsOrdered (phase_of p es) fs
  ordered-rest p [] fs h = h
  ordered-rest p (e ∷ es) fs h = ordered-rest (phase_after p e) es fs h.1

  -- these events come in order from this phase, and lead to the phase of that state
  pub record Leads (p : Phase) (es : List (Event O)) (s : State) : Type 0 where
    pub ordered : IsOrdered p es
    pub reached : InPhase s (phase_of p es)

  leads-init : (items : List O) (rest : List (Event O)) (s : State) → Leads Listing rest s → Leads Listing (all_init items ++ rest) s
  leads-init [] rest s h = h
  leads-init (o ∷ items) rest s h =
      let k = leads-init items rest s h in
      record { ordered = (refl, k.ordered); reached = k.reached }

  leads-all : (items : List O) (s : State) → InPhase s Listing → Leads Listing (all_init items) s
  leads-all [] s h = record { ordered = tt; reached = h }
  leads-all (o ∷ items) s h =
      let k = leads-all items s h in
      record { ordered = (refl, k.ordered); reached = k.reached }

  leads-apply : (items : List O) (s : State) → InPhase s Listed → Leads Listed (map Apply items) s
  leads-apply [] s h = record { ordered = tt; reached = h }
  leads-apply (o ∷ items) s h =
      let k = leads-apply items s h in
      record { ordered = (refl, k.ordered); reached = k.reached }

  leads-delete : (items : List O) (s : State) → InPhase s Listed → Leads Listed (map Delete items) s
  leads-delete [] s h = record { ordered = tt; reached = h }
  leads-delete (o ∷ items) s h =
      let k = leads-delete items s h in
      record { ordered = (refl, k.ordered); reached = k.reached }

  leads-begun : (token : Option (List ℕ)) (p : Phase) (rest : List (Event O)) (s : State) → Begins token p → Leads Listing rest s → Leads p (begun token ++ rest) s
  leads-begun None p rest s b h = record { ordered = (refl, h.ordered); reached = h.reached }
  leads-begun (Some token) p rest s b h = subst (λ q. Leads q rest s) (sym b) h

  leads-begin : (token : Option (List ℕ)) (p : Phase) → Leads p (begun token) Empty
  leads-begin None p = record { ordered = (refl, tt); reached = tt }
  leads-begin (Some token) p = record { ordered = tt; reached = tt }

  still : (p : Phase) (s : State) → InPhase s p → Leads p [] s
  still p s h = record { ordered = tt; reached = h }

module _ {O : Type 0} (settings : Settings) (k : List ℕ) (items : List O) where
  abbrev pub told : Bool → Call → Answer → List (Event O)
  told i c a = (table settings k i c a items).events

  list-leads : (s : State) (i : Bool) (token : Option (List ℕ)) (p : Phase) (a : Answer) → Begins token p → InPhase s p → after_fault s ≡ Empty
      → IsTrue (answers (ListCall token) a) → Leads p (told i (ListCall token) a) (state_after s a)
  list-leads s i token p (Page (Some next) version) b h f ok = leads-begun token p (all_init items) (InitPage next) b (leads-all items (InitPage next) refl)
  list-leads s i token p (Page None (Some version)) b h f ok =
      leads-begun token p (all_init items ++ InitDone ∷ []) (InitListed version) b
      (leads-init items (InitDone ∷ []) (InitListed version) (record { ordered = (refl, tt); reached = refl }))
  list-leads s i token p (Page None None) b h f ok = leads-begin token p
  list-leads s i token p (Fault error) b h f ok = subst (Leads p (begun token)) (sym f) (leads-begin token p)
  list-leads s i token p NotReady b h f ok = still p s h
  list-leads s i token p Opened b h f ok = cc
  list-leads s i token p (Added version) b h f ok = cc
  list-leads s i token p (Modified version) b h f ok = cc
  list-leads s i token p (Deleted version) b h f ok = cc
  list-leads s i token p (Bookmark version ending) b h f ok = cc
  list-leads s i token p (ErrorItem status) b h f ok = cc
  list-leads s i token p End b h f ok = cc
  list-leads s i token p Idle b h f ok = cc
  list-leads s i token p Item b h f ok = cc
  list-leads s i token p Spent b h f ok = cc

  start-leads : (i : Bool) (version : List ℕ) (p : Phase) (a : Answer) → IsTrue (answers (Watch version true) a)
      → Leads p (told i (Watch version true) a) (state_after Empty a)
  start-leads i version p Opened ok = record { ordered = (refl, tt); reached = refl }
  start-leads i version p (Fault error) ok = still p Empty tt
  start-leads i version p NotReady ok = still p Empty tt
  start-leads i version p (Page token reached) ok = cc
  start-leads i version p (Added reached) ok = cc
  start-leads i version p (Modified reached) ok = cc
  start-leads i version p (Deleted reached) ok = cc
  start-leads i version p (Bookmark reached ending) ok = cc
  start-leads i version p (ErrorItem status) ok = cc
  start-leads i version p End ok = cc
  start-leads i version p Idle ok = cc
  start-leads i version p Item ok = cc
  start-leads i version p Spent ok = cc

  watch-leads : (i : Bool) (version : List ℕ) (p : Phase) (a : Answer) → p ≡ Listed → IsTrue (answers (Watch version false) a)
      → Leads p (told i (Watch version false) a) (state_after (InitListed version) a)
  watch-leads i version p Opened h ok = still p (Watching version) h
  watch-leads i version p (Fault error) h ok = still p (InitListed version) h
  watch-leads i version p NotReady h ok = still p (InitListed version) h
  watch-leads i version p (Page token reached) h ok = cc
  watch-leads i version p (Added reached) h ok = cc
  watch-leads i version p (Modified reached) h ok = cc
  watch-leads i version p (Deleted reached) h ok = cc
  watch-leads i version p (Bookmark reached ending) h ok = cc
  watch-leads i version p (ErrorItem status) h ok = cc
  watch-leads i version p End h ok = cc
  watch-leads i version p Idle h ok = cc
  watch-leads i version p Item h ok = cc
  watch-leads i version p Spent h ok = cc

  initial-leads : (a : Answer) → IsTrue (answers Next a) → Leads Listing (told true Next a) (state_after InitialWatch a)
  initial-leads (Added version) ok = leads-all items InitialWatch refl
  initial-leads (Modified version) ok = leads-all items InitialWatch refl
  initial-leads (Deleted version) ok = still Listing InitialWatch refl
  initial-leads (Bookmark version true) ok = record { ordered = (refl, tt); reached = refl }
  initial-leads (Bookmark version false) ok = still Listing InitialWatch refl
  initial-leads (ErrorItem status) ok =
      still Listing (if status.code == 410 then Empty else InitialWatch) (error-phase InitialWatch (status.code == 410) Listing refl)
  initial-leads (Fault error) ok = still Listing InitialWatch refl
  initial-leads End ok = still Listing Empty tt
  initial-leads Idle ok = still Listing Empty tt
  initial-leads NotReady ok = still Listing InitialWatch refl
  initial-leads (Page token reached) ok = cc
  initial-leads Opened ok = cc
  initial-leads Item ok = cc
  initial-leads Spent ok = cc

  later-leads : (version : List ℕ) (a : Answer) → IsTrue (answers Next a) → Leads Listed (told false Next a) (state_after (Watching version) a)
  later-leads version (Added (Some reached)) ok = leads-apply items (Watching reached) refl
  later-leads version (Modified (Some reached)) ok = leads-apply items (Watching reached) refl
  later-leads version (Deleted (Some reached)) ok = leads-delete items (Watching reached) refl
  later-leads version (Added None) ok = still Listed Empty tt
  later-leads version (Modified None) ok = still Listed Empty tt
  later-leads version (Deleted None) ok = still Listed Empty tt
  later-leads version (Bookmark reached ending) ok = still Listed (Watching reached) refl
  later-leads version (ErrorItem status) ok =
      still Listed (if status.code == 410 then Empty else Watching version) (error-phase (Watching version) (status.code == 410) Listed refl)
  later-leads version (Fault error) ok = still Listed (Watching version) refl
  later-leads version End ok = still Listed (InitListed version) refl
  later-leads version Idle ok = still Listed (InitListed version) refl
  later-leads version NotReady ok = still Listed (Watching version) refl
  later-leads version (Page token reached) ok = cc
  later-leads version Opened ok = cc
  later-leads version Item ok = cc
  later-leads version Spent ok = cc

  empty-leads : (i : Bool) (p : Phase) (a : Answer) (b : Bool)
      → IsTrue (answers (if b then Watch version_zero true else ListCall None) a)
      → Leads p (told i (if b then Watch version_zero true else ListCall None) a) (state_after Empty a)
  empty-leads i p a true ok = start-leads i version_zero p a ok
  empty-leads i p a false ok = list-leads Empty i None p a tt tt refl ok

  -- what the owed call tells leads to the phase of the state after it
  state-leads : (s : State) (p : Phase) (a : Answer) → InPhase s p → IsTrue (answers (call_in settings s) a)
      → Leads p (told (is_initial_in s) (call_in settings s) a) (state_after s a)
  state-leads Empty p a h ok = empty-leads false p a settings.streaming ok
  state-leads (InitPage token) p a h ok = list-leads (InitPage token) false (Some token) p a h h refl ok
  state-leads InitialWatch p a h ok = subst (λ q. Leads q (told true Next a) (state_after InitialWatch a)) (sym h) (initial-leads a ok)
  state-leads (InitListed version) p a h ok = watch-leads false version p a h ok
  state-leads (Watching version) p a h ok = subst (λ q. Leads q (told false Next a) (state_after (Watching version) a)) (sym h) (later-leads version a ok)

module _ {O : Type 0} (settings : Settings) where
  row-leads : (s : State) (p : Phase) (before : List (Exchange O)) (x : Exchange O) → InPhase s p → Fits settings s before
      → x.call ≡ call_in settings s → IsTrue (answers x.call x.answer) → Leads p (row_of settings before x).events (state_after s x.answer)
  row-leads s p before x h f same ok =
      subst (λ (r : Row O). Leads p r.events (state_after s x.answer))
      (ap (λ c. table settings (seen before) (is_initial_in s) c x.answer x.items) (sym same)
      ∙ table-in settings (seen before) s (is_initial before) x.call x.answer x.items same f.within)
      (state-leads settings (seen before) x.items s p x.answer h (subst (λ c. IsTrue (answers c x.answer)) same ok))

  ordered-after : (s : State) (p : Phase) (before xs : List (Exchange O)) → InPhase s p → Fits settings s before → AreMade settings before xs
      → IsOrdered p (events_after settings before xs)
  ordered-after s p before [] h f made = tt
  ordered-after s p before (x ∷ xs) h f made =
      let same = made.0 ∙ sym f.owes in
      let l = row-leads s p before x h f same made.1.0 in
      ordered-append p (row_of settings before x).events (events_after settings (before ++ x ∷ []) xs) l.ordered
      (ordered-after (state_after s x.answer) (phase_of p (row_of settings before x).events) (before ++ x ∷ []) xs l.reached (fits-push settings s before x f same made.1.0) made.1.1)

  pub ordered : (xs : List (Exchange O)) → AreMade settings [] xs → IsOrdered Unbegun (events_after settings [] xs)
  ordered xs made = ordered-after Empty Unbegun [] xs tt (record { owes = refl; within = tt }) made

module _ {O : Type 0} where
  unchanged : (middle back : List (Event O)) → IsOrdered Listing (middle ++ back) → list_any is_done middle ≡ false → list_any is_change middle ≡ false
  unchanged [] back h d = refl
  unchanged (Apply o ∷ middle) back h d = let k = h.0 in cc
  unchanged (Delete o ∷ middle) back h d = let k = h.0 in cc
  unchanged (Init ∷ middle) back h d = unchanged middle back h.1 d
  unchanged (InitApply o ∷ middle) back h d = unchanged middle back h.1 d
  unchanged (InitDone ∷ middle) back h d = cc

  pub between : (es front middle back : List (Event O)) → IsOrdered Unbegun es → es ≡ front ++ Init ∷ (middle ++ back)
      → list_any is_done middle ≡ false → list_any is_change middle ≡ false
  between es front middle back h e d = unchanged middle back (ordered-rest Unbegun front (Init ∷ (middle ++ back)) (subst (IsOrdered Unbegun) e h)).1 d
