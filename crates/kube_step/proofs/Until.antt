-- What decides after a fault, by the calls that a turn had made by then.
use Rattle.std.proofs.Common.{◌≡◌, ℕ, Bool, true, false, not, ◌||◌, List, [], ◌∷◌, ◌++◌, map, length, if◌then◌else◌, inl, refl, sym, ap, subst, ◌∙◌, append-nil}
use Rattle.kube_meta.specs.declared.action.Action.{Action}
use Rattle.kube_meta.specs.declared.resource.Resource as resource
use Rattle.kube_model.specs.World.{World}
use Rattle.kube_model.specs.History.{Exchange, Turn, Finished, Taken, Step, exchanges_with}
use Rattle.kube_model.specs.Pause.{gave_up}
use Rattle.kube_model.specs.Shutdowns.{asks_shutdown}
use Rattle.kube_model.specs.Takes.{running}
use Rattle.kube_history.specs.CoreWorld.{core_world}
use Rattle.kube_history.specs.CoreEvents.{CoreEvent, Answered, Requested, Settled, was_shut}
use Rattle.kube_history.specs.TurnEvents.{closing, finish_event, reload_events, shut_if}
use Rattle.kube_backoff.specs.declared.backoff.Backoff as backoff
use Rattle.kube_core.specs.Cores.{Parts, StandsFor as CoreStands}
use Rattle.kube_turn.specs.declared.turn.Finish.{Finish}
use Rattle.kube_asks.specs.Asking.{Asking, AskStands, asking_begun}
use Rattle.kube_asks.specs.declared.asks.AskFault.{AskFault}
use Rattle.kube_asks.specs.declared.asks.AskFault.TheVariants as faults
use Rattle.kube_asks.specs.declared.root.RootSource as root_source
use Rattle.kube_asks.specs.declared.set.RelatedSet as related_set
use Rattle.kube_step.specs.Asked.{MayAsk}
use Rattle.kube_step.specs.Finishes.{AreFinishedFirst, AreFinishedSo}
use Rattle.kube_step.specs.Takes.{AreHandedOrLost, taken_so_far}
use Rattle.kube_step.specs.Turns.{HasAsked, HasAskedUntil, InAsks, InFinishes, InTakes, IsDoneUntil, MayGoOn, finishing, requests_first}
use Rattle.kube_step.proofs.Finishing.{finished-whole}
use Rattle.kube_step.proofs.OneTurn.{events-are}
use Rattle.kube_step.proofs.Turned.{begun-so, closed-events, closed-now, events-first, may-first, open-events}

module _ {R S B O D E : Type 0} (root : root_source.Ghosts R O D) (related : related_set.Ghosts S O D) (delays : backoff.Ghosts B) (object : resource.Ghosts O D) (policy : O → E → Action → Type 0) (w : World O B) (h : List (Step O)) (t : Turn) (held : List (Finish O E D))
    (a : Asking R S B) (core : Parts O D) (may : MayGoOn root related delays object w h a core) (a1 : Asking R S B) (budget : List ℕ) (same : budget ≡ t.budget) (begun : a1 ≡ asking_begun a budget)
    (stands : AskStands w (root.stands a1.root) (related.stands a1.related) (length (related.feeds a.related)) budget (may.parts.before ++ may.parts.mine) [] a1.kept)
    (closed : Bool) (k : closed ≡ (was_shut may.parts.events || asks_shutdown t.shutdown)) where
  abbrev es : List (CoreEvent O)
  es = may.parts.events

  abbrev first : List (CoreEvent O)
  first = events-first w h t es may.parts.agrees closed k

  abbrev Stand : List (CoreEvent O) → Parts O D → Type 0
  Stand us c = CoreStands object.type_of object.meta_of (core_world w) us c

  abbrev Until : AskFault → List (Taken O) → R → S → R → S → Parts O D → Type 0
  Until f ts r s r' s' c = IsDoneUntil root related object w h t policy held f es ts r s r' s' c

  same-root : a1.root ≡ a.root
  same-root = ap (λ (z : Asking R S B). z.root) begun

  same-related : a1.related ≡ a.related
  same-related = ap (λ (z : Asking R S B). z.related) begun

  from-begun : (f : AskFault) (ts : List (Taken O)) (r : R) (s : S) (c : Parts O D) → Until f ts a1.root a1.related r s c → Until f ts a.root a.related r s c
  from-begun f ts r s c u = subst (λ p. Until f ts p a.related r s c) same-root (subst (λ q. Until f ts a1.root q r s c) same-related u)

  finishing-is : (fs : List Finished) → first ++ map (finish_event t.at) fs ≡ es ++ finishing w h t fs
  finishing-is fs = go closed refl
    where
      go : (b : Bool) → closed ≡ b → first ++ map (finish_event t.at) fs ≡ es ++ finishing w h t fs
      go true e = closed-events w h t es may.parts.agrees closed k e fs ∙ sym (ap (λ b. es ++ (if b then closing w h t fs else map (finish_event t.at) fs)) (closed-now w h t es may.parts.agrees closed k ∙ e))
      go false e = open-events w h t es may.parts.agrees closed k e fs ∙ sym (ap (λ b. es ++ (if b then closing w h t fs else map (finish_event t.at) fs)) (closed-now w h t es may.parts.agrees closed k ∙ e))

  -- among the finishes, or in a closed turn after them
  pub until-finishes : (fs : List Finished) → AreFinishedFirst object.type_of policy (running h) held fs → (c : Parts O D) → Stand (first ++ map (finish_event t.at) fs) c → Until faults.NoMemory [] a.root a.related a1.root a1.related c
  until-finishes fs done c s = InFinishes refl refl same-root same-related fs done (subst (λ us. Stand us c) (finishing-is fs) s)

  -- over all finishes
  module _ (fs : List Finished) (done : AreFinishedSo object.type_of policy (running h) held fs) (core2 : Parts O D) (core_stands : Stand (first ++ map (finish_event t.at) fs) core2) where
    pub until-asks : (f : AskFault) (r : R) (s : S) (c : Parts O D) → closed ≡ false → ((us : List (CoreEvent O)) → MayAsk root related delays object w h t [] us a1 core2 → HasAskedUntil root related object w h t f us a1.root a1.related r s c)
        → Until f [] a.root a.related r s c
    until-asks f r s c e asks =
        from-begun f [] r s c
        (InAsks refl (closed-now w h t es may.parts.agrees closed k ∙ e) fs done
        (asks (es ++ map (finish_event t.at) fs) (may-first root related delays object w h t a core may a1 budget same begun stands closed k fs core2 core_stands e)))

    module _ (xs : List (Exchange O)) (a' : Asking R S B) (core3 : Parts O D) (stayed : not closed ≡ false → (xs ≡ []) × (a' ≡ a1) × (core3 ≡ core2))
        (went : not closed ≡ true → (us : List (CoreEvent O)) → MayAsk root related delays object w h t [] us a1 core2 → HasAsked root related delays object w h t us a1 xs a' core3) where
      abbrev asked-all : List (CoreEvent O)
      asked-all = es ++ map (finish_event t.at) fs ++ requests_first t.at t.reload t.on ++ map (Answered t.at) xs ++ Settled t.at ∷ [] ++ shut_if (gave_up w (exchanges_with h t xs)) t.at

      -- among the takes
      pub until-takes : closed ≡ false → (ts made : List (Taken O)) → AreHandedOrLost ts made → (c : Parts O D) → ((us : List (CoreEvent O)) → Stand us core3 → Stand (us ++ taken_so_far t.at made) c)
          → Until faults.NoMemory ts a.root a.related a'.root a'.related c
      until-takes e ts made handed c took =
          let g = went (ap not e) (es ++ map (finish_event t.at) fs) (may-first root related delays object w h t a core may a1 budget same begun stands closed k fs core2 core_stands e) in
          from-begun faults.NoMemory ts a'.root a'.related c
          (InTakes refl (closed-now w h t es may.parts.agrees closed k ∙ e) fs done xs g.asked.asked g.done g.asked.polled made handed
          (subst (λ us. Stand us c)
          (events-are es (map (finish_event t.at) fs) (requests_first t.at t.reload t.on) (map (Answered t.at) xs) (Settled t.at ∷ []) (shut_if (gave_up w (exchanges_with h t xs)) t.at) (taken_so_far t.at made)
          (reload_events t.at t.reload) (map (Requested t.at) t.on) refl)
          (took asked-all g.core_stands)))

      -- before them, or in a closed turn
      pub until-before : Until faults.NoMemory [] a.root a.related a'.root a'.related core3
      until-before = go closed refl
        where
          go : (b : Bool) → closed ≡ b → Until faults.NoMemory [] a.root a.related a'.root a'.related core3
          go true e =
              let stay = stayed (ap not e) in
              subst (λ (z : Asking R S B). Until faults.NoMemory [] a.root a.related z.root z.related core3) (sym stay.1)
              (subst (λ c. Until faults.NoMemory [] a.root a.related a1.root a1.related c) (sym stay.2) (until-finishes fs (finished-whole object.type_of policy (running h) held fs done) core2 core_stands))
          go false e = until-takes e [] [] (inl refl) core3 (λ us s. subst (λ vs. Stand vs core3) (sym (append-nil us)) s)

-- before the turn began
pub until-still : {R S B O D E : Type 0} (root : root_source.Ghosts R O D) (related : related_set.Ghosts S O D) (delays : backoff.Ghosts B) (object : resource.Ghosts O D) (policy : O → E → Action → Type 0) (w : World O B) (h : List (Step O)) (t : Turn) (held : List (Finish O E D))
    (a : Asking R S B) (core : Parts O D) (may : MayGoOn root related delays object w h a core) (closed : Bool) (k : closed ≡ (was_shut may.parts.events || asks_shutdown t.shutdown))
    (c : Parts O D) → CoreStands object.type_of object.meta_of (core_world w) (events-first w h t may.parts.events may.parts.agrees closed k) c → (a' : Asking R S B) → a' ≡ a
    → IsDoneUntil root related object w h t policy held faults.NoMemory may.parts.events [] a.root a.related a'.root a'.related c
until-still {R} {S} {B} root related delays object policy w h t held a core may closed k c s a' same =
    subst (λ (z : Asking R S B). IsDoneUntil root related object w h t policy held faults.NoMemory may.parts.events [] a.root a.related z.root z.related c) (sym same)
    (until-finishes root related delays object policy w h t held a core may (asking_begun a t.budget) t.budget refl refl (begun-so root related delays object w h t a core may) closed k [] ([], tt, refl) c
    (subst (λ us. CoreStands object.type_of object.meta_of (core_world w) us c) (sym (append-nil (events-first w h t may.parts.events may.parts.agrees closed k))) s))
