-- The steps of a turn before it goes on, and of a closed one.
use Rattle.std.proofs.Common.{◌≡◌, ℕ, ◌^◌, Bool, true, false, not, ◌||◌, nat_le, nat_lt, List, [], ◌∷◌, ◌++◌, map, length, Option, Some, None, Result, Ok, Err, if◌then◌else◌, refl, sym, ap, subst, ◌∙◌, append_assoc, append-nil}
use Rattle.std.specs.List.{AllZip}
use Rattle.kube_meta.specs.declared.action.Action.{Action}
use Rattle.kube_meta.specs.Reference.{ObjectType}
use Rattle.kube_meta.specs.declared.resource.Resource as resource
use Rattle.kube_model.specs.World.{World}
use Rattle.kube_model.specs.History.{Finished as PlainFinished, Turn, Step, exchanges}
use Rattle.kube_model.specs.Pause.{gave_up}
use Rattle.kube_model.specs.Shutdowns.{is_shut, asks_shutdown, is_closed}
use Rattle.kube_model.specs.Takes.{Running, running}
use Rattle.kube_model.specs.Traces.{AreFinishesOf, IsValid, Moment, last_moment, refused_finish}
use Rattle.kube_history.specs.CoreWorld.{core_world}
use Rattle.kube_history.specs.CoreEvents.{CoreEvent, answers_in, clock_of, was_shut}
use Rattle.kube_history.specs.TurnEvents.{closing, finish_event, shut_if}
use Rattle.kube_history.specs.Agrees.{Agrees, EachFits}
use Rattle.kube_history.proofs.Segments.{answers-append}
use Rattle.kube_backoff.specs.declared.backoff.Backoff as backoff
use Rattle.kube_core.specs.Cores.{Parts, StandsFor as CoreStands}
use Rattle.kube_turn.specs.declared.turn.Finish.{Finish}
use Rattle.kube_turn.specs.declared.record.Finished.{Finished}
use Rattle.kube_turn.specs.Records.{finish_of, finished_of, outcome_of}
use Rattle.kube_asks.specs.Asking.{Asking, AskStands, asking_begun}
use Rattle.kube_asks.specs.declared.root.RootSource as root_source
use Rattle.kube_asks.specs.declared.set.RelatedSet as related_set
use Rattle.kube_step.specs.Asked.{MayAsk}
use Rattle.kube_step.specs.Controllers.{IsWorldOfAsks, AsksStand}
use Rattle.kube_step.specs.Finishes.{AreFinished, IsActionFor}
use Rattle.kube_step.specs.Policies.{answered_in}
use Rattle.kube_step.specs.Turns.{MayGoOn}
use Rattle.kube_step.proofs.Ended.{IsEndOf, TakesOwn, all-ran, finishes-told}

-- the finishes of a valid turn, with what was answered for them
module _ {K D E : Type 0} (type_of : D → ObjectType) (policy : K → E → Action → Type 0) where
  own-is : (object : Option K) (outcome : Result Action E) (action : Action) → IsActionFor policy object outcome action → TakesOwn (outcome_of outcome) action
  own-is object (Ok own) action e = e
  own-is object (Err fault) action e = tt

  ends-are : (rs : List (Running K)) (fs : List (Finish K E D)) (gs : List (Finished K E D)) → AreFinished type_of policy rs fs gs → AllZip IsEndOf (map (finish_of type_of) fs) (map (finished_of type_of) gs)
  ends-are rs [] [] k = tt
  ends-are rs [] (g ∷ gs) k = absurd k
  ends-are rs (f ∷ fs) [] k = absurd k
  ends-are rs (f ∷ fs) (g ∷ gs) k = (
    record {
      finish = λ i. finish_of type_of (record { reference = k.0.reference i; outcome = k.0.outcome i });
      own = own-is _ f.outcome g.action k.0.action;
    },
    ends-are rs fs gs k.1,
  )

  none-refused : (h : List (Step K)) (t : Turn) → IsValid h t → refused_finish (running h) [] 0 t.finishes ≡ None
  none-refused h t v = go (nat_le (2 ^ 63) t.at || nat_lt t.at (last_moment h)) v
    where
      go : (b : Bool) → (if b then Some (Moment t.at (last_moment h)) else refused_finish (running h) [] 0 t.finishes) ≡ None → refused_finish (running h) [] 0 t.finishes ≡ None
      go true k = absurd (cc)
      go false k = k

  pub told-finishes : (h : List (Step K)) (t : Turn) (fs : List (Finish K E D)) (gs : List (Finished K E D)) → IsValid h t → t.finishes ≡ map (finish_of type_of) fs → AreFinished type_of policy (running h) fs gs
      → AreFinishesOf (answered_in (map (finished_of type_of) gs)) (running h) t.finishes (map (finished_of type_of) gs)
  told-finishes h t fs gs v e k =
      finishes-told (running h) t.finishes (map (finished_of type_of) gs) (subst (λ zs. AllZip IsEndOf zs (map (finished_of type_of) gs)) (sym e) (ends-are (running h) fs gs k))
      (all-ran (running h) [] 0 t.finishes (none-refused h t v))

finishes-none : (O : Type 0) (at : ℕ) (fs : List PlainFinished) → answers_in {O = O} (map (finish_event at) fs) ≡ []
finishes-none O at [] = refl
finishes-none O at (f ∷ fs) = finishes-none O at fs

module _ {O B : Type 0} (w : World O B) (h : List (Step O)) (t : Turn) (es : List (CoreEvent O)) (a : Agrees w h es) where
  -- a turn is closed where the core was shut before or shutdown is asked in it
  pub closed-is : is_closed w h t ≡ (was_shut es || asks_shutdown t.shutdown)
  closed-is = swap (is_shut h) (asks_shutdown t.shutdown) (gave_up w (exchanges h)) ∙ ap (λ b. b || asks_shutdown t.shutdown) (sym a.shut)
    where
      swap : (p q r : Bool) → ((p || q) || r) ≡ ((p || r) || q)
      swap true q r = refl
      swap false true true = refl
      swap false true false = refl
      swap false false r = go r
        where
          go : (b : Bool) → b ≡ (b || false)
          go true = refl
          go false = refl

  -- its shutdown, where it is the first, and its finishes
  pub closing-is : (fs : List PlainFinished) → es ++ shut_if (not (was_shut es)) (clock_of es) ++ map (finish_event t.at) fs ≡ es ++ closing w h t fs
  closing-is fs =
      append_assoc es (shut_if (not (was_shut es)) (clock_of es)) (map (finish_event t.at) fs)
      ∙ ap (λ us. es ++ (us ++ map (finish_event t.at) fs)) (go (was_shut es) refl ∙ ap (λ b. shut_if (not b) (last_moment h)) a.shut)
    where
      go : (b : Bool) → was_shut es ≡ b → shut_if {O = O} (not (was_shut es)) (clock_of es) ≡ shut_if (not (was_shut es)) (last_moment h)
      go true e = ap (λ b. shut_if (not b) (clock_of es)) e ∙ sym (ap (λ b. shut_if (not b) (last_moment h)) e)
      go false e = ap (shut_if (not (was_shut es))) (a.clock e)

module _ {R S B O D : Type 0} (root : root_source.Ghosts R O D) (related : related_set.Ghosts S O D) (delays : backoff.Ghosts B) (object : resource.Ghosts O D) (w : World O B) (h : List (Step O)) (t : Turn)
    (a : Asking R S B) (core : Parts O D) (may : MayGoOn root related delays object w h a core) (a1 : Asking R S B) (budget : List ℕ) (same : budget ≡ t.budget) (begun : a1 ≡ asking_begun a budget)
    (stands : AskStands w (root.stands a1.root) (related.stands a1.related) (length (related.feeds a.related)) budget (may.parts.before ++ may.parts.mine) [] a1.kept) where
  pub begun-world : IsWorldOfAsks root related delays object w a1
  begun-world = subst (IsWorldOfAsks root related delays object w) (sym begun) may.parts.world

  pub begun-stands : AsksStand root related delays object w t.budget (exchanges h) [] a1
  begun-stands =
      subst (λ ds. AskStands w (root.stands a1.root) (related.stands a1.related) (length (related.feeds a1.related)) t.budget ds [] a1.kept) may.parts.joined
      (subst (λ n. AskStands w (root.stands a1.root) (related.stands a1.related) (length (related.feeds a1.related)) n (may.parts.before ++ may.parts.mine) [] a1.kept) same
      (subst (λ s. AskStands w (root.stands a1.root) (related.stands a1.related) (length (related.feeds s)) budget (may.parts.before ++ may.parts.mine) [] a1.kept) (sym (ap (λ (z : Asking R S B). z.related) begun)) stands))

  pub begun-unspent : a1.is_spent ≡ false
  begun-unspent = ap (λ (z : Asking R S B). z.is_spent) begun ∙ may.parts.unspent

  pub may-ask-first : is_closed w h t ≡ false → (fs : List PlainFinished) (core1 : Parts O D) → CoreStands object.type_of object.meta_of (core_world w) (may.parts.events ++ map (finish_event t.at) fs) core1
      → MayAsk root related delays object w h t [] (may.parts.events ++ map (finish_event t.at) fs) a1 core1
  may-ask-first o fs core1 s = record {
    world = begun-world;
    asks_stand = begun-stands;
    unspent = begun-unspent;
    core_stands = s;
    answers =
        answers-append may.parts.events (map (finish_event t.at) fs)
        ∙ (ap (λ ds. answers_in may.parts.events ++ ds) (finishes-none O t.at fs) ∙ (append-nil (answers_in may.parts.events) ∙ (may.parts.agrees.answers ∙ sym (append-nil (exchanges h)))));
    fits = subst (EachFits w []) (sym (append-nil (exchanges h))) may.parts.agrees.fits;
    settings = may.settings;
    is_watched = may.is_watched;
    is_open = o;
    names = may.names;
  }
