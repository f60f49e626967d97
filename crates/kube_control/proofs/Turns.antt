-- Turns, one after another, as a loop takes them.
use Rattle.std.proofs.Common.{◌≡◌, ◌<◌, ◌≤◌, Bool, true, false, List, [], ◌∷◌, ◌++◌, map, take, length, slice_get, get_or, Option, Some, refl, sym, ap, ap₂, subst, ◌∙◌, arith}
use Rattle.std.specs.List.{AllByRecursion}
use Rattle.std.proofs.lemmas.List.{map-append, map-id, length-append, length-map}
use Rattle.kube_meta.specs.Reference.{Reference}
use Rattle.kube_meta.specs.declared.action.Action.{Action}
use Rattle.kube_meta.specs.declared.resource.Resource as resource
use Rattle.kube_model.specs.World.{World}
use Rattle.kube_model.specs.History.{Step, Turn}
use Rattle.kube_model.specs.Raw.{grown_by}
use Rattle.kube_model.specs.Takes.{running}
use Rattle.kube_model.specs.Traces.{IsRefusedAfter, Refusal, refusal, steps, unread}
use Rattle.kube_backoff.specs.declared.backoff.Backoff as backoff
use Rattle.kube_asks.specs.declared.asks.AskFault.{AskFault}
use Rattle.kube_asks.specs.declared.root.RootSource as root_source
use Rattle.kube_asks.specs.declared.set.RelatedSet as related_set
use Rattle.kube_turn.specs.declared.turn.Turn.{Turn as HeldTurn}
use Rattle.kube_turn.specs.declared.record.TurnRecord.{TurnRecord as HeldRecord}
use Rattle.kube_turn.specs.Records.{record_of, turn_of}
use Rattle.kube_step.specs.Finishes.{AreFinished}
use Rattle.kube_step.specs.HandOvers.{handed_by, taken_by}
use Rattle.kube_step.specs.Policies.{answered_by}
use Rattle.kube_step.specs.Takes.{IsSomething}
use Rattle.kube_step.proofs.Taking.{all-push}
use Rattle.kube_control.specs.Controllers.{Controlling}
use Rattle.kube_control.specs.Runs.{AreFinishedIn, HaveRun, IsBrokenOff, IsNextTurn, IsWatching, WereBrokenOff}
use Rattle.kube_control.proofs.Refusals.{get-after, split-after}
use Rattle.kube_control.proofs.Runs.{finished-more, finished-push, handed-push, run-broken, run-long, run-push, run-refused, run-stay}

-- a front, and what follows it
pub split-turns : {A : Type 0} (xs ys : List A) (x : A) → map (λ a. a) ys ≡ take (length ys) xs → (length ys < length xs) × (x ≡ get_or xs (length ys) x) → (rest : List A) × (xs ≡ ys ++ x ∷ rest)
split-turns xs ys x front here =
    let split = split-after xs (length ys) x (get-after xs (length ys) x here.0 here.1) in
    (split.0, split.1 ∙ ap (λ zs. zs ++ x ∷ split.0) (sym front ∙ map-id ys))

take-front : {A : Type 0} (ys zs : List A) → take (length ys) (ys ++ zs) ≡ ys
take-front [] zs = refl
take-front (y ∷ ys) zs = ap (λ us. y ∷ us) (take-front ys zs)

get-front : {A : Type 0} (ys : List A) (x : A) (zs : List A) → slice_get (ys ++ x ∷ zs) (length ys) ≡ Some x
get-front [] x zs = refl
get-front (y ∷ ys) x zs = get-front ys x zs

module _ {R S B O D E : Type 0} (root : root_source.Ghosts R O D) (related : related_set.Ghosts S O D) (delays : backoff.Ghosts B) (object : resource.Ghosts O D) (policy : O → E → Action → Type 0)
    (t : HeldTurn O E D) (ys : List (HeldTurn O E D)) (rs : List (HeldRecord O E D)) (c : Controlling R S B O D) (c' c'' : Controlling R S B O D) (had had' had'' : Option (List (Reference × O))) where
  abbrev turn-of : HeldTurn O E D → Turn
  turn-of u = turn_of object.type_of u

  abbrev done : World O B → List (Step O) → List (HeldTurn O E D) → List (HeldRecord O E D) → Controlling R S B O D → Type 0
  done w h us qs d = HaveRun root related delays object w h (map turn-of us) c (map (record_of object.type_of) qs) d × AreFinishedIn object.type_of policy h us qs

  pub done-at : (w : World O B) (h : List (Step O)) (qs : List (HeldRecord O E D)) → qs ≡ rs → done w h ys rs c' → done w h ys qs c'
  done-at w h qs e k = subst (λ z. done w h ys z c') (sym e) k

  -- one more turn, or none where one was the last
  module _ (rs' : List (HeldRecord O E D)) (ended : c'.has_ended ≡ true → (c'' ≡ c') × (rs' ≡ rs) × (had'' ≡ had'))
      (next : c'.has_ended ≡ false → (r : HeldRecord O E D) × (rs' ≡ rs ++ r ∷ [])
      × ((w : World O B) (h : List (Step O)) → IsWatching root related delays object w h c' → IsNextTurn root related delays object w h (turn-of t) c' (record_of object.type_of r) c''
      × AreFinished object.type_of policy (running h) t.finishes r.finished)
      × (had'' ≡ grown_by had' (handed_by (record_of object.type_of r).taken)) × AllByRecursion (IsSomething object.type_of) r.taken) where
    pub short-more : length rs ≤ length ys → length rs' ≤ length (ys ++ t ∷ [])
    short-more l = go c'.has_ended refl
      where
        go : (b : Bool) → c'.has_ended ≡ b → length rs' ≤ length (ys ++ t ∷ [])
        go true e = subst (λ qs. length qs ≤ length (ys ++ t ∷ [])) (sym (ended e).1) (omega (arith, l, length-append ys (t ∷ [])))
        go false e = let n = next e in subst (λ qs. length qs ≤ length (ys ++ t ∷ [])) (sym n.1) (omega (arith, l, length-append ys (t ∷ []), length-append rs (n.0 ∷ [])))

    pub handed-more : had' ≡ grown_by had (handed_by (taken_by (map (record_of object.type_of) rs))) → had'' ≡ grown_by had (handed_by (taken_by (map (record_of object.type_of) rs')))
    handed-more k = go c'.has_ended refl
      where
        go : (b : Bool) → c'.has_ended ≡ b → had'' ≡ grown_by had (handed_by (taken_by (map (record_of object.type_of) rs')))
        go true e = let n = ended e in n.2 ∙ (k ∙ ap (λ qs. grown_by had (handed_by (taken_by (map (record_of object.type_of) qs)))) (sym n.1))
        go false e =
            let n = next e in
            handed-push had had' had'' (map (record_of object.type_of) rs) (record_of object.type_of n.0) k n.3
            ∙ ap (λ qs. grown_by had (handed_by (taken_by qs))) (sym (ap (map (record_of object.type_of)) n.1 ∙ map-append (record_of object.type_of) rs (n.0 ∷ [])))

    pub something-more : AllByRecursion (λ (r : HeldRecord O E D). AllByRecursion (IsSomething object.type_of) r.taken) rs → AllByRecursion (λ (r : HeldRecord O E D). AllByRecursion (IsSomething object.type_of) r.taken) rs'
    something-more k = go c'.has_ended refl
      where
        go : (b : Bool) → c'.has_ended ≡ b → AllByRecursion (λ (r : HeldRecord O E D). AllByRecursion (IsSomething object.type_of) r.taken) rs'
        go true e = subst (AllByRecursion (λ (r : HeldRecord O E D). AllByRecursion (IsSomething object.type_of) r.taken)) (sym (ended e).1) k
        go false e =
            let n = next e in
            subst (AllByRecursion (λ (r : HeldRecord O E D). AllByRecursion (IsSomething object.type_of) r.taken)) (sym n.1) (all-push (λ (r : HeldRecord O E D). AllByRecursion (IsSomething object.type_of) r.taken) rs n.0 k n.4)

    pub done-more : (w : World O B) (h : List (Step O)) → length rs ≤ length ys → done w h ys rs c' → done w h (ys ++ t ∷ []) rs' c''
    done-more w h l k = go c'.has_ended refl
      where
        go : (b : Bool) → c'.has_ended ≡ b → done w h (ys ++ t ∷ []) rs' c''
        go true e =
            let n = ended e in
            let turns = sym (map-append turn-of ys (t ∷ [])) in (
              subst (λ qs. HaveRun root related delays object w h (map turn-of (ys ++ t ∷ [])) c (map (record_of object.type_of) qs) c'') (sym n.1)
                  (subst (λ d. HaveRun root related delays object w h (map turn-of (ys ++ t ∷ [])) c (map (record_of object.type_of) rs) d) (sym n.0)
                  (subst (λ us. HaveRun root related delays object w h us c (map (record_of object.type_of) rs) c') turns
                  (run-stay root related delays object w h (map turn-of ys) c (map (record_of object.type_of) rs) c' k.0 e (turn-of t)))),
              subst (AreFinishedIn object.type_of policy h (ys ++ t ∷ [])) (sym n.1) (finished-more object.type_of policy h ys (t ∷ []) rs l k.1),
            )
        go false e =
            let n = next e in
            let turns = sym (map-append turn-of ys (t ∷ [])) in
            let records = sym (ap (map (record_of object.type_of)) n.1 ∙ map-append (record_of object.type_of) rs (n.0 ∷ [])) in
            let made = n.2 w (h ++ steps (map turn-of ys) (map unread (map (record_of object.type_of) rs))) k.0.watching in
            let long = run-long root related delays object w h (map turn-of ys) c (map (record_of object.type_of) rs) c' k.0 e in (
              subst (λ qs. HaveRun root related delays object w h (map turn-of (ys ++ t ∷ [])) c qs c'') records
                  (subst (λ us. HaveRun root related delays object w h us c (map (record_of object.type_of) rs ++ record_of object.type_of n.0 ∷ []) c'') turns
                  (run-push root related delays object w h (map turn-of ys) c (map (record_of object.type_of) rs) c' k.0 e (turn-of t) (record_of object.type_of n.0) c'' made.0)),
              subst (AreFinishedIn object.type_of policy h (ys ++ t ∷ [])) (sym n.1)
                  (finished-push object.type_of policy h ys rs t n.0 (sym (length-map ys turn-of) ∙ (long ∙ length-map rs (record_of object.type_of))) k.1 made.1),
            )

  -- a turn that has no record
  module _ (all rest : List (HeldTurn O E D)) (whole : all ≡ ys ++ t ∷ rest) where
    pub short-end : length rs ≤ length ys → length rs ≤ length all
    short-end l = subst (λ us. length rs ≤ length us) (sym whole) (omega (arith, l, length-append ys (t ∷ rest)))

    module _ (w : World O B) (h : List (Step O)) (k : done w h ys rs c') where
      pub finished-end : length rs ≤ length ys → AreFinishedIn object.type_of policy h all rs
      finished-end l = subst (λ us. AreFinishedIn object.type_of policy h us rs) (sym whole) (finished-more object.type_of policy h ys (t ∷ rest) rs l k.1)

      module _ (going : c'.has_ended ≡ false) where
        long : length (map (record_of object.type_of) rs) ≡ length (map turn-of ys)
        long = sym (run-long root related delays object w h (map turn-of ys) c (map (record_of object.type_of) rs) c' k.0 going)

        all-are : map turn-of all ≡ map turn-of ys ++ turn-of t ∷ map turn-of rest
        all-are = ap (map turn-of) whole ∙ map-append turn-of ys (t ∷ rest)

        front : map turn-of ys ≡ take (length (map (record_of object.type_of) rs)) (map turn-of all)
        front = sym (ap₂ (λ n us. take n us) long all-are ∙ take-front (map turn-of ys) (turn-of t ∷ map turn-of rest))

        pub refused-end : (why : Refusal) → c'' ≡ c' → refusal (h ++ steps (map turn-of ys) (map unread (map (record_of object.type_of) rs))) (turn-of t) ≡ Some why
            → IsRefusedAfter w (answered_by (map (record_of object.type_of) rs)) h (map turn-of all) (map unread (map (record_of object.type_of) rs)) why
            × HaveRun root related delays object w h (take (length rs) (map turn-of all)) c (map (record_of object.type_of) rs) c''
        refused-end why same e =
            let r =
            run-refused root related delays object w h (map turn-of ys) c (map (record_of object.type_of) rs) c' k.0 going (map turn-of all) (turn-of t) (map turn-of rest) all-are front why e in (
              r.0,
              subst (λ n. HaveRun root related delays object w h (take n (map turn-of all)) c (map (record_of object.type_of) rs) c'') (length-map rs (record_of object.type_of))
                  (subst (λ d. HaveRun root related delays object w h (take (length (map (record_of object.type_of) rs)) (map turn-of all)) c (map (record_of object.type_of) rs) d) (sym same) r.1),
            )

        pub broken-end : (f : AskFault) → had' ≡ grown_by had (handed_by (taken_by (map (record_of object.type_of) rs)))
            → IsBrokenOff root related object policy w f (h ++ steps (map turn-of ys) (map unread (map (record_of object.type_of) rs))) t c'.asks.root c'.asks.related c''.core.writer.kept c''.asks.root c''.asks.related had' had''
            → WereBrokenOff root related object policy w f h all c (map (record_of object.type_of) rs) c'' had had''
        broken-end f grew b =
            run-broken root related delays object w h (map turn-of ys) c (map (record_of object.type_of) rs) c' k.0 policy going all t front
            (ap₂ (λ us n. slice_get us n) whole (long ∙ length-map ys turn-of) ∙ get-front ys t rest) f c'' had had' had'' grew b
