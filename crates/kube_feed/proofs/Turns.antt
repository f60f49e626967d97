-- Turns, one after another, as a loop takes them.
use Rattle.std.proofs.Common.{◌≡◌, ◌≤◌, Bool, true, false, List, [], ◌∷◌, ◌++◌, map, take, length, slice_get, Option, Some, refl, sym, ap, ap₂, subst, ◌∙◌, arith}
use Rattle.std.specs.List.{AllByRecursion}
use Rattle.std.proofs.lemmas.List.{map-append, length-append, length-map}
use Rattle.kube_meta.specs.Reference.{Reference}
use Rattle.kube_meta.specs.declared.action.Action.{Action}
use Rattle.kube_meta.specs.declared.resource.Resource as resource
use Rattle.kube_model.specs.World.{World}
use Rattle.kube_model.specs.History.{Step, TurnRecord}
use Rattle.kube_model.specs.Raw.{grown_by}
use Rattle.kube_model.specs.Reads.{Reads}
use Rattle.kube_model.specs.Takes.{running}
use Rattle.kube_model.specs.Traces.{Made, Refusal, refusal, steps}
use Rattle.kube_history.proofs.Endings.{each-shuts}
use Rattle.kube_backoff.specs.declared.backoff.Backoff as backoff
use Rattle.kube_asks.specs.declared.asks.AskFault.{AskFault}
use Rattle.kube_asks.specs.declared.root.RootSource as root_source
use Rattle.kube_asks.specs.declared.set.RelatedSet as related_set
use Rattle.kube_turn.specs.declared.turn.Turn.{Turn as HeldTurn}
use Rattle.kube_turn.specs.declared.record.TurnRecord.{TurnRecord as HeldRecord}
use Rattle.kube_turn.specs.Records.{record_of, turn_of}
use Rattle.kube_step.specs.Finishes.{AreFinished}
use Rattle.kube_step.specs.HandOvers.{handed_by, taken_by}
use Rattle.kube_step.specs.Policies.{answered_by}
use Rattle.kube_step.specs.Takes.{IsSomething}
use Rattle.kube_step.proofs.Taking.{all-push}
use Rattle.kube_control.proofs.Budgets.{each-keeps}
use Rattle.kube_control.proofs.Histories.{each-may}
use Rattle.kube_control.proofs.Refusals.{refused-invalid, trace-valid}
use Rattle.kube_control.proofs.Runs.{handed-push}
use Rattle.kube_feed.specs.Fed.{Feeding, StandsFor}
use Rattle.kube_feed.specs.Reads.{AreReadIn, IsReadIn}
use Rattle.kube_feed.specs.Runs.{AreFinishedIn, AreRecorded, HaveRun, IsBrokenOff, IsBrokenRun, IsNextTurn, IsRefusedRun, IsWholeRun, WereRefused, records_in}
use Rattle.kube_feed.proofs.Runs.{finished-more, finished-push, read-push, run-broken, run-long, run-push, run-refused, run-stay}

take-front : {A : Type 0} (ys zs : List A) → take (length ys) (ys ++ zs) ≡ ys
take-front [] zs = refl
take-front (y ∷ ys) zs = ap (λ us. y ∷ us) (take-front ys zs)

get-front : {A : Type 0} (ys : List A) (x : A) (zs : List A) → slice_get (ys ++ x ∷ zs) (length ys) ≡ Some x
get-front [] x zs = refl
get-front (y ∷ ys) x zs = get-front ys x zs

module _ {R S B O D E : Type 0} (root : root_source.Ghosts R O D) (related : related_set.Ghosts S O D) (delays : backoff.Ghosts B) (object : resource.Ghosts O D) (policy : O → E → Action → Type 0)
    (w : World O B) (h : List (Step O)) (ts : List (HeldTurn O E D)) (c : Feeding R S B O D) (rs : List (HeldRecord O E D)) (c' : Feeding R S B O D) where
  -- all turns were taken
  pub whole-run : (ms : List (Made O)) → AreRecorded object.type_of policy h ts rs ms → AreReadIn object.meta_of ms c.reader c'.reader
      → HaveRun root related delays object w h (map (turn_of object.type_of) ts) c ms c' → IsWholeRun root related delays object policy w h ts c rs c'
  whole-run ms recorded read ran =
      let turns = map (turn_of object.type_of) ts in
      let policies = answered_by (records_in ms) in record {
        made = ms;
        recorded = recorded;
        read = read;
        ran = ran;
        valid = trace-valid w policies h turns ms ran.traced;
        once = each-may w (h ++ steps turns ms) ran.stands.of_trace;
        shuts = each-shuts w policies h turns ms ran.traced;
        budget = each-keeps w policies h turns ms ran.traced;
      }

module _ {R S B O D E : Type 0} (root : root_source.Ghosts R O D) (related : related_set.Ghosts S O D) (delays : backoff.Ghosts B) (object : resource.Ghosts O D) (policy : O → E → Action → Type 0)
    (t : HeldTurn O E D) (ys : List (HeldTurn O E D)) (rs : List (HeldRecord O E D)) (c c' c'' : Feeding R S B O D) (had had' had'' : Option (List (Reference × O))) where
  -- these turns ran, and have these records
  abbrev pub Done : World O B → List (Step O) → List (HeldTurn O E D) → List (HeldRecord O E D) → Feeding R S B O D → Type 0
  Done w h us qs d =
      (ms : List (Made O)) × (records_in ms ≡ map (record_of object.type_of) qs) × AreReadIn object.meta_of ms c.reader d.reader × HaveRun root related delays object w h (map (turn_of object.type_of) us) c ms d
      × AreFinishedIn object.type_of policy h us qs ms

  as-long : (qs : List (HeldRecord O E D)) (ms : List (Made O)) → records_in ms ≡ map (record_of object.type_of) qs → length qs ≡ length ms
  as-long qs ms e = sym (sym (length-map ms (λ (m : Made O). m.0)) ∙ (ap length e ∙ length-map qs (record_of object.type_of)))

  pub done-at : (w : World O B) (h : List (Step O)) (qs : List (HeldRecord O E D)) → qs ≡ rs → Done w h ys rs c' → Done w h ys qs c'
  done-at w h qs e k = subst (λ z. Done w h ys z c') (sym e) k

  -- one more turn, or none where one was the last
  module _ (rs' : List (HeldRecord O E D)) (ended : c'.has_ended ≡ true → (c'' ≡ c') × (rs' ≡ rs) × (had'' ≡ had'))
      (next : c'.has_ended ≡ false → (r : HeldRecord O E D) × (rs' ≡ rs ++ r ∷ [])
      × ((w : World O B) (h : List (Step O)) → StandsFor root related delays object w h c'
      → (reads : Reads O) × IsReadIn object.meta_of (record_of object.type_of r).taken reads c'.reader c''.reader
      × IsNextTurn root related delays object w h (turn_of object.type_of t) c' (record_of object.type_of r, reads) c''
      × AreFinished object.type_of policy (running h) t.finishes r.finished)
      × (had'' ≡ grown_by had' (handed_by (record_of object.type_of r).taken)) × AllByRecursion (IsSomething object.type_of) r.taken) where
    pub short-more : length rs ≤ length ys → length rs' ≤ length (ys ++ t ∷ [])
    short-more l = go c'.has_ended refl
      where
        go : (b : Bool) → c'.has_ended ≡ b → length rs' ≤ length (ys ++ t ∷ [])
        go true e = subst (λ qs. length qs ≤ length (ys ++ t ∷ [])) (sym (ended e).1) (omega (arith, l, length-append ys (t ∷ [])))
        go false e = let n = next e in subst (λ qs. length qs ≤ length (ys ++ t ∷ [])) (sym n.1) (omega (arith, l, length-append ys (t ∷ []), length-append rs (n.0 ∷ [])))

    pub handed-more : had' ≡ grown_by had (handed_by (taken_by (map (record_of object.type_of) rs))) → had'' ≡ grown_by had (handed_by (taken_by (map (record_of object.type_of) rs')))
    handed-more k = go c'.has_ended refl
      where
        go : (b : Bool) → c'.has_ended ≡ b → had'' ≡ grown_by had (handed_by (taken_by (map (record_of object.type_of) rs')))
        go true e = let n = ended e in n.2 ∙ (k ∙ ap (λ qs. grown_by had (handed_by (taken_by (map (record_of object.type_of) qs)))) (sym n.1))
        go false e =
            let n = next e in
            handed-push had had' had'' (map (record_of object.type_of) rs) (record_of object.type_of n.0) k n.3
            ∙ ap (λ qs. grown_by had (handed_by (taken_by qs))) (sym (ap (map (record_of object.type_of)) n.1 ∙ map-append (record_of object.type_of) rs (n.0 ∷ [])))

    pub something-more : AllByRecursion (λ (r : HeldRecord O E D). AllByRecursion (IsSomething object.type_of) r.taken) rs → AllByRecursion (λ (r : HeldRecord O E D). AllByRecursion (IsSomething object.type_of) r.taken) rs'
    something-more k = go c'.has_ended refl
      where
        go : (b : Bool) → c'.has_ended ≡ b → AllByRecursion (λ (r : HeldRecord O E D). AllByRecursion (IsSomething object.type_of) r.taken) rs'
        go true e = subst (AllByRecursion (λ (r : HeldRecord O E D). AllByRecursion (IsSomething object.type_of) r.taken)) (sym (ended e).1) k
        go false e =
            let n = next e in
            subst (AllByRecursion (λ (r : HeldRecord O E D). AllByRecursion (IsSomething object.type_of) r.taken)) (sym n.1) (all-push (λ (r : HeldRecord O E D). AllByRecursion (IsSomething object.type_of) r.taken) rs n.0 k n.4)

    pub done-more : (w : World O B) (h : List (Step O)) → length rs ≤ length ys → Done w h ys rs c' → Done w h (ys ++ t ∷ []) rs' c''
    done-more w h l k = go c'.has_ended refl
      where
        turns : map (turn_of object.type_of) ys ++ turn_of object.type_of t ∷ [] ≡ map (turn_of object.type_of) (ys ++ t ∷ [])
        turns = sym (map-append (turn_of object.type_of) ys (t ∷ []))

        go : (b : Bool) → c'.has_ended ≡ b → Done w h (ys ++ t ∷ []) rs' c''
        go true e =
            let n = ended e in (
              k.0,
              k.1 ∙ ap (map (record_of object.type_of)) (sym n.1),
              subst (λ (d : Feeding R S B O D). AreReadIn object.meta_of k.0 c.reader d.reader) (sym n.0) k.2,
              subst (λ d. HaveRun root related delays object w h (map (turn_of object.type_of) (ys ++ t ∷ [])) c k.0 d) (sym n.0)
                  (subst (λ us. HaveRun root related delays object w h us c k.0 c') turns (run-stay root related delays object w h (map (turn_of object.type_of) ys) c k.0 c' k.3 e (turn_of object.type_of t))),
              subst (λ qs. AreFinishedIn object.type_of policy h (ys ++ t ∷ []) qs k.0) (sym n.1) (finished-more object.type_of policy h ys (t ∷ []) rs k.0 (as-long rs k.0 k.1) k.4 l),
            )
        go false e =
            let n = next e in
            let made = n.2 w (h ++ steps (map (turn_of object.type_of) ys) k.0) k.3.stands in
            let m : Made O = (record_of object.type_of n.0, made.0) in
            let long = run-long root related delays object w h (map (turn_of object.type_of) ys) c k.0 c' k.3 e in
            let same = as-long rs k.0 k.1 in (
              k.0 ++ m ∷ [],
              map-append (λ (z : Made O). z.0) k.0 (m ∷ [])
                  ∙ (ap (λ qs. qs ++ record_of object.type_of n.0 ∷ []) k.1 ∙ (sym (map-append (record_of object.type_of) rs (n.0 ∷ [])) ∙ ap (map (record_of object.type_of)) (sym n.1))),
              read-push object.meta_of k.0 m c.reader c'.reader c''.reader k.2 made.1,
              subst (λ us. HaveRun root related delays object w h us c (k.0 ++ m ∷ []) c'') turns
                  (run-push root related delays object w h (map (turn_of object.type_of) ys) c k.0 c' k.3 e (turn_of object.type_of t) m c'' made.2),
              subst (λ qs. AreFinishedIn object.type_of policy h (ys ++ t ∷ []) qs (k.0 ++ m ∷ [])) (sym n.1)
                  (finished-push object.type_of policy h ys rs k.0 t n.0 m (sym (length-map ys (turn_of object.type_of)) ∙ (long ∙ sym same)) same k.4 made.3),
            )

  -- a turn that has no record
  module _ (all rest : List (HeldTurn O E D)) (whole : all ≡ ys ++ t ∷ rest) where
    pub short-end : length rs ≤ length ys → length rs ≤ length all
    short-end l = subst (λ us. length rs ≤ length us) (sym whole) (omega (arith, l, length-append ys (t ∷ rest)))

    module _ (w : World O B) (h : List (Step O)) (k : Done w h ys rs c') (going : c'.has_ended ≡ false) where
      long : length k.0 ≡ length (map (turn_of object.type_of) ys)
      long = sym (run-long root related delays object w h (map (turn_of object.type_of) ys) c k.0 c' k.3 going)

      all-are : map (turn_of object.type_of) all ≡ map (turn_of object.type_of) ys ++ turn_of object.type_of t ∷ map (turn_of object.type_of) rest
      all-are = ap (map (turn_of object.type_of)) whole ∙ map-append (turn_of object.type_of) ys (t ∷ rest)

      front : map (turn_of object.type_of) ys ≡ take (length k.0) (map (turn_of object.type_of) all)
      front = sym (ap₂ (λ n us. take n us) long all-are ∙ take-front (map (turn_of object.type_of) ys) (turn_of object.type_of t ∷ map (turn_of object.type_of) rest))

      recorded : AreRecorded object.type_of policy h all rs k.0
      recorded = record {
        records = k.1;
        finished =
            subst (λ us. AreFinishedIn object.type_of policy h us rs k.0) (sym whole)
            (finished-more object.type_of policy h ys (t ∷ rest) rs k.0 (as-long rs k.0 k.1) k.4 (omega (arith, as-long rs k.0 k.1, long, length-map ys (turn_of object.type_of))));
      }

      pub refused-end : (why : Refusal) → c'' ≡ c' → refusal (h ++ steps (map (turn_of object.type_of) ys) k.0) (turn_of object.type_of t) ≡ Some why → IsRefusedRun root related delays object policy w h all c rs why c''
      refused-end why same e =
          let refused : WereRefused root related delays object w h (map (turn_of object.type_of) all) c k.0 why c'' =
          subst (λ d. WereRefused root related delays object w h (map (turn_of object.type_of) all) c k.0 why d) (sym same)
          (run-refused root related delays object w h (map (turn_of object.type_of) ys) c k.0 c' k.3 going (map (turn_of object.type_of) all) (turn_of object.type_of t) (map (turn_of object.type_of) rest) all-are front why e) in record {
            made = k.0;
            recorded = recorded;
            read = subst (λ (d : Feeding R S B O D). AreReadIn object.meta_of k.0 c.reader d.reader) (sym same) k.2;
            refused = refused;
            invalid = refused-invalid w (answered_by (records_in k.0)) h (map (turn_of object.type_of) all) k.0 why refused.refused;
          }

      pub broken-end : (f : AskFault) → had' ≡ grown_by had (handed_by (taken_by (map (record_of object.type_of) rs)))
          → IsBrokenOff root related object policy w f (h ++ steps (map (turn_of object.type_of) ys) k.0) t c'.asks.root c'.asks.related c'.reader c''.asks.root c''.asks.related c''.reader had' had''
          → IsBrokenRun root related delays object policy w f h all c rs c'' had had''
      broken-end f grew b = record {
        made = k.0;
        recorded = recorded;
        broken =
            run-broken root related delays object w h (map (turn_of object.type_of) ys) c k.0 c' k.3 policy going all t front
            (ap₂ (λ us n. slice_get us n) whole (long ∙ length-map ys (turn_of object.type_of)) ∙ get-front ys t rest) f c'' had had' had'' k.2
            (grew ∙ ap (λ (qs : List (TurnRecord O)). grown_by had (handed_by (taken_by qs))) (sym k.1)) b;
      }
