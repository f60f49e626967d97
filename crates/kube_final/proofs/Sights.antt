-- What a stage keeps of a life, step by step.
use Rattle.std.proofs.Common.{◌≡◌, inl, inr, ℕ, suc, zero, ◌<◌, ◌^◌, ◌&&◌, List, [], ◌∷◌, ◌++◌, map, length, slice_get, ◌≤◌, Option, Some, None, Result, Ok, Err, Bool, true, false, not, is_some, OnOk, IfOk, refl, sym, ap, ◌∙◌, subst, true≢false, append-nil, arith}
use Rattle.std.specs.Prelude.{unwrap_or, nat_lt, drop, fold, take}
use Rattle.std.proofs.lemmas.List.Sums.{fold-append}
use Rattle.std.proofs.lemmas.List.{drop_all, length-map}
use Rattle.std.proofs.lemmas.Bool.Decides.{nat_tests}
use Rattle.std.specs.Arc.{arc_value}
use Rattle.std.specs.declared.alloc.Global.{Global}
use Rattle.std.specs.declared.sync.Arc.{Arc}
use Rattle.std.specs.declared.vec.Vec.{Vec}
use Rattle.kube_meta.specs.declared.dynamic.DynamicObject.{DynamicObject}
use Rattle.kube_meta.specs.Reading.{ObjectData, seen_object, unless_empty}
use Rattle.kube_meta.specs.Reference.{Reference}
use Rattle.kube_meta.specs.Resources.{dynamic_reference}
use Rattle.kube_api.specs.declared.patch.Patch.{Patch}
use Rattle.kube_api.specs.Patches.{Operation, operation_of}
use Rattle.kube_server.specs.History.{State, state_of as objects_after}
use Rattle.kube_server.specs.Servers.{ServerState, meta_of, held}
use Rattle.kube_final.specs.declared.finalizer.Decision.{Decision}
use Rattle.kube_final.specs.declared.finalizer.Decision.TheVariants.{Apply, Cleanup, AddFirst, AddMore, Nothing, Unnamed}
use Rattle.kube_final.specs.declared.life.LifeState.{LifeState}
use Rattle.kube_final.specs.declared.life.LifeStep.{LifeStep}
use Rattle.kube_final.specs.declared.life.LifeStep.TheVariants.{Arrive}
use Rattle.kube_final.specs.declared.play.Stage.{Stage}
use Rattle.kube_final.specs.declared.play.Made.{Made}
use Rattle.kube_final.specs.Finalizers.{decided, decision_on, finalizers_in, patch_on, first_index, replacement}
use Rattle.kube_final.specs.Lives.{Decided, Past, after, arrived, beginning, decided_on, decisions_after, sent_by, is_life_from, may_follow, past_of, state_after, is_made, is_there, state_of, with_decision}
use Rattle.kube_final.specs.Playing.{AreMade, AreSent, AreShort, AreSights, IsAnswered, IsDue, IsHeldAs, IsKept, IsMadeAs, IsPatchOf, IsSeenAs, IsSight, IsStage, Serves, is_due, stage_reference, there}
use Rattle.kube_final.proofs.Staging.{arrived-done, arrived-refused, change-gives, held-only, only, patch-done, patch-refused}

pub on-ok : {A E : Type 0} (r : Result A E) (P Q : Type 0) → (P → Q) → OnOk r P → OnOk r Q
on-ok (Ok a) P Q f h = f h
on-ok (Err e) P Q f h = h

pub if-ok : {A E : Type 0} (r : Result A E) (P Q : A → Type 0) → ((a : A) → P a → Q a) → IfOk r P → IfOk r Q
if-ok (Ok a) P Q f h = f a h
if-ok (Err e) P Q f h = h

-- ---- patches that a server answered

answered : (old new : ServerState) (r : Reference) (state : LifeState) (names : List (List ℕ)) (os : List Operation) → os ≡ replacement names → IsAnswered old new r os
    → state.gone ≡ false → Serves old r state → Serves new r (state_of names state.deleting)
answered old new r state names os e (inl step) g h = patch-done old new r state os names h g (change-gives state.finalizers names os e) step
answered old new r state names os e (inr refusal) g h = patch-refused old new r state os names refusal.0 h g (change-gives state.finalizers names os e) refusal.2 refusal.1 refusal.3

pub change_came : (old new : ServerState) (r : Reference) (names : List (List ℕ)) (os : List Operation) → os ≡ replacement names → IsAnswered old new r os
    → (state : LifeState) → state.gone ≡ false → Serves old r state → Serves new r (state_of names state.deleting)
change_came old new r names os e a state g h = answered old new r state names os e a g h

arrived-answered : (old new : ServerState) (r : Reference) (os : List Operation) → IsAnswered old new r os
    → (name : List ℕ) (state : LifeState) (d : Decided) → IsPatchOf name os (Some d) → Serves old r state → Serves new r (arrived name state (Some d))
arrived-answered old new r os (inl step) name state d p h = arrived-done old new r name state d os h p step
arrived-answered old new r os (inr refusal) name state d p h = arrived-refused old new r name state d os refusal.0 h p refusal.2 refusal.1 refusal.3

pub arrival_came : (old new : ServerState) (r : Reference) (os : List Operation) → IsAnswered old new r os
    → (name : List ℕ) (state : LifeState) (d : Decided) → IsPatchOf name os (Some d) → Serves old r state → Serves new r (arrived name state (Some d))
arrival_came = arrived-answered

-- ---- what is seen of the server

some-no : {A : Type 0} (a : A) → Some a ≡ None → ⊥
some-no a e = true≢false (ap is_some e)

some-same : {A : Type 0} (a b : A) → Some a ≡ Some b → a ≡ b
some-same a b e = ap (λ o. unwrap_or o a) e

sight-at : (objects : State DynamicObject) (state : LifeState) (o : ObjectData) → IsHeldAs objects state → Some o ≡ only objects → (state.gone ≡ false) × IsSeenAs o state
sight-at [] state o h e = absurd (some-no o e)
sight-at (p ∷ []) state o h e = (h.1, subst (λ x. IsSeenAs x state) (sym (some-same o (seen_object p.1) e)) h.2)
sight-at (p ∷ q ∷ ps) state o h e = absurd h

pub sight-of : (s : ServerState) (r : Reference) (state : LifeState) (o : ObjectData) → Serves s r state → Some o ≡ held s r → (state.gone ≡ false) × IsSeenAs o state
sight-of s r state o h e = sight-at (objects_after meta_of s.changes) state o h.holds (e ∙ held-only s r state h)

-- ---- decisions on what was seen

plain-finalizers : (names : List (List ℕ)) → unwrap_or (unless_empty (Some names)) [] ≡ names
plain-finalizers [] = refl
plain-finalizers (n ∷ ns) = refl

pub seen-finalizers : (x : DynamicObject) (state : LifeState) → IsSeenAs (seen_object x) state → finalizers_in x.metadata ≡ state.finalizers
seen-finalizers x state h = ap (λ d. finalizers_in d.metadata) h.is ∙ plain-finalizers state.finalizers

seen-decision : (name : List ℕ) (x : DynamicObject) (state : LifeState) → IsSeenAs (seen_object x) state → decision_on name x.metadata ≡ decided true state.deleting (first_index name state.finalizers) state.finalizers
seen-decision name x state h =
    ap (λ d. decision_on name d.metadata) h.is
    ∙ ap (λ fs. decided true (is_some h.deleted) (first_index name fs) fs) (plain-finalizers state.finalizers)
    ∙ ap (λ b. decided true b (first_index name state.finalizers) state.finalizers) h.deleting

made-seen : (name : List ℕ) (m : Made) (x : DynamicObject) (state : LifeState) → IsSeenAs (seen_object x) state → m.decision ≡ decision_on name x.metadata → arc_value m.object ≡ x → IsMadeAs name m (decided_on name state)
made-seen name m x state h e f = record {
  state = state;
  decided = refl;
  decision = e ∙ seen-decision name x state h;
  seen = ap (λ y. finalizers_in y.metadata) f ∙ seen-finalizers x state h;
}

made-more : (name : List ℕ) (ms : List Made) (ds : List Decided) (m : Made) (d : Decided) → AreMade name ms ds → IsMadeAs name m d → AreMade name (ms ++ m ∷ []) (ds ++ d ∷ [])
made-more name [] [] m d h k = (k, tt)
made-more name [] (e ∷ ds) m d h k = absurd h
made-more name (n ∷ ms) [] m d h k = absurd h
made-more name (n ∷ ms) (e ∷ ds) m d h k = (h.0, made-more name ms ds m d h.1 k)

pub decided-more : (name : List ℕ) (os : List (Option (Arc DynamicObject Global))) (states : List LifeState) (n : ℕ) (ms : List Made) (ds : List Decided) (m : Made) (x : DynamicObject)
    → AreSights os states → AreMade name ms ds → there (slice_get os n) ≡ Some x → m.decision ≡ decision_on name x.metadata → arc_value m.object ≡ x → is_there (slice_get states n) ≡ true
    → AreMade name (ms ++ m ∷ []) (with_decision name (slice_get states n) ds)
decided-more name [] [] n ms ds m x s h e d f t = absurd (true≢false (sym t))
decided-more name [] (w ∷ ws) n ms ds m x s h e d f t = absurd s
decided-more name (o ∷ os) [] n ms ds m x s h e d f t = absurd s
decided-more name (None ∷ os) (w ∷ ws) zero ms ds m x s h e d f t = absurd (some-no x (sym e))
decided-more name (Some a ∷ os) (w ∷ ws) zero ms ds m x s h e d f t =
    made-more name ms ds m (decided_on name w) h (made-seen name m x w (subst (λ y. IsSeenAs (seen_object y) w) (some-same (arc_value a) x e) s.0.1) d f)
decided-more name (o ∷ os) (w ∷ ws) (suc n) ms ds m x s h e d f t = decided-more name os ws n ms ds m x s.1 h e d f t

pub none-seen : (os : List (Option (Arc DynamicObject Global))) (states : List LifeState) (n : ℕ) → AreSights os states → there (slice_get os n) ≡ None → is_there (slice_get states n) ≡ true → ⊥
none-seen [] [] n s e t = true≢false (sym t)
none-seen [] (w ∷ ws) n s e t = s
none-seen (o ∷ os) [] n s e t = s
none-seen (None ∷ os) (w ∷ ws) zero s e t = true≢false (sym (ap not (sym s.0) ∙ t))
none-seen (Some a ∷ os) (w ∷ ws) zero s e t = some-no (arc_value a) e
none-seen (o ∷ os) (w ∷ ws) (suc n) s e t = none-seen os ws n s.1 e t

-- ---- patches that are sent

due : (d : Decision) → is_due d ≡ true → IsDue d
due Apply h = absurd (true≢false (sym h))
due (Cleanup i) h = tt
due AddFirst h = tt
due AddMore h = tt
due Nothing h = absurd (true≢false (sym h))
due Unnamed h = absurd (true≢false (sym h))

sent-more : (name : List ℕ) (ds : List Decided) (vs : List (Vec Patch Global)) (ns : List ℕ) (v : Vec Patch Global) (n : ℕ) → AreSent name ds vs ns → IsPatchOf name (map operation_of v.items) (slice_get ds n)
    → AreSent name ds (vs ++ v ∷ []) (ns ++ n ∷ [])
sent-more name ds [] [] v n h k = (k, tt)
sent-more name ds [] (m ∷ ns) v n h k = absurd h
sent-more name ds (w ∷ vs) [] v n h k = absurd h
sent-more name ds (w ∷ vs) (m ∷ ns) v n h k = (h.0, sent-more name ds vs ns v n h.1 k)

made-patch : (name : List ℕ) (ms : List Made) (ds : List Decided) (n : ℕ) (m : Made) (os : List Operation) → AreMade name ms ds → slice_get ms n ≡ Some m
    → ((d : Decided) → IsMadeAs name m d → IsDue d.decision → IsPatchOf name os (Some d)) → is_made is_due (slice_get ds n) ≡ true → IsPatchOf name os (slice_get ds n)
made-patch name [] ds n m os h e f t = absurd (some-no m (sym e))
made-patch name (k ∷ ms) [] n m os h e f t = absurd h
made-patch name (k ∷ ms) (d ∷ ds) zero m os h e f t = f d (subst (λ x. IsMadeAs name x d) (some-same k m e) h.0) (due d.decision t)
made-patch name (k ∷ ms) (d ∷ ds) (suc n) m os h e f t = made-patch name ms ds n m os h.1 e f t

pub patch-sent : (name : List ℕ) (ms : List Made) (ds : List Decided) (vs : List (Vec Patch Global)) (ns : List ℕ) (n : ℕ) (m : Made) (v : Vec Patch Global)
    → AreMade name ms ds → AreSent name ds vs ns → slice_get ms n ≡ Some m
    → ((d : Decided) → IsMadeAs name m d → IsDue d.decision → IsPatchOf name (map operation_of v.items) (Some d)) → is_made is_due (slice_get ds n) ≡ true
    → AreSent name ds (vs ++ v ∷ []) (ns ++ n ∷ [])
patch-sent name ms ds vs ns n m v h s e f t = sent-more name ds vs ns v n s (made-patch name ms ds n m (map operation_of v.items) h e f t)

pub none-made : (name : List ℕ) (ms : List Made) (ds : List Decided) (n : ℕ) → AreMade name ms ds → slice_get ms n ≡ None → is_made is_due (slice_get ds n) ≡ true → ⊥
none-made name [] [] n h e t = true≢false (sym t)
none-made name [] (d ∷ ds) n h e t = h
none-made name (k ∷ ms) [] n h e t = h
none-made name (k ∷ ms) (d ∷ ds) zero h e t = some-no k e
none-made name (k ∷ ms) (d ∷ ds) (suc n) h e t = none-made name ms ds n h.1 e t

-- the patch that arrives
pub sent-there : (name : List ℕ) (ds : List Decided) (vs : List (Vec Patch Global)) (ns : List ℕ) (n : ℕ) (v : Vec Patch Global) → AreSent name ds vs ns → slice_get vs n ≡ Some v
    → (m : ℕ) × (slice_get ns n ≡ Some m) × IsPatchOf name (map operation_of v.items) (slice_get ds m)
sent-there name ds [] ns n v h e = absurd (some-no v (sym e))
sent-there name ds (w ∷ vs) [] n v h e = absurd h
sent-there name ds (w ∷ vs) (m ∷ ns) zero v h e = (m, refl, subst (λ x. IsPatchOf name (map operation_of x.items) (slice_get ds m)) (some-same w v e) h.0)
sent-there name ds (w ∷ vs) (m ∷ ns) (suc n) v h e = sent-there name ds vs ns n v h.1 e

pub none-sent : (name : List ℕ) (ds : List Decided) (vs : List (Vec Patch Global)) (ns : List ℕ) (n : ℕ) → AreSent name ds vs ns → slice_get vs n ≡ None → n < length ns → ⊥
none-sent name ds [] [] n h e t = omega (arith, t)
none-sent name ds [] (m ∷ ns) n h e t = h
none-sent name ds (w ∷ vs) [] n h e t = h
none-sent name ds (w ∷ vs) (m ∷ ns) zero h e t = some-no w e
none-sent name ds (w ∷ vs) (m ∷ ns) (suc n) h e t = none-sent name ds vs ns n h.1 e (omega (arith, t))

-- ---- patches are short

due-short : (name : List ℕ) (seen : List (List ℕ)) (d : Decision) → length (patch_on name seen d) ≤ 2
due-short name seen Apply = omega arith
due-short name seen (Cleanup i) = omega arith
due-short name seen AddFirst = omega arith
due-short name seen AddMore = omega arith
due-short name seen Nothing = omega arith
due-short name seen Unnamed = omega arith

patch-short : (name : List ℕ) (os : List Operation) (o : Option Decided) → IsPatchOf name os o → length os ≤ 2
patch-short name os None h = absurd h
patch-short name os (Some d) h = subst (λ x. length x ≤ 2) (sym h.0) (due-short name d.seen d.decision)

pub sent-short : (name : List ℕ) (ds : List Decided) (vs : List (Vec Patch Global)) (ns : List ℕ) → AreSent name ds vs ns → AreShort vs
sent-short name ds [] [] h = tt
sent-short name ds [] (n ∷ ns) h = absurd h
sent-short name ds (v ∷ vs) [] h = absurd h
sent-short name ds (v ∷ vs) (n ∷ ns) h =
    let few = patch-short name (map operation_of v.items) (slice_get ds n) h.0 in
    (omega (arith, few, length-map v.items operation_of), sent-short name ds vs ns h.1)

pub short-there : (vs : List (Vec Patch Global)) (n : ℕ) (v : Vec Patch Global) → AreShort vs → slice_get vs n ≡ Some v → length v.items < 2 ^ 32
short-there [] n v h e = absurd (some-no v (sym e))
short-there (w ∷ vs) zero v h e = subst (λ x. length x.items < 2 ^ 32) (some-same w v e) h.0
short-there (w ∷ vs) (suc n) v h e = short-there vs n v h.1 e

-- ---- one step more

pub both : (a b : Bool) → (a && b) ≡ true → (a ≡ true) × (b ≡ true)
both true b h = (refl, h)
both false b h = absurd (true≢false (sym h))

pub sights-more : (os : List (Option (Arc DynamicObject Global))) (states : List LifeState) (o : Option (Arc DynamicObject Global)) (w : LifeState) → AreSights os states → IsSight o w → AreSights (os ++ o ∷ []) (states ++ w ∷ [])
sights-more [] [] o w s k = (k, tt)
sights-more [] (v ∷ vs) o w s k = absurd s
sights-more (n ∷ os) [] o w s k = absurd s
sights-more (n ∷ os) (v ∷ vs) o w s k = (s.0, sights-more os vs o w s.1 k)

-- decisions that are made later change no patch
patch-later : (name : List ℕ) (os : List Operation) (ds es : List Decided) (n : ℕ) → IsPatchOf name os (slice_get ds n) → IsPatchOf name os (slice_get (ds ++ es) n)
patch-later name os [] es n h = absurd h
patch-later name os (d ∷ ds) es zero h = h
patch-later name os (d ∷ ds) es (suc n) h = patch-later name os ds es n h

sent-later : (name : List ℕ) (ds es : List Decided) (vs : List (Vec Patch Global)) (ns : List ℕ) → AreSent name ds vs ns → AreSent name (ds ++ es) vs ns
sent-later name ds es [] [] h = tt
sent-later name ds es [] (n ∷ ns) h = absurd h
sent-later name ds es (v ∷ vs) [] h = absurd h
sent-later name ds es (v ∷ vs) (n ∷ ns) h = (patch-later name (map operation_of v.items) ds es n h.0, sent-later name ds es vs ns h.1)

pub sent-decided : (name : List ℕ) (o : Option LifeState) (ds : List Decided) (vs : List (Vec Patch Global)) (ns : List ℕ) → AreSent name ds vs ns → AreSent name (with_decision name o ds) vs (ns ++ [])
sent-decided name None ds vs ns h = subst (λ l. AreSent name ds vs l) (sym (append-nil ns)) h
sent-decided name (Some w) ds vs ns h = subst (λ l. AreSent name (ds ++ decided_on name w ∷ []) vs l) (sym (append-nil ns)) (sent-later name ds (decided_on name w ∷ []) vs ns h)

-- ---- a patch arrives

arrived-by : (new : ServerState) (r : Reference) (name : List ℕ) (state : LifeState) (os : List Operation) (o : Option Decided) → IsPatchOf name os o
    → ((d : Decided) → IsPatchOf name os (Some d) → Serves new r (arrived name state (Some d))) → Serves new r (arrived name state o)
arrived-by new r name state os None k f = absurd k
arrived-by new r name state os (Some d) k f = f d k

pub arrived-as : (new : ServerState) (r : Reference) (name : List ℕ) (p : Past) (os : List Operation) (n m : ℕ) → slice_get p.sent n ≡ Some m → IsPatchOf name os (slice_get p.decisions m)
    → ((d : Decided) → IsPatchOf name os (Some d) → Serves new r (arrived name p.current (Some d))) → Serves new r (state_after name p (Arrive n))
arrived-as new r name p os n m e k f = rw e (arrived-by new r name p.current os (slice_get p.decisions m) k f)

less : (a b : ℕ) → nat_lt a b ≡ true → a < b
less a b h = grind (arith, nat_tests)

pub none-arrives : (name : List ℕ) (p : Past) (vs : List (Vec Patch Global)) (n : ℕ) → AreSent name p.decisions vs p.sent → slice_get vs n ≡ None → nat_lt n (length p.sent) ≡ true → ⊥
none-arrives name p vs n h e t = none-sent name p.decisions vs p.sent n h e (less n (length p.sent) t)

-- ---- a step is taken

-- the server was asked, then decisions and patches were kept, and then the object was seen
pub stage-taken : (old acted noted : Stage) (seen : Vec (Option (Arc DynamicObject Global)) Global) (o : Option (Arc DynamicObject Global)) (p : Past) (step : LifeStep)
    → acted ≡ record old { server = acted.server } → noted ≡ record acted { decisions = noted.decisions; sent = noted.sent } → seen.items ≡ noted.seen.items ++ o ∷ []
    → IsStage old.name old p → may_follow old.name p step ≡ true
    → ((p : Past) → IsStage old.name old p → may_follow old.name p step ≡ true → Serves acted.server (stage_reference old) (state_after old.name p step))
    → ((p : Past) → IsKept acted.name acted p → may_follow acted.name p step ≡ true → AreMade acted.name noted.decisions.items (decisions_after acted.name p step))
    → ((p : Past) → IsKept acted.name acted p → may_follow acted.name p step ≡ true → AreSent acted.name (decisions_after acted.name p step) noted.sent.items (p.sent ++ sent_by step))
    → ((state : LifeState) → Serves noted.server (stage_reference noted) state → IsSight o state)
    → IsStage old.name (record noted { seen = seen }) (after old.name p step)
stage-taken old acted noted seen o p step a n more h m serves made sent sight =
    let named : acted.name ≡ old.name = ap (λ s. s.name) a in
    let before : IsKept old.name (record old { server = acted.server }) p = record { sights = h.kept.sights; made = h.kept.made; sent = h.kept.sent } in
    let kept : IsKept acted.name acted p = subst (λ s. IsKept s.name s p) (sym a) before in
    let follows : may_follow acted.name p step ≡ true = subst (λ x. may_follow x p step ≡ true) (sym named) m in
    let state = state_after old.name p step in
    let same-server : noted.server ≡ acted.server = ap (λ s. s.server) n in
    let same-key : noted.key ≡ old.key = ap (λ s. s.key) n ∙ ap (λ s. s.key) a in
    let same-reference : stage_reference noted ≡ stage_reference old = ap (λ k. dynamic_reference k) same-key in
    let same-seen : noted.seen.items ≡ old.seen.items = ap (λ s. s.seen.items) n ∙ ap (λ s. s.seen.items) a in
    let served : Serves noted.server (stage_reference noted) state = subst (λ r. Serves noted.server r state) (sym same-reference) (subst (λ s. Serves s (stage_reference old) state) (sym same-server) (serves p h m)) in
    record {
      serves = served;
      kept = record {
        sights = subst (λ os. AreSights os ((p.before ++ p.current ∷ []) ++ state ∷ [])) (sym (more ∙ ap (λ os. os ++ o ∷ []) same-seen))
            (sights-more old.seen.items (p.before ++ p.current ∷ []) o state h.kept.sights (sight state served));
        made = subst (λ x. AreMade x noted.decisions.items (decisions_after x p step)) named (made p kept follows);
        sent = subst (λ x. AreSent x (decisions_after x p step) noted.sent.items (p.sent ++ sent_by step)) named (sent p kept follows);
      };
    }

-- ---- the whole life

-- after so many steps the stage stands for a past that the rest may follow, and that comes with it to the whole
pub record IsPlayed (name : List ℕ) (life : List LifeStep) (i : ℕ) (s : Stage) : Type 0 where
  pub past : Past
  pub named : s.name ≡ name
  pub stage : IsStage name s past
  pub rest : is_life_from name past (drop i life) ≡ true
  pub comes : fold (after name) past (drop i life) ≡ past_of name life
  pub upto : past ≡ past_of name (take i life)

pub taken-more : {A : Type 0} (i : ℕ) (xs : List A) (x : A) → drop i xs ≡ x ∷ drop (suc i) xs → take (suc i) xs ≡ take i xs ++ x ∷ []
taken-more zero [] x e = absurd cc
taken-more zero (y ∷ ys) x e = ap (take 1) e
taken-more (suc i) [] x e = absurd cc
taken-more (suc i) (y ∷ ys) x e = ap (λ zs. y ∷ zs) (taken-more i ys x e)

pub played-step : (name : List ℕ) (life : List LifeStep) (i : ℕ) (s t : Stage) (step : LifeStep) → IsPlayed name life i s → drop i life ≡ step ∷ drop (suc i) life → t.name ≡ s.name
    → ((p : Past) → IsStage s.name s p → may_follow s.name p step ≡ true → IsStage s.name t (after s.name p step)) → IsPlayed name life (suc i) t
played-step name life i s t step h e n f =
    let goes : (p : Past) → IsStage name s p → may_follow name p step ≡ true → IsStage name t (after name p step) =
    subst (λ m. (p : Past) → IsStage m s p → may_follow m p step ≡ true → IsStage m t (after m p step)) h.named f in
    let rest : is_life_from name h.past (step ∷ drop (suc i) life) ≡ true = subst (λ l. is_life_from name h.past l ≡ true) e h.rest in
    let parts = both (may_follow name h.past step) (is_life_from name (after name h.past step) (drop (suc i) life)) rest in
    record {
      past = after name h.past step;
      named = n ∙ h.named;
      stage = goes h.past h.stage parts.0;
      rest = parts.1;
      comes = sym (ap (fold (after name) h.past) e) ∙ h.comes;
      upto = ap (λ q. after name q step) h.upto ∙ sym (fold-append (after name) beginning (take i life) (step ∷ [])) ∙ ap (past_of name) (sym (taken-more i life step e));
    }

pub played-next : (name : List ℕ) (life : List LifeStep) (i j : ℕ) (s t : Stage) (step : LifeStep) → j ≡ suc i → IsPlayed name life i s → drop i life ≡ step ∷ drop (suc i) life → t.name ≡ s.name
    → ((p : Past) → IsStage s.name s p → may_follow s.name p step ≡ true → IsStage s.name t (after s.name p step)) → IsPlayed name life j t
played-next name life i j s t step next h e n f = subst (λ k. IsPlayed name life k t) (sym next) (played-step name life i s t step h e n f)

pub played-end : (name : List ℕ) (life : List LifeStep) (i : ℕ) (s : Stage) → IsPlayed name life i s → length life ≤ i → Serves s.server (stage_reference s) (past_of name life).current
played-end name life i s h e =
    let whole : h.past ≡ past_of name life = sym (ap (fold (after name) h.past) (drop_all i life e)) ∙ h.comes in
    subst (λ p. Serves s.server (stage_reference s) p.current) whole h.stage.serves
