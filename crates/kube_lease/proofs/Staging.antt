-- What a stage holds of an election, step by step.
use Rattle.std.proofs.Common.{◌≡◌, ◌⊎◌, inl, inr, ℕ, zero, suc, ◌+◌, ◌-◌, ◌^◌, ◌<◌, ◌≤◌, ◌==◌, nat_lt, min, Bool, true, false, cond, List, [], ◌∷◌, ◌++◌, length, get_or, take, drop, map, find, fold, slice_get, Option, Some, None, is_some, unwrap_or, refl, sym, ap, subst, ◌∙◌, true≢false, arith}
use Rattle.std.proofs.lemmas.Bool.{ltb-true}
use Rattle.std.proofs.lemmas.List.{drop_all, length-map, map-append, take_all}
use Rattle.std.proofs.lemmas.List.Sums.{fold-append}
use Rattle.std.specs.Arc.{arc_value}
use Rattle.std.specs.declared.alloc.Global.{Global}
use Rattle.std.specs.declared.sync.Arc.{Arc}
use Rattle.std.specs.declared.vec.Vec.{Vec}
use Rattle.kube_meta.specs.declared.dynamic.DynamicObject.{DynamicObject}
use Rattle.kube_meta.specs.declared.moment.Moment.{Moment}
use Rattle.kube_meta.specs.Reading.{seen_object}
use Rattle.kube_meta.specs.Reference.{Reference}
use Rattle.kube_api.specs.declared.patch.Patch.{Patch}
use Rattle.kube_api.specs.Patches.{Operation, operation_of}
use Rattle.kube_server.specs.Servers.{ServerState}
use Rattle.kube_lease.specs.declared.election.Entrant.{Entrant}
use Rattle.kube_lease.specs.declared.election.LeaseStep.{LeaseStep}
use Rattle.kube_lease.specs.declared.election.LeaseStep.TheVariants.{Tick, Observe, Send, Arrive, Reply}
use Rattle.kube_lease.specs.declared.play.Made.{Made}
use Rattle.kube_lease.specs.declared.play.Outbox.{Outbox}
use Rattle.kube_lease.specs.declared.play.Stage.{Stage}
use Rattle.kube_lease.specs.Candidates.{Standing}
use Rattle.kube_lease.specs.Elections.{Past, Sent, after, arrived, beginning, changed, is_by, is_election_from, leases, may_follow, observed_by, passes, past_of, sent_by, under}
use Rattle.kube_lease.specs.Leases.{Lease}
use Rattle.kube_lease.specs.Played.{IsArrivalAsked, IsPlayedOn, IsSeenAs, IsStepAsked, AreAsked, operations_by, operations_of}
use Rattle.kube_lease.specs.Staging.{AreMade, AreShort, AreSights, HasOneMore, IsAnswered, IsDelivered, IsSmall, IsStage, Serves, observed_at, patches_for, patches_in, stage_reference}
use Rattle.kube_lease.proofs.ElectionLaws.{and_parts, last-there, under_there}
use Rattle.kube_lease.proofs.RegularPasts.{changed_regular, more_observed, regular_after}
use Rattle.kube_lease.proofs.Serving.{arrived-so}
use Rattle.kube_lease.proofs.Standings.{one_observes, one_sends}

some-no : {A : Type 0} (a : A) → Some a ≡ None → ⊥
some-no a e = true≢false (ap is_some e)

some-same : {A : Type 0} (a b : A) → Some a ≡ Some b → a ≡ b
some-same a b e = ap (λ o. unwrap_or o a) e

-- ---- the moment

pub tick_stage : (es : List Entrant) (s : Stage) (p : Past) (by : ℕ) (now : Moment) → IsStage es s p → may_follow es p (Tick by) ≡ true → now.0 ≡ min (s.now.0 + by) (2 ^ 64 - 1)
    → IsStage es (record s { now = now }) (after es p (Tick by))
tick_stage es s p by now h m e =
    let known : s.now.0 ≡ p.now = h.now in
    let fits : p.now + by < 2 ^ 64 = ltb-true (p.now + by) (2 ^ 64) m in
    let later : now.0 ≡ p.now + by = omega (arith, known, fits, e) in
    record {
      now = later;
      serves = h.serves;
      sights = h.sights;
      candidates = h.candidates;
      sent = h.sent;
      made = h.made;
      regular = regular_after es p (Tick by) h.regular;
    }

-- ---- a candidate observes

pub observe_stage : (es : List Entrant) (s : Stage) (p : Past) (c : ℕ) (l : Lease) (candidates : Vec Standing Global) → IsStage es s p → IsSmall l
    → candidates.items ≡ observed_at c l s.candidates.items → IsStage es (record s { candidates = candidates }) (record p { observed = (c, l) ∷ p.observed })
observe_stage es s p c l candidates h small e = record {
  now = h.now;
  serves = h.serves;
  sights = h.sights;
  candidates = e ∙ ap (observed_at c l) h.candidates ∙ sym (one_observes c es l p.observed);
  sent = h.sent;
  made = h.made;
  regular = more_observed p c l small h.regular;
}

observe_by : (es : List Entrant) (t : Stage) (p : Past) (c : ℕ) (o : Option Lease) (l : Lease) → o ≡ Some l → IsStage es t (record p { observed = (c, l) ∷ p.observed }) → IsStage es t (record p { observed = observed_by c o p.observed })
observe_by es t p c o l e h = subst (λ (x : Option Lease). IsStage es t (record p { observed = observed_by c x p.observed })) (sym e) h

-- ---- a state

sight_there : (os : List (Arc DynamicObject Global)) (ls : List Lease) (n : ℕ) (a : Arc DynamicObject Global) → AreSights os ls → slice_get os n ≡ Some a → (l : Lease) × (slice_get ls n ≡ Some l) × IsSeenAs (seen_object (arc_value a)) l
sight_there [] ls n a h e = absurd (some-no a (sym e))
sight_there (o ∷ os) [] n a h e = absurd h
sight_there (o ∷ os) (l ∷ ls) zero a h e = (l, refl, subst (λ (x : Arc DynamicObject Global). IsSeenAs (seen_object (arc_value x)) l) (some-same o a e) h.0)
sight_there (o ∷ os) (l ∷ ls) (suc n) a h e = sight_there os ls n a h.1 e

none_there : (os : List (Arc DynamicObject Global)) (ls : List Lease) (n : ℕ) → AreSights os ls → slice_get os n ≡ None → n < length ls → ⊥
none_there [] [] n h e t = omega (arith, t)
none_there [] (l ∷ ls) n h e t = h
none_there (o ∷ os) [] n h e t = h
none_there (o ∷ os) (l ∷ ls) zero h e t = some-no o e
none_there (o ∷ os) (l ∷ ls) (suc n) h e t = none_there os ls n h.1 e (omega (arith, t))

-- the object of a state is a lease that is observed
pub state_stage : (es : List Entrant) (s t : Stage) (p : Past) (c n : ℕ) (a b : Arc DynamicObject Global) → IsStage es s p → slice_get s.seen.items n ≡ Some a → arc_value b ≡ arc_value a
    → ((l : Lease) → IsStage es s p → IsSeenAs (seen_object (arc_value b)) l → IsSmall l → IsStage es t (record p { observed = (c, l) ∷ p.observed }))
    → IsStage es t (after es p (Observe c n))
state_stage es s t p c n a b h e same f =
    let w = sight_there s.seen.items (leases p) n a h.sights e in
    let seen : IsSeenAs (seen_object (arc_value b)) w.0 = subst (λ (x : DynamicObject). IsSeenAs (seen_object x) w.0) (sym same) w.2 in
    observe_by es t p c (slice_get (leases p) n) w.0 w.1 (f w.0 h seen (h.regular.states n w.0 w.1))

pub no_state : (es : List Entrant) (s : Stage) (p : Past) (c n : ℕ) → IsStage es s p → slice_get s.seen.items n ≡ None → may_follow es p (Observe c n) ≡ true → ⊥
no_state es s p c n h e m =
    none_there s.seen.items (leases p) n h.sights e (ltb-true n (length (leases p)) (and_parts (nat_lt c (length es)) (nat_lt n (length (leases p))) m).1)

-- ---- a reply

found_by : (b : Bool) (m k : Made) (rest : Option Made) → cond b (Some k) rest ≡ Some m → ((b ≡ true) × (k ≡ m)) ⊎ ((b ≡ false) × (rest ≡ Some m))
found_by true m k rest e = inl (refl, some-same k m e)
found_by false m k rest e = inr (refl, e)

-- what is under a number is the lease of this object
abbrev IsMadeBy : ℕ → Made → List (ℕ × Lease) → Type 0
IsMadeBy n m xs = (l : Lease) × (under n xs ≡ Some l) × IsSeenAs (seen_object (arc_value m.object)) l

made_there : (ms : List Made) (xs : List (ℕ × Lease)) (n : ℕ) (m : Made) → AreMade ms xs → find (λ (k : Made). k.send == n) ms ≡ Some m → IsMadeBy n m xs
made_there [] xs n m h e = absurd (some-no m (sym e))
made_there (k ∷ ms) [] n m h e = absurd h
made_there (k ∷ ms) (x ∷ xs) n m h e = by (found_by (k.send == n) m k (find (λ (j : Made). j.send == n) ms) e) (λ t. made_there ms xs n m h.2 t) where
  by : (((k.send == n) ≡ true) × (k ≡ m)) ⊎ (((k.send == n) ≡ false) × (find (λ (j : Made). j.send == n) ms ≡ Some m)) → (find (λ (j : Made). j.send == n) ms ≡ Some m → IsMadeBy n m xs) → IsMadeBy n m (x ∷ xs)
  by (inl here) further =
      let numbered : (x.0 == n) ≡ true = sym (ap (λ i. i == n) h.0) ∙ here.0 in
      (x.1, ap (λ b. cond b (Some x.1) (under n xs)) numbered, subst (λ (j : Made). IsSeenAs (seen_object (arc_value j.object)) x.1) here.1 h.1)
  by (inr later) further =
      let numbered : (x.0 == n) ≡ false = sym (ap (λ i. i == n) h.0) ∙ later.0 in
      let w = further later.1 in
      (w.0, ap (λ b. cond b (Some x.1) (under n xs)) numbered ∙ w.1, w.2)

not_found : (b : Bool) (k : Made) (rest : Option Made) → cond b (Some k) rest ≡ None → (b ≡ false) × (rest ≡ None)
not_found true k rest e = absurd (some-no k e)
not_found false k rest e = (refl, e)

none_made : (ms : List Made) (xs : List (ℕ × Lease)) (n : ℕ) → AreMade ms xs → find (λ (k : Made). k.send == n) ms ≡ None → under n xs ≡ None
none_made [] [] n h e = refl
none_made [] (x ∷ xs) n h e = absurd h
none_made (k ∷ ms) [] n h e = absurd h
none_made (k ∷ ms) (x ∷ xs) n h e =
    let w = not_found (k.send == n) k (find (λ (j : Made). j.send == n) ms) e in
    let numbered : (x.0 == n) ≡ false = sym (ap (λ i. i == n) h.0) ∙ w.0 in
    ap (λ b. cond b (Some x.1) (under n xs)) numbered ∙ none_made ms xs n h.2 w.1

-- what a patch made is observed
pub reply_stage : (es : List Entrant) (s t : Stage) (p : Past) (c n : ℕ) (m : Made) (b : Arc DynamicObject Global) → IsStage es s p → find (λ (k : Made). k.send == n) s.made.items ≡ Some m → arc_value b ≡ arc_value m.object
    → ((l : Lease) → IsStage es s p → IsSeenAs (seen_object (arc_value b)) l → IsSmall l → IsStage es t (record p { observed = (c, l) ∷ p.observed }))
    → IsStage es t (after es p (Reply c n))
reply_stage es s t p c n m b h e same f =
    let w = made_there s.made.items p.made n m h.made e in
    let seen : IsSeenAs (seen_object (arc_value b)) w.0 = subst (λ (x : DynamicObject). IsSeenAs (seen_object x) w.0) (sym same) w.2 in
    let found = under_there n p.made w.0 w.1 in
    observe_by es t p c (under n p.made) w.0 w.1 (f w.0 h seen (h.regular.made found.0 found.1 w.0 found.2))

pub no_reply : (es : List Entrant) (s : Stage) (p : Past) (c n : ℕ) → IsStage es s p → find (λ (k : Made). k.send == n) s.made.items ≡ None → may_follow es p (Reply c n) ≡ true → ⊥
no_reply es s p c n h e m =
    let there : is_some (under n p.made) ≡ true = (and_parts (is_by c (slice_get p.sent n)) (is_some (under n p.made)) m).1 in
    true≢false (sym there ∙ ap is_some (none_made s.made.items p.made n h.made e))

-- ---- a send

pub send_stage : (es : List Entrant) (s : Stage) (p : Past) (c : ℕ) (candidates : Vec Standing Global) (outbox : Outbox) → IsStage es s p → candidates.items ≡ s.candidates.items
    → patches_in outbox ≡ patches_in s.outbox ++ patches_for s.now.0 (slice_get s.candidates.items c) → IsStage es (record s { candidates = candidates; outbox = outbox }) (after es p (Send c))
send_stage es s p c candidates outbox h e f = record {
  now = h.now;
  serves = h.serves;
  sights = h.sights;
  candidates = e ∙ h.candidates;
  sent = f
      ∙ ap (λ xs. xs ++ patches_for s.now.0 (slice_get s.candidates.items c)) h.sent
      ∙ ap (λ now. map operations_of p.sent ++ patches_for now (slice_get s.candidates.items c)) h.now
      ∙ ap (λ ss. map operations_of p.sent ++ patches_for p.now (slice_get ss c)) h.candidates
      ∙ ap (λ xs. map operations_of p.sent ++ xs) (sym (one_sends p c es))
      ∙ sym (map-append operations_of p.sent (sent_by p c (slice_get es c)));
  made = h.made;
  regular = regular_after es p (Send c) h.regular;
}

-- ---- a patch arrives

abbrev patches_of : List (Vec Patch Global) → List (List Operation)
patches_of vs = map (λ v. map operation_of v.items) vs

-- the patch that was sent
pub sent_there : (vs : List (Vec Patch Global)) (ss : List Sent) (n : ℕ) (v : Vec Patch Global) → patches_of vs ≡ map operations_of ss → slice_get vs n ≡ Some v
    → (x : Sent) × (slice_get ss n ≡ Some x) × (map operation_of v.items ≡ operations_of x)
sent_there [] ss n v h e = absurd (some-no v (sym e))
sent_there (w ∷ vs) [] n v h e = absurd (let none : suc (length (patches_of vs)) ≡ 0 = ap length h in omega (arith, none))
sent_there (w ∷ vs) (x ∷ ss) zero v h e =
    let same : map operation_of w.items ≡ operations_of x = ap (λ l. get_or l 0 []) h in
    (x, refl, subst (λ (u : Vec Patch Global). map operation_of u.items ≡ operations_of x) (some-same w v e) same)
sent_there (w ∷ vs) (x ∷ ss) (suc n) v h e = sent_there vs ss n v (ap (drop 1) h) e

none_sent : (vs : List (Vec Patch Global)) (ss : List Sent) (n : ℕ) → patches_of vs ≡ map operations_of ss → slice_get vs n ≡ None → n < length ss → ⊥
none_sent vs [] n h e t = omega (arith, t)
none_sent [] (x ∷ ss) n h e t = let none : 0 ≡ suc (length (map operations_of ss)) = ap length h in omega (arith, none)
none_sent (w ∷ vs) (x ∷ ss) zero h e t = some-no w e
none_sent (w ∷ vs) (x ∷ ss) (suc n) h e t = none_sent vs ss n (ap (drop 1) h) e (omega (arith, t))

pub no_arrival : (es : List Entrant) (s : Stage) (p : Past) (n : ℕ) → IsStage es s p → slice_get s.outbox.sent.items n ≡ None → may_follow es p (Arrive n) ≡ true → ⊥
no_arrival es s p n h e m = none_sent s.outbox.sent.items p.sent n h.sent e (ltb-true n (length p.sent) m)

-- what comes of a patch at its place
pub delivered : (es : List Entrant) (s : Stage) (p : Past) (n : ℕ) (v : Vec Patch Global) (server : ServerState) (made : Option (Arc DynamicObject Global)) → IsStage es s p → slice_get s.outbox.sent.items n ≡ Some v
    → IsAnswered s.server server s.now.0 (map operation_of v.items) made → IsDelivered p n s.server server (stage_reference s) made
delivered es s p n v server made h e a =
    let w = sent_there s.outbox.sent.items p.sent n v h.sent e in
    let current = last-there p.before p.current in
    let answered : IsAnswered s.server server s.now.0 (operations_of w.0) made = subst (λ os. IsAnswered s.server server s.now.0 os made) w.2 a in
    record {
      sent = w.0;
      is_sent = w.1;
      asked = subst (λ now. IsArrivalAsked now (Some w.0) s.server server) h.now (answered.answer, answered.move);
      arrived = arrived-so s.server server (stage_reference s) s.now.0 p.current w.0 made h.serves (h.regular.states current.0 p.current current.1) (h.regular.sent n w.0 w.1) answered;
    }

sights_more : (os : List (Arc DynamicObject Global)) (ls : List Lease) (o : Arc DynamicObject Global) (l : Lease) → AreSights os ls → IsSeenAs (seen_object (arc_value o)) l → AreSights (os ++ o ∷ []) (ls ++ l ∷ [])
sights_more [] [] o l h k = (k, tt)
sights_more [] (m ∷ ls) o l h k = absurd h
sights_more (a ∷ os) [] o l h k = absurd h
sights_more (a ∷ os) (m ∷ ls) o l h k = (h.0, sights_more os ls o l h.1 k)

made_more : (ms : List Made) (xs : List (ℕ × Lease)) (m : Made) (n : ℕ) (l : Lease) → AreMade ms xs → m.send ≡ n → IsSeenAs (seen_object (arc_value m.object)) l → AreMade (ms ++ m ∷ []) (xs ++ (n, l) ∷ [])
made_more [] [] m n l h e k = (e, k, tt)
made_more [] (x ∷ xs) m n l h e k = absurd h
made_more (j ∷ ms) [] m n l h e k = absurd h
made_more (j ∷ ms) (x ∷ xs) m n l h e k = (h.0, h.1, made_more ms xs m n l h.2 e k)

arrived_as : (es : List Entrant) (t : Stage) (p : Past) (n : ℕ) (x : Sent) (b : Bool) → slice_get p.sent n ≡ Some x → passes x p.current ≡ b → IsStage es t (cond b (changed p n x.makes) p) → IsStage es t (after es p (Arrive n))
arrived_as es t p n x b e f h =
    subst (λ (o : Option Sent). IsStage es t (arrived p n o)) (sym e) (subst (λ (c : Bool). IsStage es t (cond c (changed p n x.makes) p)) (sym f) h)

-- its tests don't pass
pub refused_stage : (es : List Entrant) (s : Stage) (p : Past) (n : ℕ) (server : ServerState) → IsStage es s p → IsDelivered p n s.server server (stage_reference s) None → IsStage es (record s { server = server }) (after es p (Arrive n))
refused_stage es s p n server h d =
    arrived_as es (record s { server = server }) p n d.sent false d.is_sent d.arrived.0
    (record { now = h.now; serves = d.arrived.1; sights = h.sights; candidates = h.candidates; sent = h.sent; made = h.made; regular = h.regular })

pub refused_by : (es : List Entrant) (s u : Stage) (p : Past) (n : ℕ) → IsStage es s p → IsDelivered p n s.server u.server (stage_reference s) None → u ≡ record s { server = u.server } → IsStage es u (after es p (Arrive n))
refused_by es s u p n h d rest = subst (λ (x : Stage). IsStage es x (after es p (Arrive n))) (sym rest) (refused_stage es s p n u.server h d)

-- it makes another lease
done_stage : (es : List Entrant) (s t : Stage) (p : Past) (n : ℕ) (object : Arc DynamicObject Global) (server : ServerState) → IsStage es s p → IsDelivered p n s.server server (stage_reference s) (Some object)
    → t ≡ record s { server = server; made = t.made; seen = t.seen } → t.made.items ≡ s.made.items ++ (record { send = n; object = object }) ∷ []
    → ((l : Lease) → Serves server (stage_reference s) l → HasOneMore s.seen.items t.seen.items l) → IsStage es t (after es p (Arrive n))
done_stage es s t p n object server h d rest made seen =
    let makes = d.sent.makes in
    let more = seen makes d.arrived.1 in
    let u : Stage = record s { server = server; made = t.made; seen = t.seen } in
    let stage : IsStage es u (changed p n makes) = record {
      now = h.now;
      serves = d.arrived.1;
      sights = subst (λ os. AreSights os (leases p ++ makes ∷ [])) (sym more.more) (sights_more s.seen.items (leases p) more.object makes h.sights more.seen);
      candidates = h.candidates;
      sent = h.sent;
      made = subst (λ ms. AreMade ms (p.made ++ (n, makes) ∷ [])) (sym made) (made_more s.made.items p.made (record { send = n; object = object }) n makes h.made refl d.arrived.2);
      regular = changed_regular p n makes (h.regular.sent n d.sent d.is_sent).1 h.regular;
    } in
    arrived_as es t p n d.sent true d.is_sent d.arrived.0 (subst (λ (x : Stage). IsStage es x (changed p n makes)) (sym rest) stage)

pub done_by : (es : List Entrant) (s u t : Stage) (p : Past) (n : ℕ) (object : Arc DynamicObject Global) → IsStage es s p → IsDelivered p n s.server u.server (stage_reference s) (Some object)
    → u ≡ record s { server = u.server } → t ≡ record u { made = t.made; seen = t.seen } → t.made.items ≡ u.made.items ++ (record { send = n; object = object }) ∷ []
    → ((l : Lease) → Serves u.server (stage_reference u) l → HasOneMore u.seen.items t.seen.items l) → IsStage es t (after es p (Arrive n))
done_by es s u t p n object h d first second made seen =
    let key : stage_reference u ≡ stage_reference s = ap (λ (x : Stage). stage_reference x) first in
    done_stage es s t p n object u.server h d
    (second ∙ ap (λ (x : Stage). record x { made = t.made; seen = t.seen }) first)
    (made ∙ ap (λ (x : Stage). x.made.items ++ (record { send = n; object = object }) ∷ []) first)
    (λ l held. subst (λ (x : Stage). HasOneMore x.seen.items t.seen.items l) first (seen l (subst (λ r. Serves u.server r l) (sym key) held)))

-- ---- patches are short

operations_short : (b : Bool) (x : Sent) → length (operations_by b x) < 2 ^ 32
operations_short true x = omega arith
operations_short false x = omega arith

all_short : (ss : List Sent) → AreShort (map operations_of ss)
all_short [] = tt
all_short (x ∷ ss) = (operations_short x.renews x, all_short ss)

pub sent_short : (es : List Entrant) (s : Stage) (p : Past) → IsStage es s p → AreShort (patches_in s.outbox)
sent_short es s p h = subst AreShort (sym h.sent) (all_short p.sent)

pub short_there : (vs : List (Vec Patch Global)) (n : ℕ) (v : Vec Patch Global) → AreShort (patches_of vs) → slice_get vs n ≡ Some v → length v.items < 2 ^ 32
short_there [] n v h e = absurd (some-no v (sym e))
short_there (w ∷ vs) zero v h e =
    let few : length (map operation_of w.items) < 2 ^ 32 = h.0 in
    let short : length w.items < 2 ^ 32 = omega (arith, few, length-map w.items operation_of) in
    subst (λ (u : Vec Patch Global). length u.items < 2 ^ 32) (some-same w v e) short
short_there (w ∷ vs) (suc n) v h e = short_there vs n v h.1 e

-- ---- what is asked

pub delivery_asked : (p : Past) (n : ℕ) (old new : ServerState) (r : Reference) (made : Option (Arc DynamicObject Global)) → IsDelivered p n old new r made → IsStepAsked p (Arrive n) old new
delivery_asked p n old new r made d = subst (λ (o : Option Sent). IsArrivalAsked p.now o old new) (sym d.is_sent) d.asked

asked_more : (es : List Entrant) (p : Past) (front : List LeaseStep) (step : LeaseStep) (old mid new : ServerState)
    → AreAsked es p front old mid → IsStepAsked (fold (after es) p front) step mid new → AreAsked es p (front ++ step ∷ []) old new
asked_more es p [] step old mid new h k = (new, subst (λ s. IsStepAsked p step s new) h k, refl)
asked_more es p (s ∷ front) step old mid new h k = (h.0, h.1, asked_more es (after es p s) front step h.0 mid new h.2 k)

-- ---- the whole election

-- after so many steps the stage stands for a past that the rest may follow, and that comes with it to the whole
pub record IsPlayed (es : List Entrant) (election : List LeaseStep) (i : ℕ) (s : Stage) : Type 0 where
  pub past : Past
  pub stage : IsStage es s past
  pub rest : is_election_from es past (drop i election) ≡ true
  pub comes : fold (after es) past (drop i election) ≡ past_of es election
  pub upto : past ≡ past_of es (take i election)
  pub asked : IsPlayedOn es (take i election) s.server

taken_more : {A : Type 0} (i : ℕ) (xs : List A) (x : A) → drop i xs ≡ x ∷ drop (suc i) xs → take (suc i) xs ≡ take i xs ++ x ∷ []
taken_more zero [] x e = absurd cc
taken_more zero (y ∷ ys) x e = ap (take 1) e
taken_more (suc i) [] x e = absurd cc
taken_more (suc i) (y ∷ ys) x e = ap (λ zs. y ∷ zs) (taken_more i ys x e)

-- what a step makes of a stage
abbrev pub Steps : Stage → LeaseStep → Stage → Type 0
Steps s step t = (es : List Entrant) (p : Past) → IsStage es s p → may_follow es p step ≡ true → IsStage es t (after es p step)

-- and what it asks
abbrev pub Asks : Stage → LeaseStep → Stage → Type 0
Asks s step t = (es : List Entrant) (p : Past) → IsStage es s p → may_follow es p step ≡ true → IsStepAsked p step s.server t.server

played_step : (es : List Entrant) (election : List LeaseStep) (i : ℕ) (s t : Stage) (step : LeaseStep) → IsPlayed es election i s → drop i election ≡ step ∷ drop (suc i) election → Steps s step t → Asks s step t
    → IsPlayed es election (suc i) t
played_step es election i s t step h e f g =
    let rest : is_election_from es h.past (step ∷ drop (suc i) election) ≡ true = subst (λ l. is_election_from es h.past l ≡ true) e h.rest in
    let parts = and_parts (may_follow es h.past step) (is_election_from es (after es h.past step) (drop (suc i) election)) rest in
    let more : take (suc i) election ≡ take i election ++ step ∷ [] = taken_more i election step e in
    let asks : IsStepAsked (past_of es (take i election)) step s.server t.server = subst (λ p. IsStepAsked p step s.server t.server) h.upto (g es h.past h.stage parts.0) in
    record {
      past = after es h.past step;
      stage = f es h.past h.stage parts.0;
      rest = parts.1;
      comes = sym (ap (fold (after es) h.past) e) ∙ h.comes;
      upto = ap (λ p. after es p step) h.upto ∙ sym (fold-append (after es) beginning (take i election) (step ∷ [])) ∙ ap (past_of es) (sym more);
      asked = record {
        kind = h.asked.kind;
        opened = h.asked.opened;
        put = h.asked.put;
        asked = subst (λ l. AreAsked es beginning l h.asked.opened t.server) (sym more) (asked_more es beginning (take i election) step h.asked.opened s.server t.server h.asked.asked asks);
      };
    }

pub played_next : (es : List Entrant) (election : List LeaseStep) (i j : ℕ) (s t : Stage) (step : LeaseStep) → j ≡ suc i → IsPlayed es election i s → drop i election ≡ step ∷ drop (suc i) election → Steps s step t → Asks s step t
    → IsPlayed es election j t
played_next es election i j s t step next h e f g = subst (λ k. IsPlayed es election k t) (sym next) (played_step es election i s t step h e f g)

pub played_end : (es : List Entrant) (election : List LeaseStep) (i : ℕ) (s : Stage) → IsPlayed es election i s → length election ≤ i → IsStage es s (past_of es election)
played_end es election i s h e =
    let whole : h.past ≡ past_of es election = sym (ap (fold (after es) h.past) (drop_all i election e)) ∙ h.comes in
    subst (λ p. IsStage es s p) whole h.stage

pub played_on : (es : List Entrant) (election : List LeaseStep) (i : ℕ) (s : Stage) → IsPlayed es election i s → length election ≤ i → IsPlayedOn es election s.server
played_on es election i s h e = subst (λ l. IsPlayedOn es l s.server) (take_all i election e) h.asked
