-- The claim of a candidate is one that it observed.
use Rattle.std.proofs.Common.{◌≡◌, ◌⊎◌, inl, inr, ℕ, suc, ◌<◌, ◌==◌, Bool, true, false, cond, List, [], ◌∷◌, ◌++◌, Option, Some, None, is_some, option_map, slice_get, unwrap_or, refl, sym, ap, ◌∙◌, true≢false, arith}
use Rattle.std.proofs.lemmas.Bool.{eqb-true, ltb-true}
use Rattle.std.proofs.lemmas.Slice.Eq.{bytes_eq-Decides}
use Rattle.kube_lease.specs.declared.candidate.Claim.{Claim}
use Rattle.kube_lease.specs.declared.election.Entrant.{Entrant}
use Rattle.kube_lease.specs.declared.election.LeaseStep.{LeaseStep}
use Rattle.kube_lease.specs.Candidates.{Standing, claim_after, claim_on, greater, is_above, may_act_at}
use Rattle.kube_lease.specs.Elections.{AreEntrants, IsClaim, Past, is_election, past_of}
use Rattle.kube_lease.specs.Leases.{Lease, is_holder}
use Rattle.kube_lease.specs.Played.{candidates_after, claim_among, standing_after}
use Rattle.kube_lease.proofs.ElectionLaws.{one_acts}
use Rattle.kube_lease.proofs.Standings.{standing_at}

some-no : {A : Type 0} (a : A) → Some a ≡ None → ⊥
some-no a e = true≢false (ap is_some e)

some-same : {A : Type 0} (a b : A) → Some a ≡ Some b → a ≡ b
some-same a b e = ap (λ o. unwrap_or o a) e

-- a lease of this holder was observed under a number, which is this claim
record IsAmong (id : List ℕ) (c : ℕ) (os : List (ℕ × Lease)) (k : Claim) : Type 0 where
  place : ℕ
  lease : Lease
  observed : slice_get os place ≡ Some (c, lease)
  held : lease.holder ≡ id
  is : claim_on lease ≡ k

among_later : (id : List ℕ) (c : ℕ) (o : ℕ × Lease) (os : List (ℕ × Lease)) (k : Claim) → IsAmong id c os k → IsAmong id c (o ∷ os) k
among_later id c o os k h = record { place = suc h.place; lease = h.lease; observed = h.observed; held = h.held; is = h.is }

among_first : (id : List ℕ) (c : ℕ) (o : ℕ × Lease) (os : List (ℕ × Lease)) (k : Claim) → (o.0 == c) ≡ true → is_holder id o.1 ≡ true → claim_on o.1 ≡ k → IsAmong id c (o ∷ os) k
among_first id c o os k n h e =
    let number : o.0 ≡ c = eqb-true o.0 c n in
    record {
      place = 0;
      lease = o.1;
      observed = ap (λ i. Some (i, o.1)) number;
      held = (bytes_eq-Decides o.1.holder id).0 h;
      is = e;
    }

-- the greater of two is one of them
greater_is : (b : Bool) (x y k : Claim) → cond b x y ≡ k → (x ≡ k) ⊎ (y ≡ k)
greater_is true x y k e = inl e
greater_is false x y k e = inr e

among_greater : (id : List ℕ) (c : ℕ) (o : ℕ × Lease) (os : List (ℕ × Lease)) (rest : Option Claim) (k : Claim) → (o.0 == c) ≡ true → is_holder id o.1 ≡ true
    → ((j : Claim) → rest ≡ Some j → IsAmong id c os j) → greater rest (claim_on o.1) ≡ k → IsAmong id c (o ∷ os) k
among_greater id c o os None k n h f e = among_first id c o os k n h e
among_greater id c o os (Some a) k n h f e = by (greater_is (is_above a (claim_on o.1)) a (claim_on o.1) k e) where
  by : (a ≡ k) ⊎ (claim_on o.1 ≡ k) → IsAmong id c (o ∷ os) k
  by (inl same) = among_later id c o os k (f k (ap (λ j. Some j) same))
  by (inr same) = among_first id c o os k n h same

among_held : (id : List ℕ) (c : ℕ) (o : ℕ × Lease) (os : List (ℕ × Lease)) (rest : Option Claim) (k : Claim) (b : Bool) → (o.0 == c) ≡ true → is_holder id o.1 ≡ b
    → ((j : Claim) → rest ≡ Some j → IsAmong id c os j) → cond b (Some (greater rest (claim_on o.1))) rest ≡ Some k → IsAmong id c (o ∷ os) k
among_held id c o os rest k true n h f e = among_greater id c o os rest k n h f (some-same (greater rest (claim_on o.1)) k e)
among_held id c o os rest k false n h f e = among_later id c o os k (f k e)

among_own : (id : List ℕ) (c : ℕ) (o : ℕ × Lease) (os : List (ℕ × Lease)) (rest : Option Claim) (k : Claim) (b : Bool) → (o.0 == c) ≡ b
    → ((j : Claim) → rest ≡ Some j → IsAmong id c os j) → cond b (claim_after id o.1 rest) rest ≡ Some k → IsAmong id c (o ∷ os) k
among_own id c o os rest k true n f e = among_held id c o os rest k (is_holder id o.1) n refl f e
among_own id c o os rest k false n f e = among_later id c o os k (f k e)

among : (id : List ℕ) (c : ℕ) (os : List (ℕ × Lease)) (k : Claim) → claim_among id c os ≡ Some k → IsAmong id c os k
among id c [] k e = absurd (some-no k (sym e))
among id c (o ∷ os) k e = among_own id c o os (claim_among id c os) k (o.0 == c) refl (λ j h. among id c os j h) e

claim_is : (es : List Entrant) (p : Past) (c : ℕ) (e : Entrant) (k : Claim) → slice_get es c ≡ Some e → claim_among e.id c p.observed ≡ Some k → IsClaim es p c k.term k.until
claim_is es p c e k there h =
    let w = among e.id c p.observed k h in
    record {
      entrant = e;
      place = w.place;
      lease = w.lease;
      is_entrant = there;
      observed = w.observed;
      held = w.held;
      in_term = ap (λ (j : Claim). j.term) w.is;
      lasts = ap (λ (j : Claim). j.until) w.is;
    }

-- a candidate that may act has a claim that lasts
record Leads (es : List Entrant) (p : Past) (c : ℕ) : Type 0 where
  term : ℕ
  until : ℕ
  claim : IsClaim es p c term until
  lasts : p.now < until

leads_by : (es : List Entrant) (p : Past) (c : ℕ) (e : Entrant) (o : Option Claim) → slice_get es c ≡ Some e → claim_among e.id c p.observed ≡ o → may_act_at o p.now ≡ true → Leads es p c
leads_by es p c e None there h acts = absurd (true≢false (sym acts))
leads_by es p c e (Some k) there h acts = record { term = k.term; until = k.until; claim = claim_is es p c e k there h; lasts = ltb-true p.now k.until acts }

leads_at : (es : List Entrant) (p : Past) (c : ℕ) (s : Standing) (o : Option Entrant) → slice_get es c ≡ o → option_map (λ e. standing_after c e p.observed) o ≡ Some s → may_act_at s.claim p.now ≡ true → Leads es p c
leads_at es p c s None there h acts = absurd (some-no s (sym h))
leads_at es p c s (Some e) there h acts =
    let same : standing_after c e p.observed ≡ s = some-same (standing_after c e p.observed) s h in
    leads_by es p c e s.claim there (ap (λ (t : Standing). t.claim) same) acts

leads : (es : List Entrant) (p : Past) (c : ℕ) (s : Standing) → slice_get (candidates_after es p) c ≡ Some s → may_act_at s.claim p.now ≡ true → Leads es p c
leads es p c s h acts = leads_at es p c s (slice_get es c) refl (sym (standing_at 0 c c es p.observed (omega arith)) ∙ h) acts

pub one_leads_alone : (es : List Entrant) (election front back : List LeaseStep) → AreEntrants es → is_election es election ≡ true → election ≡ front ++ back → (c d : ℕ) (s t : Standing)
    → slice_get (candidates_after es (past_of es front)) c ≡ Some s → slice_get (candidates_after es (past_of es front)) d ≡ Some t
    → may_act_at s.claim (past_of es front).now ≡ true → may_act_at t.claim (past_of es front).now ≡ true → c ≡ d
one_leads_alone es election front back a valid parts c d s t x y f g =
    let p = past_of es front in
    let i = leads es p c s x f in
    let j = leads es p d t y g in
    one_acts es election front back a valid parts c d i.term j.term i.until j.until i.claim j.claim i.lasts j.lasts
