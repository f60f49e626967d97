-- A `u64` holds the numbers of each lease of an election, and each patch makes what its operations say.
use Rattle.std.proofs.Common.{◌≡◌, inl, inr, ℕ, zero, suc, ◌+◌, ◌-◌, ◌^◌, ◌<◌, ◌==◌, min, nat_lt, Bool, true, false, cond, List, [], ◌∷◌, Option, Some, None, slice_get, refl, sym, ap, subst, arith}
use Rattle.std.proofs.lemmas.Bool.{eqb-false}
use Rattle.kube_lease.specs.declared.election.Entrant.{Entrant}
use Rattle.kube_lease.specs.declared.election.LeaseStep.{LeaseStep}
use Rattle.kube_lease.specs.declared.election.LeaseStep.TheVariants.{Tick, Observe, Send, Arrive, Reply}
use Rattle.kube_lease.specs.Elections.{Past, Sent, after, arrived, beginning, changed, leases, observed_by, passes, sent_by, sent_for, sent_on, under}
use Rattle.kube_lease.specs.Leases.{Renew, Wait, LastTerm, Take, Lease, choice_of_holder, choice_of_other, end_of, is_holder, renewed, taken, unheld}
use Rattle.kube_lease.specs.Staging.{IsRegular, IsRegularSent, IsSmall}
use Rattle.kube_lease.proofs.ElectionLaws.{slice_get-first, slice_get-joined, slice_get-last, under_there}

unheld_small : IsSmall unheld
unheld_small = let small : 0 < 2 ^ 64 = omega arith in (small, small)

end_small : (now duration : ℕ) → end_of now duration < 2 ^ 64
end_small now duration = let small : min (now + duration) (2 ^ 64 - 1) < 2 ^ 64 = omega arith in small

-- ---- what is sent

renewed_regular : (c now : ℕ) (e : Entrant) (l : Lease) → IsSmall l → IsRegularSent (record { by = c; renews = true; seen = l; makes = renewed e.duration now l })
renewed_regular c now e l small = (small, (small.0, end_small now e.duration), (refl, refl))

taken_regular : (c now : ℕ) (e : Entrant) (l : Lease) → IsSmall l → (l.term == 2 ^ 64 - 1) ≡ false → IsRegularSent (record { by = c; renews = false; seen = l; makes = taken e.id e.duration now l })
taken_regular c now e l small last =
    let term : l.term < 2 ^ 64 = small.0 in
    let apart = eqb-false l.term (2 ^ 64 - 1) last in
    let next : l.term + 1 < 2 ^ 64 = omega (arith, apart) in
    (small, (next, end_small now e.duration), refl)

holder_regular : (c now : ℕ) (e : Entrant) (l : Lease) → IsSmall l → (b : Bool) (k : ℕ) (s : Sent) → slice_get (sent_for c e now l (cond b Renew (Wait l.until))) k ≡ Some s → IsRegularSent s
holder_regular c now e l small true zero s x =
    let same : record { by = c; renews = true; seen = l; makes = renewed e.duration now l } ≡ s = cc in
    let P : Sent → Type 0 = λ y. IsRegularSent y in subst P same (renewed_regular c now e l small)
holder_regular c now e l small true (suc k) s x = absurd (cc)
holder_regular c now e l small false k s x = absurd (cc)

last_regular : (c now : ℕ) (e : Entrant) (l : Lease) → IsSmall l → (b : Bool) → (l.term == 2 ^ 64 - 1) ≡ b → (k : ℕ) (s : Sent) → slice_get (sent_for c e now l (cond b LastTerm Take)) k ≡ Some s → IsRegularSent s
last_regular c now e l small true h k s x = absurd (cc)
last_regular c now e l small false h zero s x =
    let same : record { by = c; renews = false; seen = l; makes = taken e.id e.duration now l } ≡ s = cc in
    let P : Sent → Type 0 = λ y. IsRegularSent y in subst P same (taken_regular c now e l small h)
last_regular c now e l small false h (suc k) s x = absurd (cc)

other_regular : (c now : ℕ) (e : Entrant) (l : Lease) → IsSmall l → (b : Bool) (k : ℕ) (s : Sent)
    → slice_get (sent_for c e now l (cond b (Wait l.until) (cond (l.term == 2 ^ 64 - 1) LastTerm Take))) k ≡ Some s → IsRegularSent s
other_regular c now e l small true k s x = absurd (cc)
other_regular c now e l small false k s x = last_regular c now e l small (l.term == 2 ^ 64 - 1) refl k s x

sent_for_regular : (c now : ℕ) (e : Entrant) (l : Lease) → IsSmall l → (b : Bool) (k : ℕ) (s : Sent)
    → slice_get (sent_for c e now l (cond b (choice_of_holder e.duration now l) (choice_of_other now l))) k ≡ Some s → IsRegularSent s
sent_for_regular c now e l small true k s x = holder_regular c now e l small (nat_lt l.until (end_of now e.duration)) k s x
sent_for_regular c now e l small false k s x = other_regular c now e l small (nat_lt now l.until) k s x

sent_on_regular : (c now : ℕ) (e : Entrant) (o : Option Lease) → ((l : Lease) → o ≡ Some l → IsSmall l) → (k : ℕ) (s : Sent) → slice_get (sent_on c e now o) k ≡ Some s → IsRegularSent s
sent_on_regular c now e None small k s x = absurd (cc)
sent_on_regular c now e (Some l) small k s x = sent_for_regular c now e l (small l refl) (is_holder e.id l) k s x

sent_by_regular : (p : Past) (c : ℕ) (o : Option Entrant) → IsRegular p → (k : ℕ) (s : Sent) → slice_get (sent_by p c o) k ≡ Some s → IsRegularSent s
sent_by_regular p c None small k s x = absurd (cc)
sent_by_regular p c (Some e) small k s x = sent_on_regular c p.now e (under c p.observed) (λ l h. let w = under_there c p.observed l h in small.observed w.0 w.1 l w.2) k s x

-- ---- the steps

observed_regular : (p : Past) (c : ℕ) (o : Option Lease) → ((l : Lease) → o ≡ Some l → IsSmall l) → IsRegular p → IsRegular (record p { observed = observed_by c o p.observed })
observed_regular p c None w s = s
observed_regular p c (Some m) w s = record {
  states = s.states;
  observed = λ k d l x. elim (slice_get-first (c, m) p.observed k (d, l) x) [
    | inl new ↦ let e : l ≡ m = ap (λ (q : ℕ × Lease). q.1) new in let P : Lease → Type 0 = λ y. IsSmall y in subst P (sym e) (w m refl)
    | inr old ↦ s.observed old.0 d l old.1
  ];
  sent = s.sent;
  made = s.made;
}

-- a candidate observes a lease
pub more_observed : (p : Past) (c : ℕ) (m : Lease) → IsSmall m → IsRegular p → IsRegular (record p { observed = (c, m) ∷ p.observed })
more_observed p c m small s = observed_regular p c (Some m) (λ l e. let same : m ≡ l = cc in let P : Lease → Type 0 = λ y. IsSmall y in subst P same small) s

pub changed_regular : (p : Past) (n : ℕ) (m : Lease) → IsSmall m → IsRegular p → IsRegular (changed p n m)
changed_regular p n m small s = record {
  states = λ k l x. elim (slice_get-last (leases p) m k l x) [
    | inl old ↦ s.states k l old
    | inr new ↦ let P : Lease → Type 0 = λ y. IsSmall y in subst P (sym new) small
  ];
  observed = s.observed;
  sent = s.sent;
  made = λ k j l x. elim (slice_get-last p.made (n, m) k (j, l) x) [
    | inl old ↦ s.made k j l old
    | inr new ↦ let e : l ≡ m = ap (λ (q : ℕ × Lease). q.1) new in let P : Lease → Type 0 = λ y. IsSmall y in subst P (sym e) small
  ];
}

arrived_regular : (p : Past) (n : ℕ) (o : Option Sent) → ((s : Sent) → o ≡ Some s → IsRegularSent s) → IsRegular p → IsRegular (arrived p n o)
arrived_regular p n None w s = s
arrived_regular p n (Some x) w s = go (passes x p.current) where
  go : (b : Bool) → IsRegular (cond b (changed p n x.makes) p)
  go true = changed_regular p n x.makes (w x refl).1 s
  go false = s

pub regular_after : (es : List Entrant) (p : Past) (step : LeaseStep) → IsRegular p → IsRegular (after es p step)
regular_after es p (Tick by) s = record { states = s.states; observed = s.observed; sent = s.sent; made = s.made }
regular_after es p (Observe c n) s = observed_regular p c (slice_get (leases p) n) (λ l e. s.states n l e) s
regular_after es p (Send c) s = record {
  states = s.states;
  observed = s.observed;
  sent = λ k x e. elim (slice_get-joined p.sent (sent_by p c (slice_get es c)) k x e) [
    | inl old ↦ s.sent k x old
    | inr new ↦ sent_by_regular p c (slice_get es c) s new.0 x new.1
  ];
  made = s.made;
}
regular_after es p (Arrive n) s = arrived_regular p n (slice_get p.sent n) (λ x e. s.sent n x e) s
regular_after es p (Reply c n) s = observed_regular p c (under n p.made) (λ l e. let w = under_there n p.made l e in s.made w.0 w.1 l w.2) s

pub regular_first : IsRegular beginning
regular_first = record {
  states = first;
  observed = λ k c l x. absurd (cc);
  sent = λ k s x. absurd (cc);
  made = λ k n l x. absurd (cc);
} where
  first : (k : ℕ) (l : Lease) → slice_get (unheld ∷ []) k ≡ Some l → IsSmall l
  first zero l x = let same : unheld ≡ l = cc in let P : Lease → Type 0 = λ y. IsSmall y in subst P same unheld_small
  first (suc k) l x = absurd (cc)
