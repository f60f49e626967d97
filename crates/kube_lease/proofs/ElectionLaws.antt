-- What holds after each step of an election, and what follows for claims.
use Rattle.std.proofs.Common.{◌≡◌, ◌⊎◌, inl, inr, ℕ, zero, suc, ◌+◌, ◌<◌, ◌≤◌, ◌==◌, nat_lt, Bool, true, false, not, cond, ◌&&◌, ◌||◌, ◌-◌, ◌^◌, List, [], ◌∷◌, ◌++◌, Option, Some, None, slice_get, refl, sym, ap, subst, ◌∙◌, arith}
use Rattle.std.specs.List.{fold}
use Rattle.std.specs.Str.{bytes_eq}
use Rattle.std.proofs.lemmas.Bool.{eqb-true, ltb-true, ltb-false}
use Rattle.std.proofs.lemmas.Slice.Eq.{bytes_eq-Decides}
use Rattle.kube_lease.specs.declared.election.Entrant.{Entrant}
use Rattle.kube_lease.specs.declared.election.LeaseStep.{LeaseStep}
use Rattle.kube_lease.specs.declared.election.LeaseStep.TheVariants.{Tick, Observe, Send, Arrive, Reply}
use Rattle.kube_lease.specs.Leases.{Renew, Wait, LastTerm, Take, Lease, choice_of_holder, choice_of_other, end_of, is_holder, renewed, taken, unheld}
use Rattle.kube_lease.specs.Elections.{AreEntrants, IsClaim, Past, Sent, after, arrived, beginning, changed, is_election, leases, observed_by, passes, past_of, sent_by, sent_for, sent_on, under}

-- ---- truth values, lists

pub and_parts : (a b : Bool) → (a && b) ≡ true → (a ≡ true) × (b ≡ true)
and_parts true b e = (refl, e)
and_parts false b e = (cc, cc)

pub slice_get-more : {X : Type 0} (xs ys : List X) (k : ℕ) (x : X) → slice_get xs k ≡ Some x → slice_get (xs ++ ys) k ≡ Some x
slice_get-more [] ys k x e = cc
slice_get-more (z ∷ xs) ys zero x e = e
slice_get-more (z ∷ xs) ys (suc k) x e = slice_get-more xs ys k x e

pub slice_get-last : {X : Type 0} (xs : List X) (y : X) (k : ℕ) (x : X) → slice_get (xs ++ y ∷ []) k ≡ Some x → (slice_get xs k ≡ Some x) ⊎ (x ≡ y)
slice_get-last [] y zero x e = inr (cc)
slice_get-last [] y (suc k) x e = inl e
slice_get-last (z ∷ xs) y zero x e = inl e
slice_get-last (z ∷ xs) y (suc k) x e = slice_get-last xs y k x e

-- where a list's last one stands
pub last-there : {X : Type 0} (xs : List X) (y : X) → (k : ℕ) × (slice_get (xs ++ y ∷ []) k ≡ Some y)
last-there [] y = (0, refl)
last-there (x ∷ xs) y = let w = last-there xs y in (suc w.0, w.1)

-- one of the first, or of the rest
pub slice_get-first : {X : Type 0} (y : X) (ys : List X) (k : ℕ) (x : X) → slice_get (y ∷ ys) k ≡ Some x → (x ≡ y) ⊎ ((j : ℕ) × (slice_get ys j ≡ Some x))
slice_get-first y ys zero x e = inl (cc)
slice_get-first y ys (suc k) x e = inr (k, e)

-- ---- leases

-- one that stood is no later than the one that stands
abbrev IsUpTo : Lease → Lease → Type 0
IsUpTo a l = (a.term < l.term) ⊎ ((a.term ≡ l.term) × (a.until ≤ l.until))

up-to_itself : (l : Lease) → IsUpTo l l
up-to_itself l = inr (refl, omega arith)

up-to_next : (a l m : Lease) → IsUpTo a l → IsUpTo l m → IsUpTo a m
up-to_next a l m p q = elim p [
  | inl before ↦ elim q [ inl under_m ↦ inl (omega arith) | inr same ↦ inl (let e : l.term ≡ m.term = same.0 in omega arith) ]
  | inr with_l ↦ elim q [
    | inl under_m ↦ inl (let e : a.term ≡ l.term = with_l.0 in omega arith)
    | inr same ↦ inr (with_l.0 ∙ same.0, let x : a.until ≤ l.until = with_l.1 in let y : l.until ≤ m.until = same.1 in omega arith)
  ]
]

-- the terms never fall
term_up-to : (a l : Lease) → IsUpTo a l → a.term ≤ l.term
term_up-to a l p = elim p [ inl before ↦ omega arith | inr same ↦ let e : a.term ≡ l.term = same.0 in omega arith ]

-- ---- what holds after each step

abbrev IsState : Past → Lease → Type 0
IsState p l = (k : ℕ) × (slice_get (leases p) k ≡ Some l)

-- a renewal makes the lease last longer in its term, for its holder; another one takes it where it is over, for the next term
abbrev MakesWell : Bool → ℕ → Sent → Type 0
MakesWell true now s = (s.makes.holder ≡ s.seen.holder) × (s.makes.term ≡ s.seen.term) × (s.seen.until < s.makes.until)
MakesWell false now s = (s.seen.until ≤ now) × (s.makes.term ≡ s.seen.term + 1)

abbrev IsSentWell : ℕ → Sent → Type 0
IsSentWell now s = MakesWell s.renews now s

record IsSound (p : Past) : Type 0 where
  -- leases of one term have one holder
  one : (j k : ℕ) (a b : Lease) → slice_get (leases p) j ≡ Some a → slice_get (leases p) k ≡ Some b → a.term ≡ b.term → a.holder ≡ b.holder
  -- the one that stands is the latest
  latest : (k : ℕ) (a : Lease) → slice_get (leases p) k ≡ Some a → IsUpTo a p.current
  -- those of earlier terms are over
  over : (k : ℕ) (a : Lease) → slice_get (leases p) k ≡ Some a → a.term < p.current.term → a.until ≤ p.now
  observed : (k c : ℕ) (l : Lease) → slice_get p.observed k ≡ Some (c, l) → IsState p l
  made : (k n : ℕ) (l : Lease) → slice_get p.made k ≡ Some (n, l) → IsState p l
  sent : (k : ℕ) (s : Sent) → slice_get p.sent k ≡ Some s → IsSentWell p.now s

-- ---- a patch that changes the lease

-- what a patch that passes makes of the lease
record Follows (p : Past) (m : Lease) : Type 0 where
  up : IsUpTo p.current m
  same : p.current.term ≡ m.term → m.holder ≡ p.current.holder
  over : p.current.term < m.term → p.current.until ≤ p.now

follows_by : (p : Past) (s : Sent) (b : Bool) → MakesWell b p.now s → s.seen.term ≡ p.current.term → s.seen.until ≡ p.current.until
    → (not b || bytes_eq s.seen.holder p.current.holder) ≡ true → Follows p s.makes
follows_by p s true w t u h =
    let term : s.makes.term ≡ s.seen.term = w.1 in
    let longer : s.seen.until < s.makes.until = w.2 in
    let holder : s.seen.holder ≡ p.current.holder = (bytes_eq-Decides s.seen.holder p.current.holder).0 h in
    record {
      up = inr (sym (term ∙ t), omega arith);
      same = λ e. w.0 ∙ holder;
      over = λ e. absurd (omega arith);
    }
follows_by p s false w t u h =
    let before : s.seen.until ≤ p.now = w.0 in
    let next : s.makes.term ≡ s.seen.term + 1 = w.1 in
    record {
      up = inl (omega arith);
      same = λ e. absurd (omega arith);
      over = λ e. omega arith;
    }

follows : (p : Past) (s : Sent) → IsSentWell p.now s → passes s p.current ≡ true → Follows p s.makes
follows p s w h =
    let x = and_parts (s.seen.term == p.current.term && s.seen.until == p.current.until) (not s.renews || bytes_eq s.seen.holder p.current.holder) h in
    let y = and_parts (s.seen.term == p.current.term) (s.seen.until == p.current.until) x.0 in
    follows_by p s s.renews w (eqb-true s.seen.term p.current.term y.0) (eqb-true s.seen.until p.current.until y.1) x.1

-- a lease of before and the one that follows have one holder if they have one term
one_with : (p : Past) (m a : Lease) → IsSound p → Follows p m → (k : ℕ) → slice_get (leases p) k ≡ Some a → a.term ≡ m.term → a.holder ≡ m.holder
one_with p m a s f k e t =
    let x : a.term ≤ p.current.term = term_up-to a p.current (s.latest k a e) in
    let y : p.current.term ≤ m.term = term_up-to p.current m f.up in
    let w = last-there p.before p.current in
    s.one k w.0 a p.current e w.1 (let z : a.term ≡ p.current.term = omega arith in z) ∙ sym (f.same (let z : p.current.term ≡ m.term = omega arith in z))

over_at : (p : Past) (m a : Lease) → IsSound p → Follows p m → (k : ℕ) → slice_get (leases p) k ≡ Some a → a.term < m.term → a.until ≤ p.now
over_at p m a s f k e lt = elim (s.latest k a e) [
  | inl before ↦ s.over k a e before
  | inr with_it ↦
      let term : a.term ≡ p.current.term = with_it.0 in
      let until : a.until ≤ p.current.until = with_it.1 in
      let now : p.current.until ≤ p.now = f.over (omega arith) in
      omega arith
]

changed_sound : (p : Past) (n : ℕ) (m : Lease) → IsSound p → Follows p m → IsSound (changed p n m)
changed_sound p n m s f = record {
  one = λ j k a b x y t. elim (slice_get-last (leases p) m j a x) [
    | inl old ↦ elim (slice_get-last (leases p) m k b y) [
      | inl also ↦ s.one j k a b old also t
      | inr new ↦ let P : Lease → Type 0 = λ l. a.term ≡ l.term → a.holder ≡ l.holder in subst P (sym new) (one_with p m a s f j old) t
    ]
    | inr new ↦ elim (slice_get-last (leases p) m k b y) [
      | inl old ↦ let P : Lease → Type 0 = λ l. l.term ≡ b.term → l.holder ≡ b.holder in subst P (sym new) (λ e. sym (one_with p m b s f k old (sym e))) t
      | inr also ↦ ap (λ (l : Lease). l.holder) (new ∙ sym also)
    ]
  ];
  latest = λ k a x. elim (slice_get-last (leases p) m k a x) [
    | inl old ↦ up-to_next a p.current m (s.latest k a old) f.up
    | inr new ↦ let P : Lease → Type 0 = λ l. IsUpTo l m in subst P (sym new) (up-to_itself m)
  ];
  over = λ k a x lt. elim (slice_get-last (leases p) m k a x) [
    | inl old ↦ over_at p m a s f k old lt
    | inr new ↦ let e : a.term ≡ m.term = ap (λ (l : Lease). l.term) new in absurd (omega arith)
  ];
  observed = λ k c l x. let w = s.observed k c l x in (w.0, slice_get-more (leases p) (m ∷ []) w.0 l w.1);
  made = λ k j l x. elim (slice_get-last p.made (n, m) k (j, l) x) [
    | inl old ↦ let w = s.made k j l old in (w.0, slice_get-more (leases p) (m ∷ []) w.0 l w.1)
    | inr new ↦ let e : l ≡ m = ap (λ (q : ℕ × Lease). q.1) new in let P : Lease → Type 0 = λ y. IsState (changed p n m) y in subst P (sym e) (last-there (leases p) m)
  ];
  sent = s.sent;
}

arrived_sound : (p : Past) (n : ℕ) (o : Option Sent) → ((s : Sent) → o ≡ Some s → IsSentWell p.now s) → IsSound p → IsSound (arrived p n o)
arrived_sound p n None w s = s
arrived_sound p n (Some x) w s = go (passes x p.current) refl where
  go : (b : Bool) → passes x p.current ≡ b → IsSound (cond b (changed p n x.makes) p)
  go true e = changed_sound p n x.makes s (follows p x (w x refl) e)
  go false e = s

-- ---- the other steps

later_well : (b : Bool) (now by : ℕ) (s : Sent) → MakesWell b now s → MakesWell b (now + by) s
later_well true now by s w = w
later_well false now by s w = let x : s.seen.until ≤ now = w.0 in (omega arith, w.1)

tick_sound : (p : Past) (by : ℕ) → IsSound p → IsSound (record p { now = p.now + by })
tick_sound p by s = record {
  one = s.one;
  latest = s.latest;
  over = λ k a x lt. let h : a.until ≤ p.now = s.over k a x lt in omega arith;
  observed = s.observed;
  made = s.made;
  sent = λ k x e. later_well x.renews p.now by x (s.sent k x e);
}

observed_sound : (p : Past) (c : ℕ) (o : Option Lease) → ((l : Lease) → o ≡ Some l → IsState p l) → IsSound p → IsSound (record p { observed = observed_by c o p.observed })
observed_sound p c None w s = s
observed_sound p c (Some m) w s = record {
  one = s.one;
  latest = s.latest;
  over = s.over;
  observed = λ k d l x. elim (slice_get-first (c, m) p.observed k (d, l) x) [
    | inl new ↦ let e : l ≡ m = ap (λ (q : ℕ × Lease). q.1) new in let P : Lease → Type 0 = λ y. IsState p y in subst P (sym e) (w m refl)
    | inr old ↦ s.observed old.0 d l old.1
  ];
  made = s.made;
  sent = s.sent;
}

some_is : (a b : Lease) → Some a ≡ Some b → a ≡ b
some_is a b e = cc

-- what is under a number stands in the list
pub under_there : (n : ℕ) (xs : List (ℕ × Lease)) (l : Lease) → under n xs ≡ Some l → (k : ℕ) × (j : ℕ) × (slice_get xs k ≡ Some (j, l))
under_there n [] l e = absurd (cc)
under_there n (x ∷ xs) l e = go (x.0 == n) e (λ h. under_there n xs l h) where
  go : (b : Bool) → cond b (Some x.1) (under n xs) ≡ Some l → (under n xs ≡ Some l → (k : ℕ) × (j : ℕ) × (slice_get xs k ≡ Some (j, l)))
      → (k : ℕ) × (j : ℕ) × (slice_get (x ∷ xs) k ≡ Some (j, l))
  go true h later = (0, x.0, ap (λ y. Some (x.0, y)) (some_is x.1 l h))
  go false h later = let w = later h in (suc w.0, w.1, w.2)

-- ---- what is sent

renewed_well : (c now : ℕ) (e : Entrant) (l : Lease) → l.until < end_of now e.duration → IsSentWell now (record { by = c; renews = true; seen = l; makes = renewed e.duration now l })
renewed_well c now e l lt = (refl, refl, lt)

taken_well : (c now : ℕ) (e : Entrant) (l : Lease) → l.until ≤ now → IsSentWell now (record { by = c; renews = false; seen = l; makes = taken e.id e.duration now l })
taken_well c now e l le = (le, refl)

holder_well : (c now : ℕ) (e : Entrant) (l : Lease) (b : Bool) → nat_lt l.until (end_of now e.duration) ≡ b → (k : ℕ) (s : Sent)
    → slice_get (sent_for c e now l (cond b Renew (Wait l.until))) k ≡ Some s → IsSentWell now s
holder_well c now e l true h zero s x =
    let same : record { by = c; renews = true; seen = l; makes = renewed e.duration now l } ≡ s = cc in
    let P : Sent → Type 0 = λ y. IsSentWell now y in subst P same (renewed_well c now e l (ltb-true l.until (end_of now e.duration) h))
holder_well c now e l true h (suc k) s x = absurd (cc)
holder_well c now e l false h k s x = absurd (cc)

last_well : (c now : ℕ) (e : Entrant) (l : Lease) → l.until ≤ now → (b : Bool) (k : ℕ) (s : Sent)
    → slice_get (sent_for c e now l (cond b LastTerm Take)) k ≡ Some s → IsSentWell now s
last_well c now e l le true k s x = absurd (cc)
last_well c now e l le false zero s x =
    let same : record { by = c; renews = false; seen = l; makes = taken e.id e.duration now l } ≡ s = cc in
    let P : Sent → Type 0 = λ y. IsSentWell now y in subst P same (taken_well c now e l le)
last_well c now e l le false (suc k) s x = absurd (cc)

other_well : (c now : ℕ) (e : Entrant) (l : Lease) (b : Bool) → nat_lt now l.until ≡ b → (k : ℕ) (s : Sent)
    → slice_get (sent_for c e now l (cond b (Wait l.until) (cond (l.term == 2 ^ 64 - 1) LastTerm Take))) k ≡ Some s → IsSentWell now s
other_well c now e l true h k s x = absurd (cc)
other_well c now e l false h k s x = last_well c now e l (ltb-false now l.until h) (l.term == 2 ^ 64 - 1) k s x

sent_for_well : (c now : ℕ) (e : Entrant) (l : Lease) (b : Bool) (k : ℕ) (s : Sent)
    → slice_get (sent_for c e now l (cond b (choice_of_holder e.duration now l) (choice_of_other now l))) k ≡ Some s → IsSentWell now s
sent_for_well c now e l true k s x = holder_well c now e l (nat_lt l.until (end_of now e.duration)) refl k s x
sent_for_well c now e l false k s x = other_well c now e l (nat_lt now l.until) refl k s x

sent_on_well : (c now : ℕ) (e : Entrant) (o : Option Lease) (k : ℕ) (s : Sent) → slice_get (sent_on c e now o) k ≡ Some s → IsSentWell now s
sent_on_well c now e None k s x = absurd (cc)
sent_on_well c now e (Some l) k s x = sent_for_well c now e l (is_holder e.id l) k s x

sent_by_well : (p : Past) (c : ℕ) (o : Option Entrant) (k : ℕ) (s : Sent) → slice_get (sent_by p c o) k ≡ Some s → IsSentWell p.now s
sent_by_well p c None k s x = absurd (cc)
sent_by_well p c (Some e) k s x = sent_on_well c p.now e (under c p.observed) k s x

-- one of two lists that are joined
pub slice_get-joined : {X : Type 0} (xs ys : List X) (k : ℕ) (x : X) → slice_get (xs ++ ys) k ≡ Some x → (slice_get xs k ≡ Some x) ⊎ ((j : ℕ) × (slice_get ys j ≡ Some x))
slice_get-joined [] ys k x e = inr (k, e)
slice_get-joined (z ∷ xs) ys zero x e = inl e
slice_get-joined (z ∷ xs) ys (suc k) x e = slice_get-joined xs ys k x e

send_sound : (p : Past) (c : ℕ) (o : Option Entrant) → IsSound p → IsSound (record p { sent = p.sent ++ sent_by p c o })
send_sound p c o s = record {
  one = s.one;
  latest = s.latest;
  over = s.over;
  observed = s.observed;
  made = s.made;
  sent = λ k x e. elim (slice_get-joined p.sent (sent_by p c o) k x e) [
    | inl old ↦ s.sent k x old
    | inr new ↦ sent_by_well p c o new.0 x new.1
  ];
}

-- ---- elections

sound_after : (es : List Entrant) (p : Past) (step : LeaseStep) → IsSound p → IsSound (after es p step)
sound_after es p (Tick by) s = tick_sound p by s
sound_after es p (Observe c n) s = observed_sound p c (slice_get (leases p) n) (λ l e. (n, e)) s
sound_after es p (Send c) s = send_sound p c (slice_get es c) s
sound_after es p (Arrive n) s = arrived_sound p n (slice_get p.sent n) (λ x e. s.sent n x e) s
sound_after es p (Reply c n) s = observed_sound p c (under n p.made) (λ l e. let w = under_there n p.made l e in s.made w.0 w.1 l w.2) s

sound_first : IsSound beginning
sound_first = record {
  one = λ j k a b x y t. first_one j k a b x y;
  latest = λ k a x. first_latest k a x;
  over = λ k a x lt. first_over k a x lt;
  observed = λ k c l x. absurd (cc);
  made = λ k n l x. absurd (cc);
  sent = λ k s x. absurd (cc);
} where
  first : (k : ℕ) (a : Lease) → slice_get (unheld ∷ []) k ≡ Some a → a ≡ unheld
  first zero a x = cc
  first (suc k) a x = absurd (cc)

  first_one : (j k : ℕ) (a b : Lease) → slice_get (unheld ∷ []) j ≡ Some a → slice_get (unheld ∷ []) k ≡ Some b → a.holder ≡ b.holder
  first_one j k a b x y = ap (λ (l : Lease). l.holder) (first j a x ∙ sym (first k b y))

  first_latest : (k : ℕ) (a : Lease) → slice_get (unheld ∷ []) k ≡ Some a → IsUpTo a unheld
  first_latest k a x = let P : Lease → Type 0 = λ l. IsUpTo l unheld in subst P (sym (first k a x)) (up-to_itself unheld)

  first_over : (k : ℕ) (a : Lease) → slice_get (unheld ∷ []) k ≡ Some a → a.term < 0 → a.until ≤ 0
  first_over k a x lt = absurd (omega arith)

sound_run : (es : List Entrant) (p : Past) (steps : List LeaseStep) → IsSound p → IsSound (fold (after es) p steps)
sound_run es p [] s = s
sound_run es p (step ∷ steps) s = sound_run es (after es p step) steps (sound_after es p step s)

sound : (es : List Entrant) (steps : List LeaseStep) → IsSound (past_of es steps)
sound es steps = sound_run es beginning steps sound_first

-- ---- claims

same_candidate : (es : List Entrant) (p : Past) (c d s t u v : ℕ) → AreEntrants es → (x : IsClaim es p c s u) (y : IsClaim es p d t v) → x.lease.holder ≡ y.lease.holder → c ≡ d
same_candidate es p c d s t u v a x y h = a.different c d x.entrant y.entrant x.is_entrant y.is_entrant (sym x.held ∙ h ∙ y.held)

pub one_leads : (es : List Entrant) (election front back : List LeaseStep) → AreEntrants es → is_election es election ≡ true → election ≡ front ++ back → (c d term u v : ℕ)
    → IsClaim es (past_of es front) c term u → IsClaim es (past_of es front) d term v → c ≡ d
one_leads es election front back a valid parts c d term u v x y =
    let p = past_of es front in
    let s : IsSound p = sound es front in
    let j = s.observed x.place c x.lease x.observed in
    let k = s.observed y.place d y.lease y.observed in
    same_candidate es p c d term term u v a x y (s.one j.0 k.0 x.lease y.lease j.1 k.1 (x.in_term ∙ sym y.in_term))

-- a lease that isn't over is of the present term
acting_term : (p : Past) (l : Lease) → IsSound p → (w : IsState p l) → p.now < l.until → l.term ≡ p.current.term
acting_term p l s w lt = elim (s.latest w.0 l w.1) [
  | inl before ↦ let h : l.until ≤ p.now = s.over w.0 l w.1 before in absurd (omega arith)
  | inr same ↦ same.0
]

pub one_acts : (es : List Entrant) (election front back : List LeaseStep) → AreEntrants es → is_election es election ≡ true → election ≡ front ++ back → (c d s t u v : ℕ)
    → IsClaim es (past_of es front) c s u → IsClaim es (past_of es front) d t v → (past_of es front).now < u → (past_of es front).now < v → c ≡ d
one_acts es election front back a valid parts c d t1 t2 u v x y early late =
    let p = past_of es front in
    let s : IsSound p = sound es front in
    let j = s.observed x.place c x.lease x.observed in
    let k = s.observed y.place d y.lease y.observed in
    let xu : x.lease.until ≡ u = x.lasts in
    let yv : y.lease.until ≡ v = y.lasts in
    let xt : x.lease.term ≡ p.current.term = acting_term p x.lease s j (omega arith) in
    let yt : y.lease.term ≡ p.current.term = acting_term p y.lease s k (omega arith) in
    same_candidate es p c d t1 t2 u v a x y (s.one j.0 k.0 x.lease y.lease j.1 k.1 (xt ∙ sym yt))
