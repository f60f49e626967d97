-- What candidates observe and send, one by one.
use Rattle.std.proofs.Common.{◌≡◌, ℕ, zero, suc, ◌+◌, ◌-◌, ◌^◌, ◌<◌, ◌≤◌, ◌==◌, true, false, List, [], ◌∷◌, ◌++◌, length, get_or, map, slice_get, slice_set, Option, Some, None, Result, Ok, option_map, refl, sym, ap, subst, ◌∙◌, append-nil, arith}
use Rattle.std.specs.Prelude.{⊤}
use Rattle.std.proofs.lemmas.Bool.{eq-eqb, ne_eqb}
use Rattle.kube_meta.specs.declared.dynamic.DynamicObject.{DynamicObject}
use Rattle.kube_meta.specs.declared.poll.Polled.{Polled}
use Rattle.kube_api.specs.Patches.{Operation}
use Rattle.kube_api.specs.ObjectTalk.{ObjectAnswer, AnswersLater}
use Rattle.kube_final.specs.FinalizerPolls.{Objects}
use Rattle.kube_lease.specs.declared.election.Entrant.{Entrant}
use Rattle.kube_lease.specs.declared.play.Outbox.{Outbox}
use Rattle.kube_lease.specs.declared.poll.LeaseAnswer.{LeaseAnswer}
use Rattle.kube_lease.specs.Candidates.{IsObserved, Standing, having_observed}
use Rattle.kube_lease.specs.Elections.{Past, sent_by, sent_for, sent_on, under}
use Rattle.kube_lease.specs.Leases.{Choice, Unseen, Renew, Wait, LastTerm, Take, Lease, choice}
use Rattle.kube_lease.specs.Played.{candidates_after, operations_of, standing_after, standings_from}
use Rattle.kube_lease.specs.Polls.{IsAnsweredBy, IsPolled, IsPolledOn, patch_by, patch_for, patch_of}
use Rattle.kube_lease.specs.Staging.{IsPosted, entered, observed_at, only_if, patches_for, patches_in}

-- ---- one observes

standing_same : (m c : ℕ) (e : Entrant) (l : Lease) (os : List (ℕ × Lease)) → (m == c) ≡ true → standing_after c e ((m, l) ∷ os) ≡ having_observed l (standing_after c e os)
standing_same m c e l os t = rw t refl

standing_other : (m c : ℕ) (e : Entrant) (l : Lease) (os : List (ℕ × Lease)) → (m == c) ≡ false → standing_after c e ((m, l) ∷ os) ≡ standing_after c e os
standing_other m c e l os t = rw t refl

-- those of later numbers stay
standings_later : (m c : ℕ) (es : List Entrant) (l : Lease) (os : List (ℕ × Lease)) → m < c → standings_from c es ((m, l) ∷ os) ≡ standings_from c es os
standings_later m c [] l os h = refl
standings_later m c (e ∷ es) l os h =
    let apart : (m == c) ≡ false = ne_eqb m c (λ (same : m ≡ c). omega arith) in
    ap (λ s. s ∷ standings_from (suc c) es ((m, l) ∷ os)) (standing_other m c e l os apart)
    ∙ ap (λ ss. standing_after c e os ∷ ss) (standings_later m (suc c) es l os (omega arith))

observed_from : (m c n : ℕ) (es : List Entrant) (l : Lease) (os : List (ℕ × Lease)) → m ≡ c + n → standings_from c es ((m, l) ∷ os) ≡ observed_at n l (standings_from c es os)
observed_from m c n [] l os h = refl
observed_from m c zero (e ∷ es) l os h =
    let same : (m == c) ≡ true = eq-eqb m c (omega arith) in
    ap (λ s. s ∷ standings_from (suc c) es ((m, l) ∷ os)) (standing_same m c e l os same)
    ∙ ap (λ ss. having_observed l (standing_after c e os) ∷ ss) (standings_later m (suc c) es l os (omega arith))
observed_from m c (suc n) (e ∷ es) l os h =
    let apart : (m == c) ≡ false = ne_eqb m c (λ (same : m ≡ c). omega arith) in
    ap (λ s. s ∷ standings_from (suc c) es ((m, l) ∷ os)) (standing_other m c e l os apart)
    ∙ ap (λ ss. standing_after c e os ∷ ss) (observed_from m (suc c) n es l os (omega arith))

pub one_observes : (n : ℕ) (es : List Entrant) (l : Lease) (os : List (ℕ × Lease)) → standings_from 0 es ((n, l) ∷ os) ≡ observed_at n l (standings_from 0 es os)
one_observes n es l os = observed_from n 0 n es l os (omega arith)

-- in the code: past the end, and at a place
pub none_observes : (n : ℕ) (l : Lease) (ss : List Standing) → length ss ≤ n → observed_at n l ss ≡ ss
none_observes n l [] h = refl
none_observes zero l (s ∷ ss) h = absurd (omega arith)
none_observes (suc n) l (s ∷ ss) h = ap (λ t. s ∷ t) (none_observes n l ss (omega arith))

pub place_observes : (n : ℕ) (l : Lease) (ss : List Standing) (old new : Standing) → n < length ss → old ≡ get_or ss n old → new ≡ having_observed l old → slice_set ss n new ≡ observed_at n l ss
place_observes n l [] old new h e k = absurd (omega arith)
place_observes zero l (s ∷ ss) old new h e k = ap (λ t. t ∷ ss) (k ∙ ap (having_observed l) e)
place_observes (suc n) l (s ∷ ss) old new h e k = ap (λ t. s ∷ t) (place_observes n l ss old new (omega arith) e k)

-- what is observed of a lease's content
pub observed_lease : (r : Result Lease (List ℕ)) (l : Lease) (old new : Standing) → r ≡ Ok l → IsObserved r old new → new ≡ having_observed l old
observed_lease r l old new e h = subst (λ (x : Result Lease (List ℕ)). IsObserved x old new) e h

-- ---- before the first step

entered_from : (c : ℕ) (es : List Entrant) → map entered es ≡ standings_from c es []
entered_from c [] = refl
entered_from c (e ∷ es) = ap (λ ss. entered e ∷ ss) (entered_from (suc c) es)

pub all_entered : (es : List Entrant) → map entered es ≡ standings_from 0 es []
all_entered es = entered_from 0 es

pub entrant_there : (n : ℕ) (es : List Entrant) (e : Entrant) → n < length es → e ≡ get_or es n e → slice_get es n ≡ Some e
entrant_there n [] e h k = absurd (omega arith)
entrant_there zero (f ∷ es) e h k = ap (λ x. Some x) (sym k)
entrant_there (suc n) (f ∷ es) e h k = entrant_there n es e (omega arith) k

-- ---- one sends

-- the API to which candidates send
abbrev pub outbox : Objects Outbox DynamicObject
outbox = record { moves = λ old now raw new. IsPosted old raw new; rests = λ old new. ⊤; held = λ o. None; talk = λ o. None; faults = λ o. 2 ^ 64 - 1 }

later_same : (told : ObjectAnswer DynamicObject) (s s' : Standing) (answer : Polled LeaseAnswer) → told ≡ AnswersLater → IsAnsweredBy told s answer s' → s' ≡ s
later_same told s s' answer e h = (subst (λ (x : ObjectAnswer DynamicObject). IsAnsweredBy x s answer s') e h).1

posts_on : (now : ℕ) (decided : Choice) (o : Option (List Operation)) (old new : Outbox) (s s' : Standing) (answer : Polled LeaseAnswer) → IsPolledOn outbox now decided o old s answer new s'
    → (patches_in new ≡ patches_in old ++ only_if o) × (s' ≡ s)
posts_on now decided None old new s s' answer h = (ap patches_in h.1 ∙ sym (append-nil (patches_in old)), h.2)
posts_on now decided (Some patch) old new s s' answer h = (h.patched.moved.1, later_same h.told s s' answer h.patched.moved.0 h.answers)

-- a poll keeps the patch of what is decided, and leaves the candidate as it was
pub posts : (now : ℕ) (old new : Outbox) (s s' : Standing) (answer : Polled LeaseAnswer) → IsPolled outbox now old s answer new s'
    → (patches_in new ≡ patches_in old ++ only_if (patch_of s now)) × (s' ≡ s)
posts now old new s s' answer h = posts_on now (choice s.id s.duration now s.seen) (patch_of s now) old new s s' answer h

pub set_same : (n : ℕ) (ss : List Standing) (old new : Standing) → old ≡ get_or ss n old → new ≡ old → slice_set ss n new ≡ ss
set_same n [] old new e k = refl
set_same zero (s ∷ ss) old new e k = ap (λ t. t ∷ ss) (k ∙ e)
set_same (suc n) (s ∷ ss) old new e k = ap (λ t. s ∷ t) (set_same n ss old new e k)

pub there : (n : ℕ) (ss : List Standing) (s : Standing) → n < length ss → s ≡ get_or ss n s → slice_get ss n ≡ Some s
there n [] s h e = absurd (omega arith)
there zero (t ∷ ss) s h e = ap (λ x. Some x) (sym e)
there (suc n) (t ∷ ss) s h e = there n ss s (omega arith) e

pub past_end : (n : ℕ) (ss : List Standing) → length ss ≤ n → slice_get ss n ≡ None
past_end n [] h = refl
past_end zero (s ∷ ss) h = absurd (omega arith)
past_end (suc n) (s ∷ ss) h = past_end n ss (omega arith)

-- the patch that is sent by the definition
sent_as : (c now : ℕ) (e : Entrant) (l : Lease) (s : Standing) (decided : Choice) → s.id ≡ e.id → s.duration ≡ e.duration → map operations_of (sent_for c e now l decided) ≡ only_if (patch_by s now l decided)
sent_as c now e l s Unseen i d = refl
sent_as c now e l s Renew i d = rw d refl
sent_as c now e l s (Wait until) i d = refl
sent_as c now e l s LastTerm i d = refl
sent_as c now e l s Take i d = rw (i, d) refl

sent_on_as : (c now : ℕ) (e : Entrant) (o : Option Lease) (s : Standing) → s.id ≡ e.id → s.duration ≡ e.duration → map operations_of (sent_on c e now o) ≡ only_if (patch_for s now o)
sent_on_as c now e None s i d = refl
sent_on_as c now e (Some l) s i d =
    sent_as c now e l s (choice e.id e.duration now (Some l)) i d
    ∙ ap (λ id. only_if (patch_by s now l (choice id e.duration now (Some l)))) (sym i) ∙ ap (λ duration. only_if (patch_by s now l (choice s.id duration now (Some l)))) (sym d)

pub standing_at : (c n m : ℕ) (es : List Entrant) (os : List (ℕ × Lease)) → m ≡ c + n → slice_get (standings_from c es os) n ≡ option_map (λ e. standing_after m e os) (slice_get es n)
standing_at c n m [] os h = refl
standing_at c zero m (e ∷ es) os h = let same : c ≡ m = omega arith in ap (λ k. Some (standing_after k e os)) same
standing_at c (suc n) m (e ∷ es) os h = standing_at (suc c) n m es os (omega arith)

sent_by_as : (p : Past) (c : ℕ) (o : Option Entrant) → map operations_of (sent_by p c o) ≡ patches_for p.now (option_map (λ e. standing_after c e p.observed) o)
sent_by_as p c None = refl
sent_by_as p c (Some e) = sent_on_as c p.now e (under c p.observed) (standing_after c e p.observed) refl refl

pub one_sends : (p : Past) (c : ℕ) (es : List Entrant) → map operations_of (sent_by p c (slice_get es c)) ≡ patches_for p.now (slice_get (candidates_after es p) c)
one_sends p c es = sent_by_as p c (slice_get es c) ∙ ap (patches_for p.now) (sym (standing_at 0 c c es p.observed (omega arith)))
