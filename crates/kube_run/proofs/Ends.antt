-- An input has one end, and what may be written of it before begins its text.
use Rattle.std.proofs.Common.{◌≡◌, ◌<◌, ◌≤◌, ◌+◌, ◌⊎◌, ◌||◌, inl, inr, ℕ, zero, suc, Bool, true, false, not, IsTrue, List, [], ◌∷◌, ◌++◌, map, Option, Some, None, Result, Ok, Err, length, take, drop, slice_get, refl, sym, ap, ap₂, subst, ◌∙◌, append-nil, append_assoc, length-append, arith}
use Rattle.std.specs.List.{AllByRecursion, list_all}
use Rattle.kube_meta.specs.Reading.{ObjectData}
use Rattle.kube_model.specs.declared.call.Answer.{Answer}
use Rattle.kube_model.specs.declared.call.Answer.TheVariants.{Page, Opened, Added, Modified, Deleted, Bookmark, ErrorItem, Fault, End, NotReady, Idle, Item, Spent}
use Rattle.kube_model.specs.Fits.{brings_references, has_references}
use Rattle.kube_model.specs.History.{Dated, Exchange, Step, Turn, TurnRecord, dated, exchanges, exchanges_of, exchanges_with}
use Rattle.kube_model.specs.Named.{AreNamed, AreNamedTurns, EachIsNamed, IsOwedForm, OfCall, RootIsNamed, has_names}
use Rattle.kube_model.specs.Owed.{is_initial, mark, owed}
use Rattle.kube_model.specs.Raw.{Raw}
use Rattle.kube_model.specs.Recorded.{AsItCame, IsAnsweredBy, IsRecorded, PastItsWindow, answer_of, items_of, raw_call}
use Rattle.kube_model.specs.Traces.{EachIsNext, IsRecord, IsRefusedAfter, IsTrace, Refusal as TurnRefusal, has_ended, refusal, step, steps, unread}
use Rattle.kube_model.specs.Turns.{next_source}
use Rattle.kube_model.specs.World.{Watched, feed_of}
use Rattle.kube_api.specs.TestScript as api
use Rattle.kube_asks.specs.Asking.{IsPolledAt}
use Rattle.kube_asks.specs.Places.{ChangesAt}
use Rattle.kube_asks.proofs.OneExchange.{not-item}
use Rattle.kube_step.specs.Calls.{dated_in}
use Rattle.kube_step.proofs.Traced.{exchanges-are}
use Rattle.kube_control.proofs.OneTrace.{polled-split}
use Rattle.kube_script.specs.Script.{Script}
use Rattle.kube_script.specs.Whole.{Cause}
use Rattle.kube_text.specs.Refusals.{refusal_text}
use Rattle.kube_text.specs.TraceText.{Line, line_of, line_text, lines_of, lines_text}
use Rattle.kube_text.specs.declared.refusal.Refusal.{Refusal}
use Rattle.kube_text.specs.declared.refusal.Refusal.TheVariants as refusals
use Rattle.kube_run.specs.Played.{Api, Apis, AreAnswered, IsAnsweredMapped, IsCutBy, IsCutOff, IsFront, IsPlayed, IsPlayedFront, IsPlayedTo, IsRefusedNext, IsUnnamedNext, IsWhole, RelatedAnswers, all_faults, api_at, first_turns, has_name, made_by, policies_in, refusal_at, root_answers, script_world, trace_text, turns_in, type_in, version_of}
use Rattle.kube_run.specs.Served.{Ends, IsBegun, refusal_of}
use Rattle.kube_run.specs.declared.status.Status.{Status}
use Rattle.kube_run.specs.declared.status.Status.TheVariants as status
use Rattle.kube_run.proofs.Once.{asks-compare, fed-at, none-is-some, one-way, polls-determined, same-left, script-begins, some-same}

abbrev Records : Type 0
Records = List (TurnRecord ObjectData)

-- ---- lists

take-less : {A : Type 0} (m n : ℕ) (xs : List A) → m ≤ n → take m (take n xs) ≡ take m xs
take-less zero n xs h = refl
take-less (suc m) zero xs h = absurd (omega (arith, h))
take-less (suc m) (suc n) [] h = refl
take-less (suc m) (suc n) (x ∷ xs) h = ap (λ ys. x ∷ ys) (take-less m n xs (omega (arith, h)))

take-drop : {A : Type 0} (n : ℕ) (xs : List A) → take n xs ++ drop n xs ≡ xs
take-drop zero xs = refl
take-drop (suc n) [] = refl
take-drop (suc n) (x ∷ xs) = ap (λ ys. x ∷ ys) (take-drop n xs)

get-take : {A : Type 0} (m n : ℕ) (xs : List A) (x : A) → m < n → slice_get xs m ≡ Some x → slice_get (take n xs) m ≡ Some x
get-take m zero xs x h e = absurd (omega (arith, h))
get-take m (suc n) [] x h e = e
get-take zero (suc n) (y ∷ xs) x h e = e
get-take (suc m) (suc n) (y ∷ xs) x h e = get-take m n xs x (omega (arith, h)) e

-- the first of some, and what follows
take-more : {A : Type 0} (m n : ℕ) (xs : List A) → m ≤ n → take m xs ++ drop m (take n xs) ≡ take n xs
take-more m n xs h = ap (λ ys. ys ++ drop m (take n xs)) (sym (take-less m n xs h)) ∙ take-drop m (take n xs)

drop-there : {A : Type 0} (n : ℕ) (xs : List A) (x : A) → slice_get xs n ≡ Some x → (rest : List A) × (drop n xs ≡ x ∷ rest)
drop-there zero [] x e = absurd (cc)
drop-there zero (y ∷ xs) x e = (xs, ap (λ z. z ∷ xs) (some-same y x e))
drop-there (suc n) [] x e = absurd (cc)
drop-there (suc n) (y ∷ xs) x e = drop-there n xs x e

length-there : {A : Type 0} (n : ℕ) (xs : List A) (x : A) → slice_get xs n ≡ Some x → length (take n xs) ≡ n
length-there zero xs x e = refl
length-there (suc n) [] x e = absurd (cc)
length-there (suc n) (y ∷ xs) x e = ap suc (length-there n xs x e)

drop-none : {A : Type 0} (n : ℕ) → drop {A = A} n [] ≡ []
drop-none zero = refl
drop-none (suc n) = refl

none-follow : {A : Type 0} (xs ys : List A) → length (xs ++ ys) ≡ length xs → ys ≡ []
none-follow xs [] e = refl
none-follow xs (y ∷ ys) e = let l = length-append xs (y ∷ ys) in absurd (omega (arith, l, e))

-- two lists that each begin with the other
same-both : {A : Type 0} (xs ys us vs : List A) → ys ≡ xs ++ us → xs ≡ ys ++ vs → xs ≡ ys
same-both xs ys us vs e f =
    let l = length-append xs us in
    let k = length-append ys vs in
    let m : length ys ≡ length (xs ++ us) = ap length e in
    let n : length xs ≡ length (ys ++ vs) = ap length f in
    let none : us ≡ [] = none-follow xs us (omega (arith, l, k, m, n)) in
    sym (e ∙ (ap (λ ws. xs ++ ws) none ∙ append-nil xs))

either-less : (m n : ℕ) → (m ≤ n) ⊎ (n < m)
either-less zero n = inl (omega arith)
either-less (suc m) zero = inr (omega arith)
either-less (suc m) (suc n) = go (either-less m n)
  where
    go : (m ≤ n) ⊎ (n < m) → (suc m ≤ suc n) ⊎ (suc n < suc m)
    go (inl h) = inl (omega (arith, h))
    go (inr h) = inr (omega (arith, h))

-- what an element at a place became
changed-at : {A : Type 0} (P : A → A → Type 0) (place : ℕ) (olds news : List A) (a : A) → ChangesAt P place olds news → slice_get olds place ≡ Some a → (b : A) × P a b
changed-at P place [] news a f e = absurd f
changed-at P place (x ∷ olds) [] a f e = absurd f
changed-at P zero (x ∷ olds) (b ∷ news) a f e = (b, subst (λ v. P v b) (some-same x a e) f.0)
changed-at P (suc place) (x ∷ olds) (b ∷ news) a f e = changed-at P place olds news a f.1 e

-- ---- steps

steps-append : (ts us : List Turn) (rs qs : Records) → length ts ≡ length rs → steps (ts ++ us) (map unread (rs ++ qs)) ≡ steps ts (map unread rs) ++ steps us (map unread qs)
steps-append [] us [] qs e = refl
steps-append [] us (r ∷ rs) qs e = absurd (omega (arith, e))
steps-append (t ∷ ts) us [] qs e = absurd (omega (arith, e))
steps-append (t ∷ ts) us (r ∷ rs) qs e = ap (λ ss. step t (unread r) ∷ ss) (steps-append ts us rs qs (omega (arith, e)))

module _ (s : Script) where
  named-after : (before h k : List (Step ObjectData)) → AreNamedTurns (script_world s) (RootIsNamed (script_world s)) before (h ++ k) → AreNamedTurns (script_world s) (RootIsNamed (script_world s)) (before ++ h) k
  named-after before [] k n = subst (λ b. AreNamedTurns (script_world s) (RootIsNamed (script_world s)) b k) (sym (append-nil before)) n
  named-after before (x ∷ h) k n =
      subst (λ b. AreNamedTurns (script_world s) (RootIsNamed (script_world s)) b k) (append_assoc before (x ∷ []) h) (named-after (before ++ x ∷ []) h k n.1)

  named-at : (h : List (Step ObjectData)) (t : Turn) (before xs : List (Exchange ObjectData)) (z : Exchange ObjectData) (zs : List (Exchange ObjectData)) → EachIsNamed (script_world s) (RootIsNamed (script_world s)) h t before (xs ++ z ∷ zs)
      → RootIsNamed (script_world s) z.source (exchanges_of z.source (exchanges_with h t (before ++ xs))) z
  named-at h t before [] z zs n = subst (λ b. RootIsNamed (script_world s) z.source (exchanges_of z.source (exchanges_with h t b)) z) (sym (append-nil before)) n.0
  named-at h t before (x ∷ xs) z zs n =
      subst (λ b. RootIsNamed (script_world s) z.source (exchanges_of z.source (exchanges_with h t b)) z) (append_assoc before (x ∷ []) xs) (named-at h t (before ++ x ∷ []) xs z zs n.1)

-- ---- names

-- whether it failed tells only of an item of a stream
brings-any : (initial f g : Bool) (a : Answer) → (a ≡ Item → ⊥) → brings_references initial f a ≡ brings_references initial g a
brings-any initial f g (Page token version) n = refl
brings-any initial f g Opened n = refl
brings-any initial f g (Added version) n = refl
brings-any initial f g (Modified version) n = refl
brings-any initial f g (Deleted version) n = refl
brings-any initial f g (Bookmark version ending) n = refl
brings-any initial f g (ErrorItem e) n = refl
brings-any initial f g (Fault error) n = refl
brings-any initial f g End n = refl
brings-any initial f g NotReady n = refl
brings-any initial f g Idle n = refl
brings-any initial f g Item n = absurd (n refl)
brings-any initial f g Spent n = refl

all-named : (xs : List ObjectData) → AllByRecursion (λ o. IsTrue (has_name o)) xs → list_all has_name xs ≡ true
all-named [] h = refl
all-named (x ∷ xs) h = rw (h.0) (all-named xs h.1)

names-hold : (b : Bool) (all : Bool) → (b ≡ true → all ≡ true) → not b || all ≡ false → ⊥
names-hold true all h e = let f = h refl in absurd (cc)
names-hold false all h e = absurd (cc)

module _ (s : Script) where
  -- what is recorded of an answer is named where what came is
  names-apart : (own : List (Exchange ObjectData)) (z : Exchange ObjectData) (raw : Raw ObjectData) → IsRecorded version_of s.root.watcher raw z → AreNamed (script_world s) own z → has_names has_name version_of own (OfCall raw) ≡ false → ⊥
  names-apart own z raw r n e = go r.answer
    where
      go : IsAnsweredBy version_of raw z.answer → ⊥
      go (AsItCame f) =
          let b = brings_references (is_initial own) false (answer_of version_of raw.answer) in
          let apart : z.answer ≡ Item → ⊥ = not-item version_of raw z.answer r.answer in
          let same : has_references (mark own z) ≡ b =
          brings-any (is_initial own) _ false z.answer apart ∙ ap (brings_references (is_initial own) false) f in
          names-hold b (list_all has_name (items_of raw.answer)) (λ h. ap (list_all has_name) (sym r.items) ∙ all-named z.items (n (same ∙ h))) e
      go (PastItsWindow c w f) =
          names-hold (brings_references (is_initial own) false (answer_of version_of raw.answer)) (list_all has_name (items_of raw.answer))
          (λ h. absurd (unready (ap (λ a. brings_references (is_initial own) false (answer_of version_of a)) (sym w) ∙ h))) e
        where
          unready : false ≡ true → ⊥
          unready x = absurd (cc)

-- ---- turns that end a run

-- a turn after these records is there, and has no record that goes on from them
record IsStop (s : Script) (rs : Records) : Type 0 where
  pub left : Apis
  pub played : IsPlayedTo s (first_turns s rs) rs left
  pub turn : Turn
  pub there : slice_get (turns_in s) (length rs) ≡ Some turn
  pub going : has_ended (made_by (first_turns s rs) rs) ≡ false
  pub apart : (r : TurnRecord ObjectData) (c : Apis) → IsRecord (script_world s) (policies_in s 0) (made_by (first_turns s rs) rs) turn (unread r)
      → EachIsNamed (script_world s) (RootIsNamed (script_world s)) (made_by (first_turns s rs) rs) turn [] r.exchanges → AreAnswered s (exchanges (made_by (first_turns s rs) rs)) left (dated r.at r.exchanges) c → ⊥

module _ (s : Script) where
  -- the refused turn
  record IsRefusedHere (h : List (Step ObjectData)) (ts : List Turn) (rs : Records) (why : TurnRefusal) : Type 0 where
    pub turn : Turn
    pub there : slice_get ts (length rs) ≡ Some turn
    pub going : has_ended (h ++ steps (take (length rs) ts) (map unread rs)) ≡ false
    pub cause : refusal (h ++ steps (take (length rs) ts) (map unread rs)) turn ≡ Some why

  refused-here : (h : List (Step ObjectData)) (ts : List Turn) (rs : Records) (why : TurnRefusal) → IsRefusedAfter (script_world s) (policies_in s) h ts (map unread rs) why → IsRefusedHere h ts rs why
  refused-here h [] rs why k = absurd k
  refused-here h (t ∷ ts) [] why k = record {
    turn = t;
    there = refl;
    going = subst (λ g. has_ended g ≡ false) (sym (append-nil h)) k.0;
    cause = subst (λ g. refusal g t ≡ Some why) (sym (append-nil h)) k.1;
  }
  refused-here h (t ∷ ts) (r ∷ rs) why k =
      let rest = refused-here (h ++ step t (unread r) ∷ []) ts rs why k.2 in
      let joined = append_assoc h (step t (unread r) ∷ []) (steps (take (length rs) ts) (map unread rs)) in
      record {
        turn = rest.turn;
        there = rest.there;
        going = subst (λ g. has_ended g ≡ false) joined rest.going;
        cause = subst (λ g. refusal g rest.turn ≡ Some why) joined rest.cause;
      }

  refused-stop : (rs : Records) (why : TurnRefusal) → IsRefusedNext s rs why → IsStop s rs
  refused-stop rs why k =
      let here = refused-here [] (turns_in s) rs why k.refused in
      record {
        left = k.played.0;
        played = k.played.1;
        turn = here.turn;
        there = here.there;
        going = here.going;
        apart = λ r c made names answered. none-is-some (refusal (made_by (first_turns s rs) rs) here.turn) why made.valid here.cause;
      }

  -- the history of these records
  abbrev hist_of : Records → List (Step ObjectData)
  hist_of rs = made_by (first_turns s rs) rs

  -- no exchange with its names comes where the script answers with an object that lacks one
  apart-at : (ds : List (Dated ObjectData)) (at : ℕ) (z : Exchange ObjectData) (a b : Apis) (asked after : Api) (raw : Raw ObjectData) (source : ℕ) → z.source ≡ source → z.call ≡ owed (feed_of (script_world s) z.source) (exchanges_of z.source ds)
      → RootIsNamed (script_world s) z.source (exchanges_of z.source ds) z → api_at a source ≡ Some asked → api.IsMove asked at raw after → IsOwedForm has_name version_of (feed_of (script_world s) source) (exchanges_of source ds) (OfCall raw)
      → has_names has_name version_of (exchanges_of source ds) (OfCall raw) ≡ false → IsPolledAt (root_answers s) (RelatedAnswers s) ds at z a.root a.related b.root b.related source → ⊥
  apart-at ds at z a b asked after raw zero mine owes named is_asked moved form unnamed p =
      let owes' : z.call ≡ owed (Watched s.root.watcher) (exchanges_of 0 ds) = subst (λ n. z.call ≡ owed (feed_of (script_world s) n) (exchanges_of n ds)) mine owes in
      let call : p.0.raw.call ≡ raw.call = some-same p.0.raw.call raw.call (sym p.0.recorded.call ∙ ap (raw_call s.root.watcher) owes' ∙ form.0) in
      let one = one-way a.root at p.0.raw raw b.root after p.0.moved (subst (λ v. api.IsMove v at raw after) (sym (some-same a.root asked is_asked)) moved) call in
      names-apart s (exchanges_of 0 ds) z raw (subst (λ v. IsRecorded version_of s.root.watcher v z) one.0 p.0.recorded) (subst (λ n. RootIsNamed (script_world s) n (exchanges_of n ds) z) mine named) unnamed
  apart-at ds at z a b asked after raw (suc place) mine owes named is_asked moved form unnamed p =
      let row = p.0.row in
      let fed = fed-at s.related place row p.0.there in
      let made = changed-at (λ c d. IsAnsweredMapped (type_in s) row (exchanges_of (suc place) ds) c at z d) place a.related b.related asked p.0.answered is_asked in
      let owes' : z.call ≡ owed (Watched row.source.watcher) (exchanges_of (suc place) ds) =
      subst (λ n. z.call ≡ owed (feed_of (script_world s) n) (exchanges_of n ds)) mine owes ∙ ap (λ feed. owed feed (exchanges_of (suc place) ds)) fed in
      let form' = subst (λ feed. IsOwedForm has_name version_of feed (exchanges_of (suc place) ds) (OfCall raw)) fed form in
      let call : made.1.raw.call ≡ raw.call = some-same made.1.raw.call raw.call (sym made.1.recorded.call ∙ ap (raw_call row.source.watcher) owes' ∙ form'.0) in
      let one = one-way asked at made.1.raw raw made.0 after made.1.moved moved call in
      let e : true ≡ false = sym made.1.named ∙ (ap (λ v. has_names has_name version_of (exchanges_of (suc place) ds) (OfCall v)) one.0 ∙ unnamed) in
      absurd (cc)

  -- so no exchange with its names follows those that were made before such an object came
  apart-next : (rs : Records) (source : ℕ) (u : IsUnnamedNext s rs source) (left : Apis) (xs : List (Exchange ObjectData)) (z : Exchange ObjectData) (zs : List (Exchange ObjectData)) → xs ≡ u.before ++ z ∷ zs
      → EachIsNamed (script_world s) (RootIsNamed (script_world s)) (made_by (first_turns s rs) rs) u.turn [] xs → EachIsNext (script_world s) (made_by (first_turns s rs) rs) u.turn u.before (z ∷ zs)
      → AreAnswered s (exchanges_with (made_by (first_turns s rs) rs) u.turn u.before) u.reached (dated u.turn.at (z ∷ zs)) left → ⊥
  apart-next rs source u left xs z zs same names each made =
      let h = made_by (first_turns s rs) rs in
      let ds = exchanges_with h u.turn u.before in
      let mine : z.source ≡ source = some-same z.source source (sym each.0.source ∙ u.unnamed.next) in
      let all = subst (λ vs. EachIsNamed (script_world s) (RootIsNamed (script_world s)) h u.turn [] vs) same names in
      apart-at ds u.turn.at z u.reached (record { root = made.0; related = made.1 }) u.asked u.after u.raw source mine each.0.fits.owes (named-at s h u.turn [] u.before z zs all) u.is_asked u.moved u.unnamed.owes
      u.unnamed.unnamed (subst (IsPolledAt (root_answers s) (RelatedAnswers s) ds u.turn.at z u.reached.root u.reached.related made.0 made.1) mine made.2)

  -- asks of a turn after these records, by what the script answers
  compared : (rs : Records) (t : Turn) (xs ys : List (Exchange ObjectData)) (a b c : Apis) → EachIsNext (script_world s) (made_by (first_turns s rs) rs) t [] xs → EachIsNext (script_world s) (made_by (first_turns s rs) rs) t [] ys
      → AreAnswered s (exchanges (made_by (first_turns s rs) rs)) a (dated t.at xs) b → AreAnswered s (exchanges (made_by (first_turns s rs) rs)) a (dated t.at ys) c
      → ((rest : List (Exchange ObjectData)) × (ys ≡ xs ++ rest) × EachIsNext (script_world s) (made_by (first_turns s rs) rs) t xs rest × AreAnswered s (exchanges_with (made_by (first_turns s rs) rs) t xs) b (dated t.at rest) c)
      ⊎ ((rest : List (Exchange ObjectData)) × (xs ≡ ys ++ rest) × EachIsNext (script_world s) (made_by (first_turns s rs) rs) t ys rest × AreAnswered s (exchanges_with (made_by (first_turns s rs) rs) t ys) c (dated t.at rest) b)
  compared rs t xs ys a b c k l p z =
      let h = made_by (first_turns s rs) rs in
      asks-compare (script_world s) (root_answers s) (RelatedAnswers s) (polls-determined s) h t [] xs ys (exchanges h) a.root b.root c.root a.related b.related c.related (sym (append-nil (exchanges h))) k l p z

  unnamed-apart : (rs : Records) (source : ℕ) (u : IsUnnamedNext s rs source) (r : TurnRecord ObjectData) (c : Apis) → IsRecord (script_world s) (policies_in s 0) (made_by (first_turns s rs) rs) u.turn (unread r)
      → EachIsNamed (script_world s) (RootIsNamed (script_world s)) (made_by (first_turns s rs) rs) u.turn [] r.exchanges → AreAnswered s (exchanges (made_by (first_turns s rs) rs)) u.left (dated r.at r.exchanges) c → ⊥
  unnamed-apart rs source u r c k names answered =
      let h = made_by (first_turns s rs) rs in
      let now = subst (λ at. AreAnswered s (exchanges h) u.left (dated at r.exchanges) c) (ap (λ (q : TurnRecord ObjectData). q.at) k.determined) answered in
      go (compared rs u.turn u.before r.exchanges u.left u.reached c u.unnamed.made k.asked u.answered now)
    where
      go : ((rest : List (Exchange ObjectData)) × (r.exchanges ≡ u.before ++ rest) × EachIsNext (script_world s) (hist_of rs) u.turn u.before rest × AreAnswered s (exchanges_with (hist_of rs) u.turn u.before) u.reached (dated u.turn.at rest) c)
          ⊎ ((rest : List (Exchange ObjectData)) × (u.before ≡ r.exchanges ++ rest) × EachIsNext (script_world s) (hist_of rs) u.turn r.exchanges rest × AreAnswered s (exchanges_with (hist_of rs) u.turn r.exchanges) c (dated u.turn.at rest) u.reached) → ⊥
      go (inl ([], same, each, made)) =
          none-is-some (next_source (script_world s) (hist_of rs) u.turn u.before) source (subst (λ xs. next_source (script_world s) (hist_of rs) u.turn xs ≡ None) (same ∙ append-nil u.before) k.done) u.unnamed.next
      go (inl (z ∷ zs, same, each, made)) = apart-next rs source u c r.exchanges z zs same names each made
      go (inr ([], same, each, made)) =
          none-is-some (next_source (script_world s) (hist_of rs) u.turn u.before) source (subst (λ xs. next_source (script_world s) (hist_of rs) u.turn xs ≡ None) (sym (same ∙ append-nil r.exchanges)) k.done) u.unnamed.next
      go (inr (z ∷ zs, same, each, made)) = none-is-some (next_source (script_world s) (hist_of rs) u.turn r.exchanges) z.source k.done each.0.source

  -- such an object comes from one source
  same-source : (rs : Records) (a b : ℕ) (u : IsUnnamedNext s rs a) (v : IsUnnamedNext s rs b) → a ≡ b
  same-source rs a b u v =
      let turn : v.turn ≡ u.turn = some-same v.turn u.turn (sym v.there ∙ u.there) in
      let left : v.left ≡ u.left = same-left s (first_turns s rs) rs v.left u.left v.played.trace v.played.answered u.played.answered in
      let h = made_by (first_turns s rs) rs in
      let made = subst (λ t. EachIsNext (script_world s) h t [] v.before) turn v.unnamed.made in
      let answered =
      subst (λ (t : Turn). AreAnswered s (exchanges h) u.left (dated t.at v.before) v.reached) turn (subst (λ l. AreAnswered s (exchanges h) l (dated v.turn.at v.before) v.reached) left v.answered) in
      go turn (compared rs u.turn u.before v.before u.left u.reached v.reached u.unnamed.made made u.answered answered)
    where
      same-next : v.turn ≡ u.turn → u.before ≡ v.before → a ≡ b
      same-next turn same =
          some-same a b
          (sym u.unnamed.next ∙ (ap (next_source (script_world s) (hist_of rs) u.turn) same ∙ (ap (λ t. next_source (script_world s) (hist_of rs) t v.before) (sym turn) ∙ v.unnamed.next)))

      go : v.turn ≡ u.turn
          → ((rest : List (Exchange ObjectData)) × (v.before ≡ u.before ++ rest) × EachIsNext (script_world s) (hist_of rs) u.turn u.before rest × AreAnswered s (exchanges_with (hist_of rs) u.turn u.before) u.reached (dated u.turn.at rest) v.reached)
          ⊎ ((rest : List (Exchange ObjectData)) × (u.before ≡ v.before ++ rest) × EachIsNext (script_world s) (hist_of rs) u.turn v.before rest × AreAnswered s (exchanges_with (hist_of rs) u.turn v.before) v.reached (dated u.turn.at rest) u.reached) → a ≡ b
      go turn (inl ([], same, each, made)) = same-next turn (sym (same ∙ append-nil u.before))
      go turn (inl (z ∷ zs, same, each, made)) =
          absurd (apart-next rs a u v.reached v.before z zs same (subst (λ t. EachIsNamed (script_world s) (RootIsNamed (script_world s)) (hist_of rs) t [] v.before) turn v.unnamed.each_named) each made)
      go turn (inr ([], same, each, made)) = same-next turn (same ∙ append-nil v.before)
      go turn (inr (z ∷ zs, same, each, made)) =
          absurd
          (apart-next rs b v u.reached u.before z zs same (subst (λ t. EachIsNamed (script_world s) (RootIsNamed (script_world s)) (hist_of rs) t [] u.before) (sym turn) u.unnamed.each_named)
          (subst (λ t. EachIsNext (script_world s) (hist_of rs) t v.before (z ∷ zs)) (sym turn) each) (subst (λ (t : Turn). AreAnswered s (exchanges_with (hist_of rs) t v.before) v.reached (dated t.at (z ∷ zs)) u.reached) (sym turn) made))

  unnamed-stop : (rs : Records) (source : ℕ) → IsUnnamedNext s rs source → IsStop s rs
  unnamed-stop rs source u = record { left = u.left; played = u.played; turn = u.turn; there = u.there; going = u.going; apart = unnamed-apart rs source u }

  cut-stop : (rs : Records) (r : Refusal) → IsCutBy s rs r → IsStop s rs
  cut-stop rs r (inl c) = refused-stop rs c.0 c.1
  cut-stop rs r (inr c) = unnamed-stop rs c.0 c.1

  stop-front : (rs : Records) → IsStop s rs → IsPlayedFront s rs
  stop-front rs st = (st.left, st.played)

  -- no trace goes past such a turn
  past-stop : (rs : Records) (st : IsStop s rs) (ts : List Turn) (qs : Records) (c : Apis) → slice_get ts (length rs) ≡ Some st.turn → take (length rs) ts ≡ first_turns s rs → IsPlayedTo s ts qs c → ⊥
  past-stop rs st ts qs c there front q =
      let n = length rs in
      let d = drop-there n ts st.turn there in
      let split : first_turns s rs ++ st.turn ∷ d.0 ≡ ts = ap₂ (λ us vs. us ++ vs) (sym front) (sym d.1) ∙ take-drop n ts in
      let p =
      script-begins s (first_turns s rs) (st.turn ∷ d.0) rs qs st.left c st.played.trace
      (subst (λ us. IsTrace (script_world s) (policies_in s) [] us (map unread qs)) (sym split) q.trace) st.played.answered q.answered in
      go d.0 split p.0 p.1 p.2 p.3
    where
      go : (more : List Turn) → first_turns s rs ++ st.turn ∷ more ≡ ts → (rest : Records) → qs ≡ rs ++ rest → IsTrace (script_world s) (policies_in s) (made_by (first_turns s rs) rs) (st.turn ∷ more) (map unread rest)
          → AreAnswered s (dated_in rs) st.left (dated_in rest) c → ⊥
      go more split [] same trace answered = absurd (ended-apart trace st.going)
        where
          ended-apart : has_ended (made_by (first_turns s rs) rs) ≡ true → has_ended (made_by (first_turns s rs) rs) ≡ false → ⊥
          ended-apart e f = absurd (cc)
      go more split (r ∷ rest) same trace answered =
          let long : length (first_turns s rs) ≡ length rs = length-there (length rs) (turns_in s) st.turn st.there in
          let all = steps-append (first_turns s rs) (st.turn ∷ more) rs (r ∷ rest) long in
          let whole : made_by ts qs ≡ made_by (first_turns s rs) rs ++ steps (st.turn ∷ more) (map unread (r ∷ rest)) = ap₂ (λ us vs. steps us (map unread vs)) (sym split) same ∙ all in
          let names = named-after s [] (made_by (first_turns s rs) rs) (steps (st.turn ∷ more) (map unread (r ∷ rest)))
          (subst (λ ss. AreNamedTurns (script_world s) (RootIsNamed (script_world s)) [] ss) whole q.named) in
          let made = polled-split (script_world s) (root_answers s) (RelatedAnswers s) (dated_in rs) st.left.root st.left.related (dated r.at r.exchanges) (dated_in rest) c.root c.related answered in
          let before : dated_in rs ≡ exchanges (made_by (first_turns s rs) rs) = sym (exchanges-are (script_world s) (policies_in s) [] (first_turns s rs) rs st.played.trace) in
          let left : Apis = record { root = made.0; related = made.1 } in
          st.apart r left trace.1 names.0 (subst (λ ds. AreAnswered s ds st.left (dated r.at r.exchanges) left) before made.2)

-- ---- fronts

module _ (s : Script) where
  -- a longer front begins with a shorter one
  fronts : (rs qs : Records) → length rs ≤ length qs → IsPlayedFront s rs → IsPlayedFront s qs → (rest : Records) × (qs ≡ rs ++ rest)
  fronts rs qs h p q =
      let b =
      script-begins s (first_turns s rs) (drop (length rs) (first_turns s qs)) rs qs p.0 q.0 p.1.trace
      (subst (λ us. IsTrace (script_world s) (policies_in s) [] us (map unread qs)) (sym (take-more (length rs) (length qs) (turns_in s) h)) q.1.trace) p.1.answered q.1.answered in
      (b.0, b.1)

  no-further : (rs qs : Records) → length rs < length qs → IsStop s rs → IsPlayedFront s qs → ⊥
  no-further rs qs h st q =
      past-stop s rs st (first_turns s qs) qs q.0 (get-take (length rs) (length qs) (turns_in s) st.turn h st.there) (take-less (length rs) (length qs) (turns_in s) (omega (arith, h))) q.1

  not-whole : (rs qs : Records) → IsStop s rs → IsPlayed s qs → ⊥
  not-whole rs qs st q = past-stop s rs st (turns_in s) qs q.0 st.there refl q.1

  whole-goes-on : (rs qs : Records) → IsPlayed s rs → IsPlayed s qs → (rest : Records) × (qs ≡ rs ++ rest)
  whole-goes-on rs qs p q =
      let b =
      script-begins s (turns_in s) [] rs qs p.0 q.0 p.1.trace
      (subst (λ us. IsTrace (script_world s) (policies_in s) [] us (map unread qs)) (sym (append-nil (turns_in s))) q.1.trace) p.1.answered q.1.answered in
      (b.0, b.1)

  same-whole : (rs qs : Records) → IsPlayed s rs → IsPlayed s qs → rs ≡ qs
  same-whole rs qs p q =
      let a = whole-goes-on rs qs p q in
      let b = whole-goes-on qs rs q p in
      same-both rs qs a.0 b.0 a.1 b.1

  same-stop : (rs qs : Records) → IsStop s rs → IsStop s qs → rs ≡ qs
  same-stop rs qs u v = go (either-less (length rs) (length qs)) (either-less (length qs) (length rs))
    where
      go : (length rs ≤ length qs) ⊎ (length qs < length rs) → (length qs ≤ length rs) ⊎ (length rs < length qs) → rs ≡ qs
      go (inl h) (inl k) =
          let p = fronts rs qs h (stop-front s rs u) (stop-front s qs v) in
          let q = fronts qs rs k (stop-front s qs v) (stop-front s rs u) in
          same-both rs qs p.0 q.0 p.1 q.1
      go (inr h) k = absurd (no-further qs rs h v (stop-front s rs u))
      go (inl h) (inr k) = absurd (no-further rs qs k u (stop-front s qs v))

  refused-or-not : (rs : Records) (why : TurnRefusal) (source : ℕ) → IsRefusedNext s rs why → IsUnnamedNext s rs source → ⊥
  refused-or-not rs why source p u =
      let x = refused-here s [] (turns_in s) rs why p.refused in
      let turn : x.turn ≡ u.turn = some-same x.turn u.turn (sym x.there ∙ u.there) in
      none-is-some (refusal (made_by (first_turns s rs) rs) u.turn) why u.unnamed.valid (ap (refusal (made_by (first_turns s rs) rs)) (sym turn) ∙ x.cause)

  -- and it ends for one cause
  same-cause : (rs : Records) (a b : Refusal) → IsCutBy s rs a → IsCutBy s rs b → a ≡ b
  same-cause rs a b (inl p) (inl q) =
      let x = refused-here s [] (turns_in s) rs p.0 p.1.refused in
      let y = refused-here s [] (turns_in s) rs q.0 q.1.refused in
      let turn : x.turn ≡ y.turn = some-same x.turn y.turn (sym x.there ∙ y.there) in
      let why : p.0 ≡ q.0 = some-same p.0 q.0 (sym x.cause ∙ ap (refusal (made_by (first_turns s rs) rs)) turn ∙ y.cause) in
      p.2 ∙ ap (refusal_at (length rs)) why ∙ sym q.2
  same-cause rs a b (inl p) (inr q) = absurd (refused-or-not rs p.0 q.0 p.1 q.1)
  same-cause rs a b (inr p) (inl q) = absurd (refused-or-not rs q.0 p.0 q.1 p.1)
  same-cause rs a b (inr p) (inr q) =
      p.2 ∙ ap (λ source. refusals.Unnamed source (length rs)) (same-source s rs p.0 q.0 p.1 q.1) ∙ sym q.2

-- ---- texts

abbrev Faults : Type 0
Faults = List (List (Option (List ℕ)))

lines-append : (n : ℕ) (fs : Faults) (rs qs : Records) → lines_of n fs (rs ++ qs) ≡ lines_of n fs rs ++ lines_of (n + length rs) (drop (length rs) fs) qs
lines-append n fs [] qs = ap (λ k. lines_of k fs qs) (omega arith)
lines-append n [] (r ∷ rs) qs =
    let same : n + 1 + length rs ≡ n + length (r ∷ rs) = omega arith in
    ap (λ ls. line_of n [] r ∷ ls)
    (lines-append (n + 1) [] rs qs ∙ ap₂ (λ k fs. lines_of (n + 1) [] rs ++ lines_of k fs qs) same (drop-none (length rs)))
lines-append n (f ∷ fs) (r ∷ rs) qs =
    let same : n + 1 + length rs ≡ n + length (r ∷ rs) = omega arith in
    ap (λ ls. line_of n f r ∷ ls) (lines-append (n + 1) fs rs qs ∙ ap (λ k. lines_of (n + 1) fs rs ++ lines_of k (drop (length rs) fs) qs) same)

text-append : (ls ms : List Line) → lines_text (ls ++ ms) ≡ lines_text ls ++ lines_text ms
text-append [] ms = refl
text-append (l ∷ ls) ms = ap (λ text. line_text l ++ text) (text-append ls ms) ∙ sym (append_assoc (line_text l) (lines_text ls) (lines_text ms))

module _ (s : Script) where
  -- the text of records after these
  abbrev text_after : Records → Records → List ℕ
  text_after rs rest = lines_text (lines_of (length rs) (drop (length rs) (all_faults s)) rest)

  text-begins : (rs qs rest : Records) → qs ≡ rs ++ rest → trace_text s qs ≡ trace_text s rs ++ text_after rs rest
  text-begins rs qs rest e =
      let from : 0 + length rs ≡ length rs = omega arith in
      ap (trace_text s) e
      ∙ (ap lines_text (lines-append 0 (all_faults s) rs rest ∙ ap (λ n. lines_of 0 (all_faults s) rs ++ lines_of n (drop (length rs) (all_faults s)) rest) from)
      ∙ text-append (lines_of 0 (all_faults s) rs) (lines_of (length rs) (drop (length rs) (all_faults s)) rest))

  front-of-whole : (xs ys : List ℕ) → IsFront s xs → IsWhole s ys → (rest : List ℕ) × (ys ≡ xs ++ rest)
  front-of-whole xs ys f w =
      let b =
      script-begins s (first_turns s f.0) (drop (length f.0) (turns_in s)) f.0 w.0 f.1.0 w.1.0 f.1.1.trace
      (subst (λ us. IsTrace (script_world s) (policies_in s) [] us (map unread w.0)) (sym (take-drop (length f.0) (turns_in s))) w.1.1.trace) f.1.1.answered w.1.1.answered in
      (text_after f.0 b.0, w.2 ∙ (text-begins f.0 w.0 b.0 b.1 ∙ ap (λ text. text ++ text_after f.0 b.0) (sym f.2)))

  front-of-cut : (xs ys : List ℕ) → IsFront s xs → IsCutOff s ys → (rest : List ℕ) × (ys ≡ xs ++ rest)
  front-of-cut xs ys f w = go (either-less (length f.0) (length w.0))
    where
      stop : IsStop s w.0
      stop = cut-stop s w.0 w.1 w.2

      go : (length f.0 ≤ length w.0) ⊎ (length w.0 < length f.0) → (rest : List ℕ) × (ys ≡ xs ++ rest)
      go (inl h) =
          let p = fronts s f.0 w.0 h f.1 (stop-front s w.0 (cut-stop s w.0 w.1 w.2)) in
          let after = text_after f.0 p.0 in
          let last = refusal_text w.1 in (
            after ++ last,
            w.3 ∙ (ap (λ text. text ++ last) (text-begins f.0 w.0 p.0 p.1) ∙ (append_assoc (trace_text s f.0) after last ∙ ap (λ text. text ++ (after ++ last)) (sym f.2))),
          )
      go (inr h) = absurd (no-further s w.0 f.0 h (cut-stop s w.0 w.1 w.2) f.1)

  same-cut-text : (xs ys : List ℕ) → IsCutOff s xs → IsCutOff s ys → xs ≡ ys
  same-cut-text xs ys p q =
      let records : p.0 ≡ q.0 = same-stop s p.0 q.0 (cut-stop s p.0 p.1 p.2) (cut-stop s q.0 q.1 q.2) in
      let why : p.1 ≡ q.1 = same-cause s q.0 p.1 q.1 (subst (λ rs. IsCutBy s rs p.1) records p.2) q.2 in
      p.3 ∙ (ap₂ (λ rs r. trace_text s rs ++ refusal_text r) records why ∙ sym q.3)

  same-whole-text : (xs ys : List ℕ) → IsWhole s xs → IsWhole s ys → xs ≡ ys
  same-whole-text xs ys p q = p.2 ∙ (ap (trace_text s) (same-whole s p.0 q.0 p.1 q.1) ∙ sym q.2)

  cut-or-whole : (xs ys : List ℕ) → IsCutOff s xs → IsWhole s ys → ⊥
  cut-or-whole xs ys p q = not-whole s p.0 q.0 (cut-stop s p.0 p.1 p.2) q.1

-- ---- ends

run-once : (s : Script) (d e : Status) (xs ys : List ℕ) → Ends d (Ok s) xs → Ends e (Ok s) ys → (d ≡ e) × (xs ≡ ys)
run-once s status.Done status.Done xs ys h k = (refl, same-whole-text s xs ys h k)
run-once s status.Done status.BadRun xs ys h k = absurd (cut-or-whole s ys xs k h)
run-once s status.BadRun status.Done xs ys h k = absurd (cut-or-whole s xs ys h k)
run-once s status.BadRun status.BadRun xs ys h k = (refl, same-cut-text s xs ys h k)
run-once s status.Usage e xs ys h k = absurd h
run-once s status.BadScript e xs ys h k = absurd h
run-once s status.ReadFault e xs ys h k = absurd h
run-once s status.WriteFault e xs ys h k = absurd h
run-once s status.NoMemory e xs ys h k = absurd h
run-once s d status.Usage xs ys h k = absurd k
run-once s d status.BadScript xs ys h k = absurd k
run-once s d status.ReadFault xs ys h k = absurd k
run-once s d status.WriteFault xs ys h k = absurd k
run-once s d status.NoMemory xs ys h k = absurd k

ends-err : (e : Status) (c : Cause) (xs : List ℕ) → Ends e (Err c) xs → (e ≡ status.BadScript) × (xs ≡ refusal_text (refusal_of c))
ends-err status.BadScript c xs h = (refl, h)
ends-err status.BadRun c xs h = absurd h
ends-err status.Done c xs h = absurd h
ends-err status.Usage c xs h = absurd h
ends-err status.ReadFault c xs h = absurd h
ends-err status.WriteFault c xs h = absurd h
ends-err status.NoMemory c xs h = absurd h

pub ends-once : (input : Result Script Cause) (d e : Status) (xs ys : List ℕ) → Ends d input xs → Ends e input ys → (d ≡ e) × (xs ≡ ys)
ends-once (Ok s) d e xs ys h k = run-once s d e xs ys h k
ends-once (Err c) d e xs ys h k =
    let p = ends-err d c xs h in
    let q = ends-err e c ys k in
    (p.0 ∙ sym q.0, p.1 ∙ sym q.1)

all-begins : (xs ys : List ℕ) → xs ≡ ys → (rest : List ℕ) × (ys ≡ xs ++ rest)
all-begins xs ys e = ([], sym e ∙ sym (append-nil xs))

run-begins : (s : Script) (e : Status) (xs ys : List ℕ) → IsFront s xs ⊎ IsCutOff s xs → Ends e (Ok s) ys → (rest : List ℕ) × (ys ≡ xs ++ rest)
run-begins s status.Done xs ys (inl f) k = front-of-whole s xs ys f k
run-begins s status.Done xs ys (inr c) k = absurd (cut-or-whole s xs ys c k)
run-begins s status.BadRun xs ys (inl f) k = front-of-cut s xs ys f k
run-begins s status.BadRun xs ys (inr c) k = all-begins xs ys (same-cut-text s xs ys c k)
run-begins s status.Usage xs ys h k = absurd k
run-begins s status.BadScript xs ys h k = absurd k
run-begins s status.ReadFault xs ys h k = absurd k
run-begins s status.WriteFault xs ys h k = absurd k
run-begins s status.NoMemory xs ys h k = absurd k

pub begins-the-end : (input : Result Script Cause) (e : Status) (xs ys : List ℕ) → IsBegun input xs → Ends e input ys → (rest : List ℕ) × (ys ≡ xs ++ rest)
begins-the-end (Ok s) e xs ys h k = run-begins s e xs ys h k
begins-the-end (Err c) e xs ys h k = all-begins xs ys (h ∙ sym (ends-err e c ys k).1)
