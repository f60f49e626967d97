-- One more exchange of a watcher: what was seen, what is owed, and since when it is silent.
use Rattle.std.proofs.Common.{◌≡◌, ℕ, Bool, true, false, not, List, [], ◌∷◌, ◌++◌, Option, Some, None, unwrap_or, if◌then◌else◌, refl, ap, ◌∙◌, append-nil}
use Rattle.std.specs.List.{filter_map, find, cons_option}
use Rattle.std.specs.Option.{option_map, option_or}
use Rattle.std.proofs.lemmas.List.Elements.{filter_map-append}
use Rattle.std.proofs.lemmas.List.Folds.{find-append}
use Rattle.kube_model.specs.declared.call.Call.{Call}
use Rattle.kube_model.specs.declared.call.Answer.{Answer}
use Rattle.kube_model.specs.declared.call.Answer.TheVariants.{Page, Opened, Added, Modified, Deleted, Bookmark, ErrorItem, Fault, End, NotReady, Idle, Item, Spent}
use Rattle.kube_model.specs.World.{Settings, Watched}
use Rattle.kube_model.specs.History.{Exchange, Dated}
use Rattle.kube_model.specs.Cuts.{last, after_last}
use Rattle.kube_model.specs.Owed.{mark, marks, version_seen, seen, is_initial, is_next, is_not_ready, owed, owed_by, owed_after, answered}
use Rattle.kube_model.specs.Fits.{silent_since}
use Rattle.kube_model.specs.SecondForms.{initial_after}
use Rattle.kube_model.proofs.Lasts.{last-push, after_last-hit, after_last-miss}
use Rattle.kube_model.proofs.Marks.{filter-hit, filter-miss, initial-push, marks-push}
use Rattle.kube_watch.specs.States.{since_after}

-- what was seen, after one more
abbrev pub seen_after : {O : Type 0} → Bool → List ℕ → Exchange O → List ℕ
seen_after initial kept x = unwrap_or (version_seen (record { initial = initial; exchange = x })) kept

-- what is owed, after one more
abbrev pub owed_next : {O : Type 0} → Settings → Bool → List ℕ → Call → Exchange O → Call
owed_next settings initial kept before x =
    if is_not_ready x.answer then before else owed_after settings (initial_after initial x) (seen_after initial kept x) x

last-option : {A : Type 0} (xs : List A) (o : Option A) (a : A) → unwrap_or (last (xs ++ cons_option o [])) a ≡ unwrap_or o (unwrap_or (last xs) a)
last-option xs None a = ap (λ ys. unwrap_or (last ys) a) (append-nil xs)
last-option xs (Some b) a = ap (λ o. unwrap_or o a) (last-push xs b)

pub waits : (a : Answer) → is_not_ready a ≡ true → a ≡ NotReady
waits NotReady h = refl
waits (Page token version) h = cc
waits Opened h = cc
waits (Added version) h = cc
waits (Modified version) h = cc
waits (Deleted version) h = cc
waits (Bookmark version ending) h = cc
waits (ErrorItem status) h = cc
waits (Fault error) h = cc
waits End h = cc
waits Idle h = cc
waits Item h = cc
waits Spent h = cc

module _ {O : Type 0} where
  pub seen-push : (xs : List (Exchange O)) (x : Exchange O) → seen (xs ++ x ∷ []) ≡ seen_after (is_initial xs) (seen xs) x
  seen-push xs x =
      ap (λ ms. unwrap_or (last (filter_map version_seen ms)) []) (marks-push xs x)
      ∙ (ap (λ vs. unwrap_or (last vs) []) (filter_map-append version_seen (marks xs) (mark xs x ∷ []))
      ∙ last-option (filter_map version_seen (marks xs)) (version_seen (mark xs x)) [])

  -- what an exchange that was not ready leaves
  initial-waits : (i : Bool) (x : Exchange O) → x.answer ≡ NotReady → initial_after i x ≡ i
  initial-waits i x e = ap (λ a. initial_after i (record x { answer = a })) e

  seen-waits : (i : Bool) (k : List ℕ) (x : Exchange O) → x.answer ≡ NotReady → seen_after i k x ≡ k
  seen-waits i k x e = ap (λ a. seen_after i k (record x { answer = a })) e

  owed-by : (settings : Settings) (xs : List (Exchange O)) (x : Exchange O) (b : Bool) → is_not_ready x.answer ≡ b
      → owed (Watched settings) (xs ++ x ∷ [])
      ≡ (if b then owed (Watched settings) xs else owed_after settings (initial_after (is_initial xs) x) (seen_after (is_initial xs) (seen xs) x) x)
  owed-by settings xs x true e =
      let w = waits x.answer e in
      let ys = xs ++ x ∷ [] in
      ap (λ zs. owed_by settings (is_initial ys) (seen ys) (last zs)) (filter-miss (λ y. not (is_not_ready y.answer)) xs x (ap not e))
      ∙ (ap (λ i. owed_by settings i (seen ys) (last (answered xs))) (initial-push xs x ∙ initial-waits (is_initial xs) x w)
      ∙ ap (λ k. owed_by settings (is_initial xs) k (last (answered xs))) (seen-push xs x ∙ seen-waits (is_initial xs) (seen xs) x w))
  owed-by settings xs x false e =
      let ys = xs ++ x ∷ [] in
      ap (λ zs. owed_by settings (is_initial ys) (seen ys) (last zs)) (filter-hit (λ y. not (is_not_ready y.answer)) xs x (ap not e))
      ∙ (ap (λ o. owed_by settings (is_initial ys) (seen ys) o) (last-push (answered xs) x)
      ∙ (ap (λ i. owed_after settings i (seen ys) x) (initial-push xs x)
      ∙ ap (λ k. owed_after settings (initial_after (is_initial xs) x) k x) (seen-push xs x)))

  pub owed-push : (settings : Settings) (xs : List (Exchange O)) (x : Exchange O)
      → owed (Watched settings) (xs ++ x ∷ []) ≡ owed_next settings (is_initial xs) (seen xs) (owed (Watched settings) xs) x
  owed-push settings xs x = owed-by settings xs x (is_not_ready x.answer) refl

  abbrev is_answered : Dated O → Bool
  is_answered d = not (is_not_ready d.exchange.answer)

  abbrev is_look : Dated O → Bool
  is_look d = is_next d.exchange.call

  or-none : (o : Option (Dated O)) → option_or o None ≡ o
  or-none None = refl
  or-none (Some d) = refl

  or-some : (o : Option (Dated O)) (d : Dated O) → option_map (λ (e : Dated O). e.at) (option_or o (Some d)) ≡ Some (unwrap_or (option_map (λ (e : Dated O). e.at) o) d.at)
  or-some None d = refl
  or-some (Some e) d = refl

  or-look : (o : Option (Dated O)) (d : Dated O) (b : Bool) → is_look d ≡ b
      → option_map (λ (e : Dated O). e.at) (option_or o (find is_look (d ∷ [])))
      ≡ (if b then Some (unwrap_or (option_map (λ (e : Dated O). e.at) o) d.at) else option_map (λ (e : Dated O). e.at) o)
  or-look o d true h = ap (λ c. option_map (λ (e : Dated O). e.at) (option_or o (if c then Some d else None))) h ∙ or-some o d
  or-look o d false h =
      ap (λ c. option_map (λ (e : Dated O). e.at) (option_or o (if c then Some d else None))) h
      ∙ ap (λ p. option_map (λ (e : Dated O). e.at) p) (or-none o)

  silent-waits : (ds : List (Dated O)) (d : Dated O) → is_not_ready d.exchange.answer ≡ true
      → silent_since (ds ++ d ∷ []) ≡ (if is_next d.exchange.call then Some (unwrap_or (silent_since ds) d.at) else silent_since ds)
  silent-waits ds d h =
      ap (λ es. option_map (λ (e : Dated O). e.at) (find is_look es)) (after_last-miss is_answered ds d (ap not h))
      ∙ (ap (λ o. option_map (λ (e : Dated O). e.at) o) (find-append is_look (after_last is_answered ds) (d ∷ []))
      ∙ or-look (find is_look (after_last is_answered ds)) d (is_look d) refl)

  silent-answered : (ds : List (Dated O)) (d : Dated O) → is_not_ready d.exchange.answer ≡ false → silent_since (ds ++ d ∷ []) ≡ None
  silent-answered ds d h = ap (λ es. option_map (λ (e : Dated O). e.at) (find is_look es)) (after_last-hit is_answered ds d (ap not h))

  silent-by : (ds : List (Dated O)) (d : Dated O) (a : Answer) → d.exchange.answer ≡ a → silent_since (ds ++ d ∷ []) ≡ since_after (silent_since ds) d.at d.exchange.call a
  silent-by ds d NotReady e = silent-waits ds d (ap is_not_ready e)
  silent-by ds d (Page token version) e = silent-answered ds d (ap is_not_ready e)
  silent-by ds d Opened e = silent-answered ds d (ap is_not_ready e)
  silent-by ds d (Added version) e = silent-answered ds d (ap is_not_ready e)
  silent-by ds d (Modified version) e = silent-answered ds d (ap is_not_ready e)
  silent-by ds d (Deleted version) e = silent-answered ds d (ap is_not_ready e)
  silent-by ds d (Bookmark version ending) e = silent-answered ds d (ap is_not_ready e)
  silent-by ds d (ErrorItem status) e = silent-answered ds d (ap is_not_ready e)
  silent-by ds d (Fault error) e = silent-answered ds d (ap is_not_ready e)
  silent-by ds d End e = silent-answered ds d (ap is_not_ready e)
  silent-by ds d Idle e = silent-answered ds d (ap is_not_ready e)
  silent-by ds d Item e = silent-answered ds d (ap is_not_ready e)
  silent-by ds d Spent e = silent-answered ds d (ap is_not_ready e)

  pub silent-push : (ds : List (Dated O)) (d : Dated O) → silent_since (ds ++ d ∷ []) ≡ since_after (silent_since ds) d.at d.exchange.call d.exchange.answer
  silent-push ds d = silent-by ds d d.exchange.answer refl
