-- A watcher's part of the definitions looks at calls and answers alone.
use Rattle.std.proofs.Common.{◌≡◌, ℕ, Bool, true, false, not, ◌||◌, cond, List, [], ◌∷◌, ◌++◌, map, Option, Some, None, unwrap_or, if◌then◌else◌, refl, sym, ap, ◌∙◌}
use Rattle.std.specs.List.{filter_map, find, fold, list_any, last_or, cons_option}
use Rattle.std.specs.Option.{option_map}
use Rattle.std.proofs.lemmas.List.{map-append}
use Rattle.kube_model.specs.World.{Settings, Watched}
use Rattle.kube_model.specs.History.{Dated, Exchange}
use Rattle.kube_model.specs.Cuts.{last, after_last}
use Rattle.kube_model.specs.Owed.{owed, owed_by, answered, is_initial, is_next, is_not_ready, seen, mark, marks_after, version_seen}
use Rattle.kube_model.specs.SecondForms.{initial_after}
use Rattle.kube_model.specs.Fits.{silent_since}
use Rattle.kube_model.proofs.Marks.{initial-fold}
use Rattle.kube_model.specs.Shapes.{shape, shapes, dated_shapes}

last-map : {A B : Type 0} (f : A → B) (o : Option A) (xs : List A) → last_or (option_map f o) (map f xs) ≡ option_map f (last_or o xs)
last-map f o [] = refl
last-map f o (x ∷ xs) = last-map f (Some x) xs

module _ {O : Type 0} (V : Type 0) where
  abbrev shaped : List (Exchange O) → List (Exchange V)
  shaped xs = shapes xs

  folds : (b : Bool) (xs : List (Exchange O)) → fold initial_after b (shaped xs) ≡ fold initial_after b xs
  folds b [] = refl
  folds b (x ∷ xs) = folds (initial_after b x) xs

  pub initial-shape : (xs : List (Exchange O)) → is_initial (shaped xs) ≡ is_initial xs
  initial-shape xs = initial-fold (shaped xs) ∙ (folds false xs ∙ sym (initial-fold xs))

  versions : (before xs : List (Exchange O)) → filter_map version_seen (marks_after (shaped before) (shaped xs)) ≡ filter_map version_seen (marks_after before xs)
  versions before [] = refl
  versions before (x ∷ xs) =
      ap (λ b. cons_option (version_seen (record { initial = b; exchange = shape {V = V} x })) (filter_map version_seen (marks_after (shaped before ++ shape x ∷ []) (shaped xs)))) (initial-shape before)
      ∙ ap (cons_option (version_seen (mark before x)))
      (ap (λ ys. filter_map version_seen (marks_after ys (shaped xs))) (sym (map-append (λ (y : Exchange O). shape y) before (x ∷ []))) ∙ versions (before ++ x ∷ []) xs)

  pub seen-shape : (xs : List (Exchange O)) → seen (shaped xs) ≡ seen xs
  seen-shape xs = ap (λ vs. unwrap_or (last vs) []) (versions [] xs)

  answered-shape : (xs : List (Exchange O)) → answered (shaped xs) ≡ shaped (answered xs)
  answered-shape [] = refl
  answered-shape (x ∷ xs) = go (not (is_not_ready x.answer)) (answered-shape xs)
    where
      go : (b : Bool) → answered (shaped xs) ≡ shaped (answered xs) → (if b then shape x ∷ answered (shaped xs) else answered (shaped xs)) ≡ shaped (if b then x ∷ answered xs else answered xs)
      go true e = ap (λ ys. shape x ∷ ys) e
      go false e = e

  owed-by : (s : Settings) (i : Bool) (v : List ℕ) (o : Option (Exchange O)) → owed_by s i v (option_map (λ x. shape {V = V} x) o) ≡ owed_by s i v o
  owed-by s i v None = refl
  owed-by s i v (Some x) = refl

  pub owed-shape : (s : Settings) (xs : List (Exchange O)) → owed (Watched s) (shaped xs) ≡ owed (Watched s) xs
  owed-shape s xs =
      ap (λ b. owed_by s b (seen (shaped xs)) (last (answered (shaped xs)))) (initial-shape xs)
      ∙ (ap (λ v. owed_by s (is_initial xs) v (last (answered (shaped xs)))) (seen-shape xs)
      ∙ (ap (λ ys. owed_by s (is_initial xs) (seen xs) (last ys)) (answered-shape xs)
      ∙ (ap (owed_by s (is_initial xs) (seen xs)) (last-map (λ x. shape x) None (answered xs))
      ∙ owed-by s (is_initial xs) (seen xs) (last (answered xs)))))

  abbrev dated : List (Dated O) → List (Dated V)
  dated ds = dated_shapes ds

  any-dated : (ds : List (Dated O)) → list_any (λ d. not (is_not_ready d.exchange.answer)) (dated ds) ≡ list_any (λ d. not (is_not_ready d.exchange.answer)) ds
  any-dated [] = refl
  any-dated (d ∷ ds) = ap (λ b. not (is_not_ready d.exchange.answer) || b) (any-dated ds)

  if-dated : (b c : Bool) (us : List (Dated V)) (vs ws zs : List (Dated O)) → us ≡ dated vs → (if b then us else if c then dated ws else dated zs) ≡ dated (if b then vs else if c then ws else zs)
  if-dated true c us vs ws zs e = e
  if-dated false true us vs ws zs e = refl
  if-dated false false us vs ws zs e = refl

  after-dated : (ds : List (Dated O)) → after_last (λ d. not (is_not_ready d.exchange.answer)) (dated ds) ≡ dated (after_last (λ d. not (is_not_ready d.exchange.answer)) ds)
  after-dated [] = refl
  after-dated (d ∷ ds) =
      ap (λ b. if b then after_last (λ e. not (is_not_ready e.exchange.answer)) (dated ds) else if not (is_not_ready d.exchange.answer) then dated ds else dated (d ∷ ds)) (any-dated ds)
      ∙ if-dated (list_any (λ e. not (is_not_ready e.exchange.answer)) ds) (not (is_not_ready d.exchange.answer)) _ _ ds (d ∷ ds) (after-dated ds)

  find-dated : (ds : List (Dated O)) → option_map (λ (d : Dated V). d.at) (find (λ d. is_next d.exchange.call) (dated ds)) ≡ option_map (λ (d : Dated O). d.at) (find (λ d. is_next d.exchange.call) ds)
  find-dated [] = refl
  find-dated (d ∷ ds) = go (is_next d.exchange.call) (find-dated ds)
    where
      go : (b : Bool) → option_map (λ (e : Dated V). e.at) (find (λ e. is_next e.exchange.call) (dated ds)) ≡ option_map (λ (e : Dated O). e.at) (find (λ e. is_next e.exchange.call) ds)
          → option_map (λ (e : Dated V). e.at) (cond b (Some (record { at = d.at; exchange = shape d.exchange })) (find (λ e. is_next e.exchange.call) (dated ds))) ≡ option_map (λ (e : Dated O). e.at) (cond b (Some d) (find (λ e. is_next e.exchange.call) ds))
      go true e = refl
      go false e = e

  pub silent-shape : (ds : List (Dated O)) → silent_since (dated ds) ≡ silent_since ds
  silent-shape ds = ap (λ es. option_map (λ (d : Dated V). d.at) (find (λ d. is_next d.exchange.call) es)) (after-dated ds) ∙ find-dated (after_last (λ d. not (is_not_ready d.exchange.answer)) ds)
