-- At one moment a watcher idles at most once.
use Rattle.std.proofs.Common.{◌≡◌, ℕ, ◌+◌, ◌*◌, ◌≤◌, Bool, true, false, List, [], ◌∷◌, ◌++◌, Option, Some, None, ◌⊎◌, inl, inr, unwrap_or, if◌then◌else◌, IsTrue, refl, sym, ap, ◌∙◌, subst, arith, nat_le, ◌==◌}
use Rattle.std.proofs.lemmas.Bool.Decides.{nat_tests}
use Rattle.kube_model.specs.declared.call.Call.{Call}
use Rattle.kube_model.specs.declared.call.Call.TheVariants.{List as ListCall, Watch, Next, Stream}
use Rattle.kube_model.specs.declared.call.Answer.{Answer}
use Rattle.kube_model.specs.declared.call.Answer.TheVariants.{Page, Opened, Added, Modified, Deleted, Bookmark, ErrorItem, Fault, End, NotReady, Idle, Item, Spent}
use Rattle.kube_model.specs.World.{Settings, window_after}
use Rattle.kube_model.specs.History.{Dated, Exchange}
use Rattle.kube_model.specs.Owed.{is_next}
use Rattle.kube_model.specs.Fits.{answers, idle_fits, is_window_over, silent_since}
use Rattle.kube_watch.specs.Idling.{idle_count, idles}
use Rattle.kube_watch.specs.Polls.{IsNext, AreNext, dated_now}
use Rattle.kube_watch.specs.States.{since_after}
use Rattle.kube_watch.proofs.Pushes.{silent-push}

-- no silence, or one that began now
abbrev Fresh : ℕ → Option ℕ → Type 0
Fresh now since = (since ≡ None) ⊎ (since ≡ Some now)

not-zero : (s : ℕ) → ((s + 5) * 1000000000 == 0) ≡ false
not-zero s = grind (arith, nat_tests)

not-reached : (s now : ℕ) → nat_le (now + (s + 5) * 1000000000) now ≡ false
not-reached s now = grind (arith, nat_tests)

-- its window is not over
not-over : (s now : ℕ) (b : Bool) (since : Option ℕ) → Fresh now since → is_window_over (if b then None else Some ((s + 5) * 1000000000)) since now ≡ false
not-over s now true since fresh = refl
not-over s now false since (inl none) = ap (λ o. is_window_over (Some ((s + 5) * 1000000000)) o now) none ∙ not-zero s
not-over s now false since (inr some) = ap (λ o. is_window_over (Some ((s + 5) * 1000000000)) o now) some ∙ not-reached s now

looked : (now : ℕ) (since : Option ℕ) (b : Bool) → Fresh now since → Fresh now (if b then Some (unwrap_or since now) else since)
looked now since true (inl none) = inr (ap (λ o. Some (unwrap_or o now)) none)
looked now since true (inr some) = inr (ap (λ o. Some (unwrap_or o now)) some)
looked now since false fresh = fresh

fresh-after : (now : ℕ) (since : Option ℕ) (c : Call) (a : Answer) → Fresh now since → Fresh now (since_after since now c a)
fresh-after now since c NotReady fresh = looked now since (is_next c) fresh
fresh-after now since c (Page token version) fresh = inl refl
fresh-after now since c Opened fresh = inl refl
fresh-after now since c (Added version) fresh = inl refl
fresh-after now since c (Modified version) fresh = inl refl
fresh-after now since c (Deleted version) fresh = inl refl
fresh-after now since c (Bookmark version ending) fresh = inl refl
fresh-after now since c (ErrorItem status) fresh = inl refl
fresh-after now since c (Fault error) fresh = inl refl
fresh-after now since c End fresh = inl refl
fresh-after now since c Idle fresh = inl refl
fresh-after now since c Item fresh = inl refl
fresh-after now since c Spent fresh = inl refl

idle-or-not : (a : Answer) → (a ≡ Idle) ⊎ (idle_count a ≡ 0)
idle-or-not NotReady = inr refl
idle-or-not (Page token version) = inr refl
idle-or-not Opened = inr refl
idle-or-not (Added version) = inr refl
idle-or-not (Modified version) = inr refl
idle-or-not (Deleted version) = inr refl
idle-or-not (Bookmark version ending) = inr refl
idle-or-not (ErrorItem status) = inr refl
idle-or-not (Fault error) = inr refl
idle-or-not End = inr refl
idle-or-not Idle = inl refl
idle-or-not Item = inr refl
idle-or-not Spent = inr refl

-- a look alone idles
looks-idle : (c : Call) → IsTrue (answers c Idle) → IsTrue (is_next c)
looks-idle (ListCall token) h = cc
looks-idle (Watch version initial) h = cc
looks-idle Next h = h
looks-idle Stream h = cc

module _ {O : Type 0} (settings : Settings) (now : ℕ) where
  -- it is over where an exchange idles
  over : (ds : List (Dated O)) (x : Exchange O) → IsNext settings ds now x → x.answer ≡ Idle → is_window_over (window_after settings.timeout) (silent_since ds) now ≡ true
  over ds x next idle =
      subst (λ a. IsTrue (idle_fits (is_window_over (window_after settings.timeout) (silent_since ds) now) a)) idle
      (next.idle (looks-idle x.call (subst (λ a. IsTrue (answers x.call a)) idle next.answered)))

  fresh-push : (ds : List (Dated O)) (x : Exchange O) → Fresh now (silent_since ds) → Fresh now (silent_since (ds ++ dated_now now x ∷ []))
  fresh-push ds x fresh = subst (λ o. Fresh now o) (sym (silent-push ds (dated_now now x))) (fresh-after now (silent_since ds) x.call x.answer fresh)

  none-idle : (ds : List (Dated O)) (xs : List (Exchange O)) → Fresh now (silent_since ds) → AreNext settings ds now xs → idles xs ≡ 0
  none-idle ds [] fresh made = refl
  none-idle ds (x ∷ xs) fresh made =
      elim (idle-or-not x.answer) [
        | inl idle ↦ absurd (let a = over ds x made.0 idle in let b = not-over (unwrap_or settings.timeout 290) now (unwrap_or settings.timeout 290 == 0) (silent_since ds) fresh in cc)
        | inr none ↦ let rest = none-idle (ds ++ dated_now now x ∷ []) xs (fresh-push ds x fresh) made.1 in omega arith
      ]

  pub idles-once : (ds : List (Dated O)) (xs : List (Exchange O)) → AreNext settings ds now xs → idles xs ≤ 1
  idles-once ds [] made = omega arith
  idles-once ds (x ∷ xs) made =
      elim (idle-or-not x.answer) [
        | inl idle ↦
            let since : silent_since (ds ++ dated_now now x ∷ []) ≡ None = silent-push ds (dated_now now x) ∙ ap (since_after (silent_since ds) now x.call) idle in
            let none = none-idle (ds ++ dated_now now x ∷ []) xs (inl since) made.1 in
            let one = ap idle_count idle in
            omega arith
        | inr none ↦ let rest = idles-once (ds ++ dated_now now x ∷ []) xs made.1 in omega arith
      ]
