-- What pending operations make of a copy.
use Rattle.std.specs.Prelude.{MatchResult, OnOk, Result, Ok, Err}
use Rattle.std.proofs.Common.{◌≡◌, Bool, true, false, ◌||◌, List, [], ◌∷◌, ◌++◌, fold, refl, ap, ap₂, sym, subst, ◌∙◌, append_assoc}
use Rattle.std.specs.List.{list_any}
use Rattle.std.specs.Arc.{arc_value}
use Rattle.std.proofs.lemmas.List.{append-nil}
use Rattle.std.proofs.lemmas.List.Sums.{fold-append}
use Rattle.kube_meta.specs.declared.metadata.ObjectMeta.{ObjectMeta}
use Rattle.kube_meta.specs.Reference.{ObjectType, Reference}
use Rattle.kube_meta.specs.Keys.{key_of}
use Rattle.kube_watch.specs.declared.event.Event.{Event}
use Rattle.kube_watch.specs.Events.{event_map}
use Rattle.kube_reflect.specs.Cached.{Kept, applied, nothing, kept_after}
use Rattle.kube_reflect.specs.declared.copies.copied.Copied.{Copied}
use Rattle.kube_reflect.specs.declared.copies.copied.State.{State}
use Rattle.kube_reflect.specs.declared.copies.copied.Op.{Op}
use Rattle.kube_reflect.specs.declared.copies.copied.Op.TheVariants.{Add, End as AddEnd, Name}
use Rattle.kube_reflect.specs.declared.copies.law.Entry.{Entry}
use Rattle.kube_reflect.specs.declared.copies.law.Entry.TheVariants.{Told, End}
use Rattle.kube_reflect.specs.declared.copies.mark.Mark.{Mark}
use Rattle.kube_reflect.specs.declared.copies.mark.Origin.{Origin}
use Rattle.kube_reflect.specs.declared.copies.rule.View.{View}
use Rattle.kube_reflect.specs.Entries.{after_entry, kept_by, has_end, is_end, is_readable, entries_of, told_in}
use Rattle.kube_reflect.specs.Copies.{worked, state_of, added}
use Rattle.kube_reflect.specs.Ties.{Home, IsTied, home_of, home_at}
use Rattle.kube_reflect.specs.Ruled.{IsTrue, Saw, kept_for}
use Rattle.kube_reflect.specs.Behind.{IsBehind, IsLastName}
use Rattle.kube_reflect.proofs.Publishing.{ended_told, kept_told}

pub any-append : {A : Type 0} (p : A → Bool) (xs ys : List A) → list_any p (xs ++ ys) ≡ (list_any p xs || list_any p ys)
any-append p [] ys = refl
any-append p (x ∷ xs) ys = go (p x) (any-append p xs ys)
  where
    go : (b : Bool) → list_any p (xs ++ ys) ≡ (list_any p xs || list_any p ys) → (b || list_any p (xs ++ ys)) ≡ ((b || list_any p xs) || list_any p ys)
    go true h = refl
    go false h = h

pub or-true : (b : Bool) → (b || true) ≡ true
or-true true = refl
or-true false = refl

pub or-false : (b : Bool) → (b || false) ≡ b
or-false true = refl
or-false false = refl

module _ {O : Type 0} (key : O → Reference) where
  kept_from : (k : Kept O) (es : List (Event O)) → fold (after_entry key) k (entries_of es) ≡ fold (applied key) k es
  kept_from k [] = refl
  kept_from k (e ∷ es) = kept_from (applied key k e) es

  -- the entries of events make what the events make
  pub kept_same : (es : List (Event O)) → kept_by key (entries_of es) ≡ kept_after key es
  kept_same es = kept_from nothing es

module _ {K : Type 0} where
  pub added-append : (xs ys : List (Op K)) → added (xs ++ ys) ≡ added xs ++ added ys
  added-append [] ys = refl
  added-append (Add e ∷ xs) ys = ap (λ es. Told (event_map arc_value e) ∷ es) (added-append xs ys)
  added-append (AddEnd ∷ xs) ys = ap (λ es. End ∷ es) (added-append xs ys)
  added-append (Name m ∷ xs) ys = added-append xs ys

module _ {K D : Type 0} (type_of : D → ObjectType) (meta : K → ObjectMeta) where
  key_in : D → K → Reference
  key_in d o = key_of (type_of d) (meta o)

  abbrev W : State K D → Op K → State K D
  W = worked type_of meta

  -- what was made after operations is that after their entries
  worked_made : (ops : List (Op K)) (s : State K D) → (fold W s ops).made ≡ fold (after_entry (λ o. key_of (type_of s.dyntype) (meta o))) s.made (added ops)
  worked_made [] s = refl
  worked_made (Add e ∷ ops) s = worked_made ops (W s (Add e))
  worked_made (AddEnd ∷ ops) s = worked_made ops (W s AddEnd)
  worked_made (Name m ∷ ops) s = worked_made ops (W s (Name m))

  worked_dyntype : (ops : List (Op K)) (s : State K D) → (fold W s ops).dyntype ≡ s.dyntype
  worked_dyntype [] s = refl
  worked_dyntype (Add e ∷ ops) s = worked_dyntype ops (W s (Add e))
  worked_dyntype (AddEnd ∷ ops) s = worked_dyntype ops (W s AddEnd)
  worked_dyntype (Name m ∷ ops) s = worked_dyntype ops (W s (Name m))

  worked_ended : (ops : List (Op K)) (s : State K D) → (fold W s ops).has_ended ≡ (s.has_ended || has_end (added ops))
  worked_ended [] s = sym (or-false s.has_ended)
  worked_ended (Add e ∷ ops) s = worked_ended ops (W s (Add e))
  worked_ended (AddEnd ∷ ops) s = worked_ended ops (W s AddEnd) ∙ sym (or-true s.has_ended)
  worked_ended (Name m ∷ ops) s = worked_ended ops (W s (Name m))

  -- after a name that name is the list's
  worked_named : (ops : List (Op K)) (m : Mark K) (s : State K D) → (fold W s (ops ++ Name m ∷ [])).seen ≡ m.seen
  worked_named ops m s = ap (λ (t : State K D). t.seen) (fold-append W s ops (Name m ∷ []))

  -- what a list makes, after more entries
  pub kept_more : (d : D) (log more : List (Entry K)) → kept_for type_of meta d (log ++ more) ≡ fold (after_entry (λ o. key_of (type_of d) (meta o))) (kept_for type_of meta d log) more
  kept_more d log more = fold-append (after_entry (λ o. key_of (type_of d) (meta o))) nothing log more

  -- by what it tells
  told_for : (d : D) (log : List (Entry K)) → kept_for type_of meta d (told_in log) ≡ kept_for type_of meta d log
  told_for d log = kept_told (λ o. key_of (type_of d) (meta o)) log

  -- what a publish of a named list shows
  pub published : (shown next : Copied K D) (pending : List (Op K)) (o : Origin K D) → state_of next ≡ fold W (state_of shown) pending → IsLastName pending o.mark → IsBehind shown pending o
      → is_readable o.mark.seen.log ≡ true
      → (next.mark.seen ≡ o.mark.seen) × (home_at next ≡ home_at shown) × (IsTrue type_of meta shown → IsTrue type_of meta next)
  published shown next pending o is named behind readable =
      let st : State K D = state_of shown in
      let seen : next.mark.seen ≡ o.mark.seen =
      ap (λ (t : State K D). t.seen) is ∙ (ap (λ ops. (fold W st ops).seen) named.2 ∙ (worked_named named.0 named.1 st ∙ named.3)) in
      let same : arc_value next.dyntype ≡ arc_value shown.dyntype = ap (λ (t : State K D). t.dyntype) is ∙ worked_dyntype pending st in
      let made : next.made ≡ fold (after_entry (λ x. key_of (type_of (arc_value shown.dyntype)) (meta x))) shown.made (added pending) = ap (λ (t : State K D). t.made) is ∙ worked_made pending st in
      let ended : next.has_ended ≡ (shown.has_ended || has_end (added pending)) = ap (λ (t : State K D). t.has_ended) is ∙ worked_ended pending st in
      let log : next.mark.seen.log ≡ o.mark.seen.log = ap (λ s. s.log) seen in
      let told : told_in next.mark.seen.log ≡ told_in shown.mark.seen.log ++ added pending = ap told_in log ∙ sym behind.1 in (
        seen,
        ap₂ (λ b d. record { book = b; dyntype = d }) (ap (λ s. s.book) seen ∙ sym (ap (λ (h : Home D). h.book) behind.0)) same,
        λ true. (
          made ∙ (ap (λ k. fold (after_entry (λ x. key_of (type_of (arc_value shown.dyntype)) (meta x))) k (added pending)) (true.0 ∙ sym (told_for (arc_value shown.dyntype) shown.mark.seen.log))
              ∙ (sym (kept_more (arc_value shown.dyntype) (told_in shown.mark.seen.log) (added pending)) ∙ (ap₂ (kept_for type_of meta) (sym same) (sym told) ∙ told_for (arc_value next.dyntype) next.mark.seen.log))),
          ended ∙ (ap (λ b. b || has_end (added pending)) (true.1 ∙ sym (ended_told shown.mark.seen.log))
              ∙ (sym (any-append is_end (told_in shown.mark.seen.log) (added pending)) ∙ (ap has_end (sym told) ∙ ended_told next.mark.seen.log))),
          ap is_readable log ∙ readable,
        ),
      )

  -- what a publish leaves
  pub after_show : {A B : Type 0} (shown next : Copied K D) (pending rest : List (Op K)) (o : Origin K D) (r : Result A B) → IsLastName pending o.mark → IsBehind shown pending o
      → is_readable o.mark.seen.log ≡ true
      → MatchResult r (λ _. (state_of next ≡ fold W (state_of shown) pending) × (rest ≡ [])) (λ _. (next ≡ shown) × (rest ≡ pending))
      → IsBehind next rest o × OnOk r (next.mark.seen ≡ o.mark.seen)
  after_show shown next pending rest o (Ok a) named behind readable h =
      let p = published shown next pending o h.0 named behind readable in (
        (
          p.1 ∙ behind.0,
          ap (λ ops. told_in next.mark.seen.log ++ added ops) h.1 ∙ (append-nil (told_in next.mark.seen.log) ∙ ap (λ s. told_in s.log) p.0),
        ),
        p.0,
      )
  after_show shown next pending rest o (Err b) named behind readable h = (
    (
      ap home_at h.0 ∙ behind.0,
      ap (λ (c : Copied K D). told_in c.mark.seen.log ++ added rest) h.0 ∙ (ap (λ ops. told_in shown.mark.seen.log ++ added ops) h.1 ∙ behind.1),
    ),
    tt,
  )

  -- and what the writer then knows
  pub tied_after : {A B : Type 0} (v w : View K D) (x y : Copied K D) (o : Origin K D) (rest : List (Op K)) (r : Result A B) → IsBehind y rest o
      → MatchResult r (λ _. Saw type_of meta v x y w) (λ _. w ≡ v) → OnOk r (IsTied w.at (home_of o))
  tied_after v w x y o rest (Ok a) behind h = subst (λ b. IsTied w.at b) behind.0 h.2
  tied_after v w x y o rest (Err b) behind h = tt

module _ {K D : Type 0} where
  -- more operations are pending, with their entries
  pub behind_more : (shown shown' : Copied K D) (pending pending' more : List (Op K)) (o o' : Origin K D) (es : List (Entry K))
      → shown' ≡ shown → pending' ≡ pending ++ more → added more ≡ es → home_of o' ≡ home_of o → told_in o'.mark.seen.log ≡ told_in o.mark.seen.log ++ es → IsBehind shown pending o → IsBehind shown' pending' o'
  behind_more shown shown' pending pending' more o o' es s p a b l h = (
    ap home_at s ∙ (h.0 ∙ sym b),
    ap (λ (c : Copied K D). told_in c.mark.seen.log ++ added pending') s
        ∙ (ap (λ ops. told_in shown.mark.seen.log ++ added ops) p
        ∙ (ap (λ xs. told_in shown.mark.seen.log ++ xs) (added-append pending more)
        ∙ (sym (append_assoc (told_in shown.mark.seen.log) (added pending) (added more)) ∙ (ap (λ xs. xs ++ added more) h.1 ∙ (ap (λ xs. told_in o.mark.seen.log ++ xs) a ∙ sym l))))),
  )
