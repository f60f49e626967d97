-- A connection whose open watch waits has told all that its log has.
use Rattle.std.proofs.Common.{◌≡◌, ℕ, ◌+◌, ◌≤◌, ◌<◌, ◌^◌, ◌⊎◌, inl, inr, List, [], ◌∷◌, ◌++◌, map, drop, fold, length, filter, Option, Some, None, refl, sym, ap, subst, ◌∙◌, arith, length-drop}
use Rattle.std.specs.Prelude.{codes}
use Rattle.std.proofs.Math.Seq.{take-length}
use Rattle.std.proofs.lemmas.List.{drop_all}
use Rattle.std.proofs.lemmas.List.Sorted.{IsPermutation-refl}
use Rattle.kube_meta.specs.Pairs.{text_at}
use Rattle.kube_meta.specs.declared.metadata.ObjectMeta.{ObjectMeta}
use Rattle.kube_model.specs.Raw.{Raw, RawAnswer, GivesAdded, GivesError, Waits, Ends}
use Rattle.kube_server.specs.History.{Change, Adds, Modifies, Removes}
use Rattle.kube_server.specs.Numbers.{NameSought, name_sought}
use Rattle.kube_server.specs.Honest.{Selection, WatchTold, watch_told, selected_between, ending_mark}
use Rattle.kube_server.specs.Connections.{OpenWatch, Connection, Act, acted, fresh, event_of, first_named, poll_watch, poll_current, left_current, polled, after_next, selected_by, expired, ending_bookmark}
use Rattle.kube_server.specs.Readers.{HasToldAllBy, IsToldAll}
use Rattle.kube_server.specs.Standing.{IsToldUpTo, IsExpired, IsFollowing, IsTelling, IsBeyond, WatchStands, Stands}
use Rattle.kube_server.proofs.PollLemmas.{IsQuiet, IsFound, is_named_change, first_named-is, selected_between-join}
use Rattle.kube_server.proofs.StandingLemmas.{Stands-fresh, all_stand}
use Rattle.kube_server.proofs.WatchLemmas.{between_named}

module _ {V : Type 0} (meta : V → ObjectMeta) (h : List (Change V)) where
  -- ---- an answer that waits

  event-waits : (change : Change V) → event_of change ≡ Waits → ⊥
  event-waits (Adds object) e = cc
  event-waits (Modifies object) e = cc
  event-waits (Removes object) e = cc

  quiet-named : (name : NameSought) (r : ℕ) (changes : List (Change V)) → IsQuiet meta name r changes (first_named meta name r changes) ⊎ IsFound meta name r changes (first_named meta name r changes)
      → (first_named meta name r changes).answer ≡ Waits → filter (is_named_change meta name) changes ≡ []
  quiet-named name r changes (inl q) waits = q.none
  quiet-named name r changes (inr f) waits = absurd (event-waits f.change (ap (λ p. p.answer) (sym f.poll) ∙ waits))

  -- nothing of the name came after a revision
  none-after : (s : Selection) (name : NameSought) (reached : ℕ) → name_sought s.labels s.fields ≡ Some name → reached ≤ length h → (first_named meta name reached (drop reached h)).answer ≡ Waits
      → selected_between meta (selected_by meta) h s reached (length h) ≡ []
  none-after s name reached names within waits =
      let to : reached + length (drop reached h) ≡ length h = omega (arith, length-drop reached h, within) in
      let none : filter (is_named_change meta name) (drop reached h) ≡ [] = quiet-named name reached (drop reached h) (first_named-is meta name (drop reached h) reached) waits in
      subst (λ n. selected_between meta (selected_by meta) h s reached n ≡ []) to
      (between_named meta h s name reached (length (drop reached h)) names ∙ rw (take-length (drop reached h)) none)

  all-told : (s : Selection) (from : ℕ) (events : List (RawAnswer V)) (reached : ℕ) → (t : IsToldUpTo meta h s from events reached) → selected_between meta (selected_by meta) h s reached (length h) ≡ []
      → selected_between meta (selected_by meta) h s t.told (length h) ≡ []
  all-told s from events reached t none = selected_between-join meta (selected_by meta) h s t.told reached (length h) t.rises t.within ∙ rw (t.quiet, none)

  expired-waits : (w : OpenWatch V) → w.follows ≡ None → (w.pending ≡ GivesError expired ∷ []) ⊎ (w.pending ≡ []) → (poll_watch meta h w).answer ≡ Waits → ⊥
  expired-waits w ends (inl e) waits = let no : GivesError expired ≡ Waits = rw e at waits in cc
  expired-waits w ends (inr e) waits = let no : Ends ≡ Waits = rw (e, ends) at waits in cc

  telling-waits : (w : OpenWatch V) (rest : List V) (revision : ℕ) → w.pending ≡ map GivesAdded rest ++ ending_bookmark revision ∷ [] → (poll_watch meta h w).answer ≡ Waits → ⊥
  telling-waits w [] revision e waits = let no : ending_bookmark revision ≡ Waits = rw e at waits in cc
  telling-waits w (object ∷ rest) revision e waits = let no : GivesAdded object ≡ Waits = rw e at waits in cc

  bookmark-ends : text_at ending_mark ((ending_mark, codes "true") ∷ []) ≡ Some (codes "true")
  bookmark-ends = refl

  waits-by : (t : WatchTold V) (w : OpenWatch V) → name_sought t.selection.labels t.selection.fields ≡ Some w.name
      → IsExpired meta h t w ⊎ (IsFollowing meta h t w ⊎ (IsTelling meta h t w ⊎ IsBeyond meta h t w)) → (poll_watch meta h w).answer ≡ Waits
      → HasToldAllBy meta (selected_by meta) h t.initial t.selection t.version t.events
  waits-by t w names (inl x) waits = absurd (expired-waits w x.ends x.error waits)
  waits-by t w names (inr (inl x)) waits =
      let looked : (first_named meta w.name x.reached (drop x.reached h)).answer ≡ Waits = rw (x.nothing, x.stands) at waits in
      let none = all-told t.selection x.from t.events x.reached x.told (none-after t.selection w.name x.reached names x.told.within looked) in
      rw x.later (record { from = x.from; to = x.told.told; names = x.names; known = x.known; follow = x.told.follow }, none)
  waits-by t w names (inr (inr (inl x))) waits = absurd (telling-waits w x.rest x.revision x.pending waits)
  waits-by t w names (inr (inr (inr x))) waits =
      let looked : (first_named meta w.name x.reached (drop x.reached h)).answer ≡ Waits = rw (x.nothing, x.stands) at waits in
      let none = all-told t.selection x.revision x.events x.reached x.told (none-after t.selection w.name x.reached names x.told.within looked) in
      rw x.initial (
        record {
          revision = x.revision;
          told = x.state;
          annotations = (ending_mark, codes "true") ∷ [];
          later = x.events;
          to = x.told.told;
          known = x.known;
          whole = rw x.whole (IsPermutation-refl _);
          ending = bookmark-ends;
          in_order = x.in_order;
          follow = x.told.follow;
        },
        none,
      )

  -- ---- asked again

  again-quiet : (name : NameSought) (r : ℕ) → r ≤ length h → IsQuiet meta name r (drop r h) (first_named meta name r (drop r h)) ⊎ IsFound meta name r (drop r h) (first_named meta name r (drop r h))
      → (first_named meta name r (drop r h)).answer ≡ Waits → (poll_watch meta h (first_named meta name r (drop r h)).left).answer ≡ Waits
  again-quiet name r within (inl q) waits = rw q.poll (rw (drop_all (r + length (drop r h)) h (omega (arith, length-drop r h, within))) refl)
  again-quiet name r within (inr f) waits = absurd (event-waits f.change (ap (λ p. p.answer) (sym f.poll) ∙ waits))

  again-by : (t : WatchTold V) (w : OpenWatch V) → IsExpired meta h t w ⊎ (IsFollowing meta h t w ⊎ (IsTelling meta h t w ⊎ IsBeyond meta h t w)) → (poll_watch meta h w).answer ≡ Waits
      → (poll_watch meta h (poll_watch meta h w).left).answer ≡ Waits
  again-by t w (inl x) waits = absurd (expired-waits w x.ends x.error waits)
  again-by t w (inr (inl x)) waits =
      let looked : (first_named meta w.name x.reached (drop x.reached h)).answer ≡ Waits = rw (x.nothing, x.stands) at waits in
      rw (x.nothing, x.stands) (again-quiet w.name x.reached x.told.within (first_named-is meta w.name (drop x.reached h) x.reached) looked)
  again-by t w (inr (inr (inl x))) waits = absurd (telling-waits w x.rest x.revision x.pending waits)
  again-by t w (inr (inr (inr x))) waits =
      let looked : (first_named meta w.name x.reached (drop x.reached h)).answer ≡ Waits = rw (x.nothing, x.stands) at waits in
      rw (x.nothing, x.stands) (again-quiet w.name x.reached x.told.within (first_named-is meta w.name (drop x.reached h) x.reached) looked)

  again-current : (t : Option (WatchTold V)) (w : Option (OpenWatch V)) → WatchStands meta h t w → poll_current meta h w ≡ Waits → poll_current meta h (left_current meta h w) ≡ Waits
  again-current None None x waits = absurd (cc)
  again-current None (Some w) x waits = absurd x
  again-current (Some t) None x waits = absurd x
  again-current (Some t) (Some w) x waits = again-by t w x.is waits

  -- ---- so the watch has told all

  told-by : (talk : List (Raw V)) (t : Option (WatchTold V)) (w : Option (OpenWatch V)) → watch_told talk ≡ t → WatchStands meta h t w → poll_current meta h w ≡ Waits → IsToldAll meta (selected_by meta) h talk
  told-by talk None None is x waits = absurd (cc)
  told-by talk None (Some w) is x waits = absurd x
  told-by talk (Some t) None is x waits = absurd x
  told-by talk (Some t) (Some w) is x waits = record { watch = t; is = is; all = waits-by t w x.names x.is waits }

-- ---- whatever was done with it

pub told-all : {V : Type 0} (meta : V → ObjectMeta) (c : Connection V) → Stands meta c → polled meta c ≡ Waits → IsToldAll meta (selected_by meta) c.changes c.talk
told-all meta c s waits = told-by meta c.changes c.talk (watch_told c.talk) c.watch refl s.watch waits

pub waiting : {V : Type 0} (meta : V → ObjectMeta) (changes : List (Change V)) (compacted : ℕ) (acts : List (Act V)) → length (fold (acted meta) (fresh changes compacted) acts).changes < 2 ^ 64
    → polled meta (fold (acted meta) (fresh changes compacted) acts) ≡ Waits
    → IsToldAll meta (selected_by meta) (fold (acted meta) (fresh changes compacted) acts).changes (fold (acted meta) (fresh changes compacted) acts).talk
waiting meta changes compacted acts small waits =
    told-all meta (fold (acted meta) (fresh changes compacted) acts) (all_stand meta acts (fresh changes compacted) small (Stands-fresh meta changes compacted)) waits

pub waiting-again : {V : Type 0} (meta : V → ObjectMeta) (changes : List (Change V)) (compacted : ℕ) (acts : List (Act V)) → length (fold (acted meta) (fresh changes compacted) acts).changes < 2 ^ 64
    → polled meta (fold (acted meta) (fresh changes compacted) acts) ≡ Waits → polled meta (after_next meta (fold (acted meta) (fresh changes compacted) acts)) ≡ Waits
waiting-again meta changes compacted acts small waits =
    let c = fold (acted meta) (fresh changes compacted) acts in
    let s : Stands meta c = all_stand meta acts (fresh changes compacted) small (Stands-fresh meta changes compacted) in
    again-current meta c.changes (watch_told c.talk) c.watch s.watch waits
