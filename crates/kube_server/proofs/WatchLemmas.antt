-- An open watch goes on where what it told left it, whatever it is polled.
use Rattle.std.proofs.Common.{◌≡◌, ℕ, suc, ◌+◌, ◌≤◌, ◌⊎◌, inl, inr, true, List, [], ◌∷◌, ◌++◌, map, take, drop, length, filter, Option, Some, None, refl, sym, ap, ◌∙◌, arith, append_assoc, append-nil, length-drop}
use Rattle.std.specs.Prelude.{codes}
use Rattle.std.proofs.Math.Seq.{take-length}
use Rattle.std.proofs.lemmas.List.{map-append}
use Rattle.std.proofs.lemmas.List.Sorted.{IsPermutation-refl}
use Rattle.kube_meta.specs.Pairs.{text_at}
use Rattle.kube_meta.specs.declared.metadata.ObjectMeta.{ObjectMeta}
use Rattle.kube_model.specs.Raw.{RawAnswer, GivesAdded, GivesError}
use Rattle.kube_server.specs.History.{Change, Adds, Modifies, Removes, object_of}
use Rattle.kube_server.specs.Numbers.{NameSought, has_name, name_sought}
use Rattle.kube_server.specs.Honest.{Selection, WatchTold, selected_at, selected_between, Tells, after_next_answer, ending_mark, IsHonestWatch, IsHonestBy}
use Rattle.kube_server.specs.Connections.{OpenWatch, Poll, event_of, first_named, poll_watch, selected_by, selects_name, expired, ending_bookmark}
use Rattle.kube_server.specs.Standing.{IsToldUpTo, IsExpired, IsFollowing, IsTelling, IsBeyond, IsWatching, WatchStands}
use Rattle.kube_server.proofs.HonestLemmas.{longer, selected_at-more, selected_between-more, Follow-more, Follow-push}
use Rattle.kube_server.proofs.PollLemmas.{IsQuiet, IsFound, first_named-is, selected_between-join, selected_between-after, selected_between-none}

module _ {V : Type 0} (meta : V → ObjectMeta) (h : List (Change V)) where
  -- ---- the changes after a revision, as a watch of a name gives them

  -- the changes that the selectors select are those of the name
  pub between_named : (s : Selection) (name : NameSought) (r n : ℕ) → name_sought s.labels s.fields ≡ Some name → selected_between meta (selected_by meta) h s r (r + n) ≡ filter (λ change. has_name name (meta (object_of change))) (take n (drop r h))
  between_named s name r n names =
      selected_between-after meta (selected_by meta) h s r n ∙ ap (λ sought. filter (λ change. selects_name sought (meta (object_of change))) (take n (drop r h))) names

  -- up to where it was quiet
  pub IsToldUpTo-quiet : (s : Selection) (from : ℕ) (events : List (RawAnswer V)) (reached to : ℕ) → IsToldUpTo meta h s from events reached → reached ≤ to → to ≤ length h → selected_between meta (selected_by meta) h s reached to ≡ [] → IsToldUpTo meta h s from events to
  IsToldUpTo-quiet s from events reached to t rises within none = record {
    told = t.told;
    follow = t.follow;
    quiet = selected_between-join meta (selected_by meta) h s t.told reached to t.rises rises ∙ rw (t.quiet, none);
    rises = omega (arith, t.rises);
    within = within;
  }

  Tells-change : (s : Selection) (from : ℕ) (change : Change V) (to : ℕ) → selected_between meta (selected_by meta) h s from to ≡ change ∷ [] → Tells meta (selected_by meta) h s from (event_of change) to
  Tells-change s from (Adds object) to alone = rw alone refl
  Tells-change s from (Modifies object) to alone = rw alone refl
  Tells-change s from (Removes object) to alone = rw alone refl

  -- with the one change that comes next
  pub IsToldUpTo-change : (s : Selection) (from : ℕ) (events : List (RawAnswer V)) (reached : ℕ) (change : Change V) (to : ℕ) → IsToldUpTo meta h s from events reached → reached ≤ to → to ≤ length h → selected_between meta (selected_by meta) h s reached to ≡ change ∷ [] → IsToldUpTo meta h s from (events ++ event_of change ∷ []) to
  IsToldUpTo-change s from events reached change to t rises within alone = record {
    told = to;
    follow = Follow-push meta (selected_by meta) h s from events t.told (event_of change) to t.follow (omega (arith, t.rises)) within (Tells-change s t.told change to (selected_between-join meta (selected_by meta) h s t.told reached to t.rises rises ∙ rw (t.quiet, alone)));
    quiet = selected_between-none meta (selected_by meta) h s to;
    rises = omega arith;
    within = within;
  }

  -- ---- what a poll leaves

  after_change : (t : WatchTold V) (change : Change V) → after_next_answer (Some t) (event_of change) ≡ Some (record t { events = t.events ++ event_of change ∷ [] })
  after_change t (Adds object) = refl
  after_change t (Modifies object) = refl
  after_change t (Removes object) = refl

  abbrev PollStands : WatchTold V → Poll V → Type 0
  PollStands t p = WatchStands meta h (after_next_answer (Some t) p.answer) (Some p.left)

  following : (t : WatchTold V) (w : OpenWatch V) → name_sought t.selection.labels t.selection.fields ≡ Some w.name → (x : IsFollowing meta h t w) → IsQuiet meta w.name x.reached (drop x.reached h) (first_named meta w.name x.reached (drop x.reached h)) ⊎ IsFound meta w.name x.reached (drop x.reached h) (first_named meta w.name x.reached (drop x.reached h)) → PollStands t (first_named meta w.name x.reached (drop x.reached h))
  following t w names x (inl q) =
      let to : x.reached + length (drop x.reached h) ≡ length h = omega (arith, length-drop x.reached h, x.told.within) in
      let none : selected_between meta (selected_by meta) h t.selection x.reached (x.reached + length (drop x.reached h)) ≡ [] =
      between_named t.selection w.name x.reached (length (drop x.reached h)) names ∙ rw (take-length (drop x.reached h)) q.none in
      rw q.poll (record {
        names = names;
        is = inr (inl (record {
          from = x.from;
          reached = x.reached + length (drop x.reached h);
          later = x.later;
          names = x.names;
          known = x.known;
          told = IsToldUpTo-quiet t.selection x.from t.events x.reached _ x.told (omega arith) (omega arith) none;
          nothing = refl;
          stands = refl;
        }));
      })
  following t w names x (inr f) =
      let alone : selected_between meta (selected_by meta) h t.selection x.reached (x.reached + suc f.before) ≡ f.change ∷ [] =
      between_named t.selection w.name x.reached (suc f.before) names ∙ f.alone in
      let within : x.reached + suc f.before ≤ length h = omega (arith, length-drop x.reached h, f.within) in
      rw (f.poll, after_change t f.change) (record {
        names = names;
        is = inr (inl (record {
          from = x.from;
          reached = x.reached + suc f.before;
          later = x.later;
          names = x.names;
          known = x.known;
          told = IsToldUpTo-change t.selection x.from t.events x.reached f.change _ x.told (omega arith) within alone;
          nothing = refl;
          stands = refl;
        }));
      })

  beyond : (t : WatchTold V) (w : OpenWatch V) → name_sought t.selection.labels t.selection.fields ≡ Some w.name → (x : IsBeyond meta h t w) → IsQuiet meta w.name x.reached (drop x.reached h) (first_named meta w.name x.reached (drop x.reached h)) ⊎ IsFound meta w.name x.reached (drop x.reached h) (first_named meta w.name x.reached (drop x.reached h)) → PollStands t (first_named meta w.name x.reached (drop x.reached h))
  beyond t w names x (inl q) =
      let to : x.reached + length (drop x.reached h) ≡ length h = omega (arith, length-drop x.reached h, x.told.within) in
      let none : selected_between meta (selected_by meta) h t.selection x.reached (x.reached + length (drop x.reached h)) ≡ [] =
      between_named t.selection w.name x.reached (length (drop x.reached h)) names ∙ rw (take-length (drop x.reached h)) q.none in
      rw q.poll (record {
        names = names;
        is = inr (inr (inr (record {
          revision = x.revision;
          state = x.state;
          events = x.events;
          reached = x.reached + length (drop x.reached h);
          initial = x.initial;
          known = x.known;
          whole = x.whole;
          in_order = x.in_order;
          told = IsToldUpTo-quiet t.selection x.revision x.events x.reached _ x.told (omega arith) (omega arith) none;
          nothing = refl;
          stands = refl;
        })));
      })
  beyond t w names x (inr f) =
      let alone : selected_between meta (selected_by meta) h t.selection x.reached (x.reached + suc f.before) ≡ f.change ∷ [] =
      between_named t.selection w.name x.reached (suc f.before) names ∙ f.alone in
      let within : x.reached + suc f.before ≤ length h = omega (arith, length-drop x.reached h, f.within) in
      rw (f.poll, after_change t f.change) (record {
        names = names;
        is = inr (inr (inr (record {
          revision = x.revision;
          state = x.state;
          events = x.events ++ event_of f.change ∷ [];
          reached = x.reached + suc f.before;
          initial = x.initial;
          known = x.known;
          whole = x.whole;
          in_order = rw x.in_order (append_assoc (map GivesAdded x.state) (ending_bookmark x.revision ∷ x.events) (event_of f.change ∷ []));
          told = IsToldUpTo-change t.selection x.revision x.events x.reached f.change _ x.told (omega arith) within alone;
          nothing = refl;
          stands = refl;
        })));
      })

  -- of the state one object more, or the bookmark
  telling : (t : WatchTold V) (w : OpenWatch V) → name_sought t.selection.labels t.selection.fields ≡ Some w.name → (revision : ℕ) (told rest : List V) → t.initial ≡ true → revision ≤ length h → t.events ≡ map GivesAdded told → told ++ rest ≡ selected_at meta (selected_by meta) h t.selection revision → w.pending ≡ map GivesAdded rest ++ ending_bookmark revision ∷ [] → w.follows ≡ Some revision → PollStands t (poll_watch meta h w)
  telling t w names revision told [] initial known added whole pending stands =
      rw (pending, stands) (record {
        names = names;
        is = inr (inr (inr (record {
          revision = revision;
          state = told;
          events = [];
          reached = revision;
          initial = initial;
          known = known;
          whole = sym (append-nil told) ∙ whole;
          in_order = rw added refl;
          told = record {
            told = revision;
            follow = refl;
            quiet = selected_between-none meta (selected_by meta) h t.selection revision;
            rises = omega arith;
            within = known;
          };
          nothing = refl;
          stands = refl;
        })));
      })
  telling t w names revision told (object ∷ rest) initial known added whole pending stands =
      rw (pending, stands) (record {
        names = names;
        is = inr (inr (inl (record {
          revision = revision;
          told = told ++ object ∷ [];
          rest = rest;
          initial = initial;
          known = known;
          added = rw added (sym (map-append GivesAdded told (object ∷ [])));
          whole = append_assoc told (object ∷ []) rest ∙ whole;
          pending = refl;
          stands = refl;
        })));
      })

  expired_error : (t : WatchTold V) (w : OpenWatch V) → name_sought t.selection.labels t.selection.fields ≡ Some w.name → (x : IsExpired meta h t w) → (w.pending ≡ GivesError expired ∷ []) ⊎ (w.pending ≡ []) → PollStands t (poll_watch meta h w)
  expired_error t w names x (inl e) = rw (e, x.ends) (record { names = names; is = inl (record { later = x.later; nothing = x.nothing; ends = refl; error = inr refl }) })
  expired_error t w names x (inr e) = rw (e, x.ends) (record { names = names; is = inl (record { later = x.later; nothing = x.nothing; ends = refl; error = inr refl }) })

  polled_by : (t : WatchTold V) (w : OpenWatch V) → name_sought t.selection.labels t.selection.fields ≡ Some w.name → IsExpired meta h t w ⊎ (IsFollowing meta h t w ⊎ (IsTelling meta h t w ⊎ IsBeyond meta h t w)) → PollStands t (poll_watch meta h w)
  polled_by t w names (inl x) = expired_error t w names x x.error
  polled_by t w names (inr (inl x)) = rw (x.nothing, x.stands) (following t w names x (first_named-is meta w.name (drop x.reached h) x.reached))
  polled_by t w names (inr (inr (inl x))) = telling t w names x.revision x.told x.rest x.initial x.known x.added x.whole x.pending x.stands
  polled_by t w names (inr (inr (inr x))) = rw (x.nothing, x.stands) (beyond t w names x (first_named-is meta w.name (drop x.reached h) x.reached))

  -- a poll leaves the watch where what it told goes on
  pub IsWatching-polled : (t : WatchTold V) (w : OpenWatch V) → IsWatching meta h t w → WatchStands meta h (after_next_answer (Some t) (poll_watch meta h w).answer) (Some (poll_watch meta h w).left)
  IsWatching-polled t w x = polled_by t w x.names x.is

  -- ---- such a watch is honest

  bookmark_ends : text_at ending_mark ((ending_mark, codes "true") ∷ []) ≡ Some (codes "true")
  bookmark_ends = refl

  honest_by : (t : WatchTold V) (w : OpenWatch V) → IsExpired meta h t w ⊎ (IsFollowing meta h t w ⊎ (IsTelling meta h t w ⊎ IsBeyond meta h t w)) → IsHonestBy meta (selected_by meta) h t.initial t.selection t.version t.events
  honest_by t w (inl x) = rw x.later (inr x.nothing)
  honest_by t w (inr (inl x)) = rw x.later (inl (record { from = x.from; to = x.told.told; names = x.names; known = x.known; follow = x.told.follow }))
  honest_by t w (inr (inr (inl x))) = rw x.initial (inl (record { revision = x.revision; told = x.told; rest = x.rest; known = x.known; added = x.added; whole = rw x.whole (IsPermutation-refl _) }))
  honest_by t w (inr (inr (inr x))) = rw x.initial (inr (record { revision = x.revision; told = x.state; annotations = (ending_mark, codes "true") ∷ []; later = x.events; to = x.told.told; known = x.known; whole = rw x.whole (IsPermutation-refl _); ending = bookmark_ends; in_order = x.in_order; follow = x.told.follow }))

  pub WatchStands-honest : (t : Option (WatchTold V)) (w : Option (OpenWatch V)) → WatchStands meta h t w → IsHonestWatch meta (selected_by meta) h t
  WatchStands-honest None None x = tt
  WatchStands-honest None (Some w) x = absurd x
  WatchStands-honest (Some t) None x = absurd x
  WatchStands-honest (Some t) (Some w) x = honest_by t w x.is

-- ---- the history goes on

module _ {V : Type 0} (meta : V → ObjectMeta) (h more : List (Change V)) where
  IsToldUpTo-more : (s : Selection) (from : ℕ) (events : List (RawAnswer V)) (reached : ℕ) → IsToldUpTo meta h s from events reached → IsToldUpTo meta (h ++ more) s from events reached
  IsToldUpTo-more s from events reached t = record {
    told = t.told;
    follow = Follow-more meta (selected_by meta) h more s from events t.told t.follow;
    quiet = selected_between-more meta (selected_by meta) h more s t.told reached t.within ∙ t.quiet;
    rises = t.rises;
    within = longer meta (selected_by meta) h more reached t.within;
  }

  is_more : (t : WatchTold V) (w : OpenWatch V) → IsExpired meta h t w ⊎ (IsFollowing meta h t w ⊎ (IsTelling meta h t w ⊎ IsBeyond meta h t w)) → IsExpired meta (h ++ more) t w ⊎ (IsFollowing meta (h ++ more) t w ⊎ (IsTelling meta (h ++ more) t w ⊎ IsBeyond meta (h ++ more) t w))
  is_more t w (inl x) = inl (record { later = x.later; nothing = x.nothing; ends = x.ends; error = x.error })
  is_more t w (inr (inl x)) = inr (inl (record {
    from = x.from;
    reached = x.reached;
    later = x.later;
    names = x.names;
    known = longer meta (selected_by meta) h more x.from x.known;
    told = IsToldUpTo-more t.selection x.from t.events x.reached x.told;
    nothing = x.nothing;
    stands = x.stands;
  }))
  is_more t w (inr (inr (inl x))) = inr (inr (inl (record {
    revision = x.revision;
    told = x.told;
    rest = x.rest;
    initial = x.initial;
    known = longer meta (selected_by meta) h more x.revision x.known;
    added = x.added;
    whole = x.whole ∙ sym (selected_at-more meta (selected_by meta) h more t.selection x.revision x.known);
    pending = x.pending;
    stands = x.stands;
  })))
  is_more t w (inr (inr (inr x))) = inr (inr (inr (record {
    revision = x.revision;
    state = x.state;
    events = x.events;
    reached = x.reached;
    initial = x.initial;
    known = longer meta (selected_by meta) h more x.revision x.known;
    whole = x.whole ∙ sym (selected_at-more meta (selected_by meta) h more t.selection x.revision x.known);
    in_order = x.in_order;
    told = IsToldUpTo-more t.selection x.revision x.events x.reached x.told;
    nothing = x.nothing;
    stands = x.stands;
  })))

  pub WatchStands-more : (t : Option (WatchTold V)) (w : Option (OpenWatch V)) → WatchStands meta h t w → WatchStands meta (h ++ more) t w
  WatchStands-more None None x = tt
  WatchStands-more None (Some w) x = x
  WatchStands-more (Some t) None x = x
  WatchStands-more (Some t) (Some w) x = record { names = x.names; is = is_more t w x.is }
