-- What an honest talk keeps as the history goes on, and as the talk does.
use Rattle.std.proofs.Common.{◌≡◌, ℕ, ◌≤◌, inl, inr, Bool, true, false, List, [], ◌∷◌, ◌++◌, drop, length, filter, Option, Some, None, refl, sym, ap, subst, ◌∙◌, arith, length-append, append_assoc, append-nil}
use Rattle.std.specs.Prelude.{IsPermutation}
use Rattle.std.proofs.lemmas.List.{take-append-le}
use Rattle.kube_meta.specs.Reading.{unless_empty}
use Rattle.kube_meta.specs.declared.metadata.ObjectMeta.{ObjectMeta}
use Rattle.kube_model.specs.Raw.{RawAnswer, Waits, Fails, GivesPage, Opens, GivesAdded, GivesModified, GivesDeleted, GivesBookmark, GivesError, Ends, Raw}
use Rattle.kube_server.specs.History.{Change, state_of, objects_of, object_of}
use Rattle.kube_server.specs.Honest.{Selection, ListTold, list_told, WatchTold, watch_told, PutsAlone, RemovesAlone, selected_at, selected_between, Tells, Follow, IsHonestLater, IsHonestInitial, IsHonestBy, IsHonestWatch, IsHonestEnd, IsHonestList, IsHonestSoFar, IsHonestAfter, IsHonest}

-- ---- the history goes on

module _ {V : Type 0} (meta : V → ObjectMeta) (selects : Selection → V → Bool) (h more : List (Change V)) where
  pub longer : (r : ℕ) → r ≤ length h → r ≤ length (h ++ more)
  longer r within = omega (arith, length-append h more)

  pub selected_at-more : (s : Selection) (r : ℕ) → r ≤ length h → selected_at meta selects (h ++ more) s r ≡ selected_at meta selects h s r
  selected_at-more s r within = ap (λ cs. filter (selects s) (objects_of (state_of meta cs))) (take-append-le r h more within)

  pub selected_between-more : (s : Selection) (from to : ℕ) → to ≤ length h → selected_between meta selects (h ++ more) s from to ≡ selected_between meta selects h s from to
  selected_between-more s from to within = ap (λ cs. filter (λ c. selects s (object_of c)) (drop from cs)) (take-append-le to h more within)

  Tells-more : (s : Selection) (from : ℕ) (event : RawAnswer V) (to : ℕ) → to ≤ length h → Tells meta selects h s from event to → Tells meta selects (h ++ more) s from event to
  Tells-more s from Waits to within t = t
  Tells-more s from (Fails e) to within t = t
  Tells-more s from (GivesPage items token version) to within t = t
  Tells-more s from Opens to within t = t
  Tells-more s from (GivesAdded o) to within t = subst (λ cs. PutsAlone o cs) (sym (selected_between-more s from to within)) t
  Tells-more s from (GivesModified o) to within t = subst (λ cs. PutsAlone o cs) (sym (selected_between-more s from to within)) t
  Tells-more s from (GivesDeleted o) to within t = subst (λ cs. RemovesAlone o cs) (sym (selected_between-more s from to within)) t
  Tells-more s from (GivesBookmark version annotations) to within t = (t.0, selected_between-more s from to within ∙ t.1)
  Tells-more s from (GivesError status) to within t = t
  Tells-more s from Ends to within t = t

  pub Follow-more : (s : Selection) (from : ℕ) (events : List (RawAnswer V)) (to : ℕ) → Follow meta selects h s from events to → Follow meta selects (h ++ more) s from events to
  Follow-more s from [] to f = f
  Follow-more s from (event ∷ events) to f =
      (f.0, f.1, longer f.0 f.2, Tells-more s from event f.0 f.2 f.3, Follow-more s f.0 events to f.4)

  IsHonestLater-more : (s : Selection) (version : List ℕ) (events : List (RawAnswer V)) → IsHonestLater meta selects h s version events → IsHonestLater meta selects (h ++ more) s version events
  IsHonestLater-more s version events (inl f) = inl (record { from = f.from; to = f.to; names = f.names; known = longer f.from f.known; follow = Follow-more s f.from events f.to f.follow })
  IsHonestLater-more s version events (inr none) = inr none

  IsHonestInitial-more : (s : Selection) (events : List (RawAnswer V)) → IsHonestInitial meta selects h s events → IsHonestInitial meta selects (h ++ more) s events
  IsHonestInitial-more s events (inl b) = inl (record {
    revision = b.revision;
    told = b.told;
    rest = b.rest;
    known = longer b.revision b.known;
    added = b.added;
    whole = subst (λ xs. IsPermutation (b.told ++ b.rest) xs) (sym (selected_at-more s b.revision b.known)) b.whole;
  })
  IsHonestInitial-more s events (inr b) = inr (record {
    revision = b.revision;
    told = b.told;
    annotations = b.annotations;
    later = b.later;
    to = b.to;
    known = longer b.revision b.known;
    whole = subst (λ xs. IsPermutation b.told xs) (sym (selected_at-more s b.revision b.known)) b.whole;
    ending = b.ending;
    in_order = b.in_order;
    follow = Follow-more s b.revision b.later b.to b.follow;
  })

  IsHonestBy-more : (initial : Bool) (s : Selection) (version : List ℕ) (events : List (RawAnswer V)) → IsHonestBy meta selects h initial s version events → IsHonestBy meta selects (h ++ more) initial s version events
  IsHonestBy-more true s version events b = IsHonestInitial-more s events b
  IsHonestBy-more false s version events b = IsHonestLater-more s version events b

  IsHonestWatch-more : (w : Option (WatchTold V)) → IsHonestWatch meta selects h w → IsHonestWatch meta selects (h ++ more) w
  IsHonestWatch-more None b = tt
  IsHonestWatch-more (Some w) b = IsHonestBy-more w.initial w.selection w.version w.events b

  pub IsHonestEnd-more : (s : Selection) (objects : List V) (token version : Option (List ℕ)) → IsHonestEnd meta selects h s objects token version → IsHonestEnd meta selects (h ++ more) s objects token version
  IsHonestEnd-more s objects None None e = tt
  IsHonestEnd-more s objects (Some token) None e = tt
  IsHonestEnd-more s objects (Some token) (Some version) e = tt
  IsHonestEnd-more s objects None (Some version) e = record {
    revision = e.revision;
    known = longer e.revision e.known;
    whole = subst (λ xs. IsPermutation objects xs) (sym (selected_at-more s e.revision e.known)) e.whole;
    versioned = e.versioned;
  }

  IsHonestList-more : (list : Option (ListTold V)) → IsHonestList meta selects h list → IsHonestList meta selects (h ++ more) list
  IsHonestList-more None b = tt
  IsHonestList-more (Some list) b = IsHonestEnd-more list.selection list.objects (unless_empty list.token) (unless_empty list.version) b

  IsHonestAfter-more : (before raws : List (Raw V)) → IsHonestAfter meta selects h before raws → IsHonestAfter meta selects (h ++ more) before raws
  IsHonestAfter-more before [] b = tt
  IsHonestAfter-more before (raw ∷ raws) b =
      (record { list = IsHonestList-more (list_told (before ++ raw ∷ [])) b.0.list; watch = IsHonestWatch-more (watch_told (before ++ raw ∷ [])) b.0.watch }, IsHonestAfter-more (before ++ raw ∷ []) raws b.1)

  -- an honest talk is honest to each longer history
  pub IsHonest-more : (talk : List (Raw V)) → IsHonest meta selects h talk → IsHonest meta selects (h ++ more) talk
  IsHonest-more talk b = IsHonestAfter-more [] talk b

-- ---- the talk goes on

module _ {V : Type 0} (meta : V → ObjectMeta) (selects : Selection → V → Bool) (h : List (Change V)) where
  IsHonestAfter-push : (before raws : List (Raw V)) (raw : Raw V) → IsHonestAfter meta selects h before raws → IsHonestSoFar meta selects h ((before ++ raws) ++ raw ∷ []) → IsHonestAfter meta selects h before (raws ++ raw ∷ [])
  IsHonestAfter-push before [] raw b now = (subst (λ bs. IsHonestSoFar meta selects h (bs ++ raw ∷ [])) (append-nil before) now, tt)
  IsHonestAfter-push before (first ∷ raws) raw b now =
      (b.0, IsHonestAfter-push (before ++ first ∷ []) raws raw b.1 (subst (λ bs. IsHonestSoFar meta selects h (bs ++ raw ∷ [])) (sym (append_assoc before (first ∷ []) raws)) now))

  -- an honest talk goes on with what leaves it honest
  pub IsHonest-push : (talk : List (Raw V)) (raw : Raw V) → IsHonest meta selects h talk → IsHonestSoFar meta selects h (talk ++ raw ∷ []) → IsHonest meta selects h (talk ++ raw ∷ [])
  IsHonest-push talk raw b now = IsHonestAfter-push [] talk raw b now

  -- one more event of a watch
  pub Follow-push : (s : Selection) (from : ℕ) (events : List (RawAnswer V)) (told : ℕ) (event : RawAnswer V) (to : ℕ) → Follow meta selects h s from events told → told ≤ to → to ≤ length h → Tells meta selects h s told event to → Follow meta selects h s from (events ++ event ∷ []) to
  Follow-push s from [] told event to f rises within tells =
      (to, subst (λ n. n ≤ to) f rises, within, subst (λ n. Tells meta selects h s n event to) f tells, refl)
  Follow-push s from (first ∷ events) told event to f rises within tells =
      (f.0, f.1, f.2, f.3, Follow-push s f.0 events told event to f.4 rises within tells)
