-- A list under way goes on where its pages left it, whatever is listed.
use Rattle.std.proofs.Common.{◌≡◌, ℕ, zero, suc, ◌+◌, ◌≤◌, ◌<◌, ◌^◌, ◌⊎◌, inl, inr, Bool, true, false, List, [], ◌∷◌, ◌++◌, fold, take, drop, length, filter, Option, Some, None, refl, sym, ap, subst, ◌∙◌, arith, length-drop, leb-false}
use Rattle.std.specs.Prelude.{decimal, nat_le, ◌&&◌, if◌then◌else◌}
use Rattle.std.specs.Option.{option_eq}
use Rattle.std.specs.Str.{bytes_eq}
use Rattle.std.specs.Ordering.{match_ordering}
use Rattle.std.specs.declared.cmp.Ordering.TheVariants.{Less, Equal, Greater}
use Rattle.std.proofs.Math.Seq.{take-add}
use Rattle.std.proofs.lemmas.List.{length-map, take-append-drop, length-take}
use Rattle.std.proofs.lemmas.List.Sums.{length-filter, count_by-le-length}
use Rattle.std.proofs.lemmas.List.Sorted.{IsPermutation-refl}
use Rattle.std.proofs.lemmas.Bool.{cases_Bool}
use Rattle.std.proofs.lemmas.Slice.Eq.{bytes_eq-Decides}
use Rattle.kube_meta.specs.Reading.{unless_empty}
use Rattle.kube_meta.specs.declared.metadata.ObjectMeta.{ObjectMeta}
use Rattle.kube_model.specs.declared.params.ListParams.{ListParams}
use Rattle.kube_model.specs.Raw.{RawAnswer, ListAsked, GivesPage}
use Rattle.kube_server.specs.History.{Key, key_of, key_cmp, same_key, State, Change, Adds, Modifies, Removes, with_object, without_object, changed, objects_of, state_at}
use Rattle.kube_server.specs.Numbers.{NameSought, name_sought, Token, token_text, token_at}
use Rattle.kube_server.specs.Honest.{Selection, same_selection, list_selection, ListTold, goes_on, after_page, list_after, selected_at, IsWholeList, IsHonestEnd, IsHonestList}
use Rattle.kube_server.specs.Connections.{Connection, selects_name, selected_by, is_known, if_known, named_at, token_asked, last_page, page_within, page_of, page_at, listed_by, listed}
use Rattle.kube_server.specs.Standing.{IsListing, ListGoesOn, ListStands}
use Rattle.kube_server.proofs.HonestLemmas.{longer, selected_at-more, IsHonestEnd-more}
use Rattle.kube_server.proofs.NumberLemmas.{token_at-token_text}

-- ---- there are no more objects than changes

module _ {V : Type 0} (meta : V → ObjectMeta) where
  length-with_object : (key : Key) (object : V) (state : State V) → length (with_object key object state) ≤ suc (length state)
  length-with_object key object [] = omega arith
  length-with_object key object (p ∷ ps) =
      let more = length-with_object key object ps in
      elim (key_cmp key p.0) as (λ o. length (match_ordering o ((key, object) ∷ p ∷ ps) ((p.0, object) ∷ ps) (p ∷ with_object key object ps)) ≤ suc (length (p ∷ ps))) [
        | Less ↦ omega arith
        | Equal ↦ omega arith
        | Greater ↦ omega arith
      ]

  length-without_object : (key : Key) (state : State V) → length (without_object key state) ≤ length state
  length-without_object key [] = omega arith
  length-without_object key (p ∷ ps) =
      let less = length-without_object key ps in
      elim (same_key key p.0) as (λ b. length (if b then ps else p ∷ without_object key ps) ≤ length (p ∷ ps)) [
        | true ↦ omega arith
        | false ↦ omega arith
      ]

  length-changed : (state : State V) (change : Change V) → length (changed meta state change) ≤ suc (length state)
  length-changed state (Adds object) = length-with_object _ object state
  length-changed state (Modifies object) = length-with_object _ object state
  length-changed state (Removes object) = omega (arith, length-without_object (key_of (meta object)) state)

  length-folded : (changes : List (Change V)) (state : State V) → length (fold (changed meta) state changes) ≤ length state + length changes
  length-folded [] state = omega arith
  length-folded (change ∷ changes) state = omega (arith, length-changed state change, length-folded changes (changed meta state change))

  pub length-selected_at : (selects : Selection → V → Bool) (h : List (Change V)) (s : Selection) (r : ℕ) → length (selected_at meta selects h s r) ≤ length h
  length-selected_at selects h s r =
      let kept = count_by-le-length (selects s) (objects_of (state_at meta h r)) in
      let all = length-filter (selects s) (objects_of (state_at meta h r)) in
      let objects : length (objects_of (state_at meta h r)) ≡ length (state_at meta h r) = length-map (state_at meta h r) (λ p. p.1) in
      let folded = length-folded (take r h) [] in
      let taken = length-take r h in
      omega arith

-- ---- pages

module _ {V : Type 0} (meta : V → ObjectMeta) (h : List (Change V)) where
  abbrev pub selection_at : Selection → ℕ → List V
  selection_at s r = selected_at meta (selected_by meta) h s r

  pub named_at-is : (s : Selection) (name : NameSought) (r : ℕ) → name_sought s.labels s.fields ≡ Some name → named_at meta name h r ≡ selection_at s r
  named_at-is s name r names = ap (λ sought. filter (λ object. selects_name sought (meta object)) (objects_of (state_at meta h r))) (sym names)

  -- a page, and with it the list goes on
  pub record IsPage (s : Selection) (objects : List V) (answer : RawAnswer V) : Type 0 where
    pub items : List V
    pub token : Option (List ℕ)
    pub version : Option (List ℕ)
    pub is : answer ≡ GivesPage items token version
    pub goes_on : ListGoesOn meta h (record { selection = s; objects = objects ++ items; token = token; version = version }) token

  whole_end : (s : Selection) (objects : List V) (version : List ℕ) → IsWholeList meta (selected_by meta) h s objects version → IsHonestEnd meta (selected_by meta) h s objects None (unless_empty (Some version))
  whole_end s objects [] w = tt
  whole_end s objects (x ∷ xs) w = w

  last : (s : Selection) (objects : List V) (t : Token) → t.revision ≤ length h → objects ≡ take t.offset (selection_at s t.revision) → IsPage s objects (last_page t.revision (drop t.offset (selection_at s t.revision)))
  last s objects t known given = record {
    items = drop t.offset (selection_at s t.revision);
    token = None;
    version = Some (decimal t.revision);
    is = refl;
    goes_on = whole_end s _ (decimal t.revision) (record {
      revision = t.revision;
      known = known;
      whole = rw (given, take-append-drop t.offset (selection_at s t.revision)) (IsPermutation-refl _);
      versioned = refl;
    });
  }

  within : (s : Selection) (objects : List V) (t : Token) (n : ℕ) → t.revision ≤ length h → objects ≡ take t.offset (selection_at s t.revision) → t.offset ≤ length (selection_at s t.revision) → n < length (drop t.offset (selection_at s t.revision)) → IsPage s objects (GivesPage (take n (drop t.offset (selection_at s t.revision))) (Some (token_text (record { revision = t.revision; offset = t.offset + n }))) None)
  within s objects t n known given inside more = record {
    items = take n (drop t.offset (selection_at s t.revision));
    token = Some (token_text (record { revision = t.revision; offset = t.offset + n }));
    version = None;
    is = refl;
    goes_on = record {
      from = record { revision = t.revision; offset = t.offset + n };
      known = known;
      within = omega (arith, length-drop t.offset (selection_at s t.revision));
      token = refl;
      given = rw given (sym (take-add t.offset n (selection_at s t.revision)));
      goes_on = refl;
    };
  }

  page_by : (s : Selection) (objects : List V) (t : Token) (n : ℕ) → t.revision ≤ length h → objects ≡ take t.offset (selection_at s t.revision) → t.offset ≤ length (selection_at s t.revision) → (nat_le (length (drop t.offset (selection_at s t.revision))) n ≡ true) ⊎ (nat_le (length (drop t.offset (selection_at s t.revision))) n ≡ false) → IsPage s objects (page_within n t (drop t.offset (selection_at s t.revision)))
  page_by s objects t n known given inside (inl all) = rw all (last s objects t known given)
  page_by s objects t n known given inside (inr not_all) =
      rw not_all (within s objects t n known given inside (leb-false _ _ not_all))

  pub page_of-is : (s : Selection) (objects : List V) (t : Token) → t.revision ≤ length h → objects ≡ take t.offset (selection_at s t.revision) → t.offset ≤ length (selection_at s t.revision) → (limit : Option ℕ) → IsPage s objects (page_of limit t (drop t.offset (selection_at s t.revision)))
  page_of-is s objects t known given inside None = last s objects t known given
  page_of-is s objects t known given inside (Some zero) = last s objects t known given
  page_of-is s objects t known given inside (Some (suc n)) = page_by s objects t (suc n) known given inside (cases_Bool _)

-- any page
record IsGiven {V : Type 0} (answer : RawAnswer V) : Type 0 where
  items : List V
  token : Option (List ℕ)
  version : Option (List ℕ)
  is : answer ≡ GivesPage items token version

page_of-gives : {V : Type 0} (limit : Option ℕ) (t : Token) (left : List V) → IsGiven (page_of limit t left)
page_of-gives None t left = record { items = left; token = None; version = Some (decimal t.revision); is = refl }
page_of-gives (Some zero) t left = record { items = left; token = None; version = Some (decimal t.revision); is = refl }
page_of-gives (Some (suc n)) t left =
    elim (nat_le (length left) (suc n)) as (λ b. IsGiven (if b then last_page t.revision left else GivesPage (take (suc n) left) (Some (token_text (record { revision = t.revision; offset = t.offset + suc n }))) None)) [
      | true ↦ record { items = left; token = None; version = Some (decimal t.revision); is = refl }
      | false ↦ record { items = take (suc n) left; token = Some (token_text (record { revision = t.revision; offset = t.offset + suc n })); version = None; is = refl }
    ]

-- ---- what is asked by a list's token goes on with that list

pub and_both : (a b : Bool) → (a && b) ≡ true → (a ≡ true) × (b ≡ true)
and_both true b e = (refl, e)
and_both false b e = absurd (cc)

same_text : (a b : Option (List ℕ)) → option_eq bytes_eq a b ≡ true → a ≡ b
same_text None None e = refl
same_text None (Some y) e = absurd (cc)
same_text (Some x) None e = absurd (cc)
same_text (Some x) (Some y) e = ap Some ((bytes_eq-Decides x y).0 e)

module _ {V : Type 0} (meta : V → ObjectMeta) (c : Connection V) where
  token_known : (r : ℕ) (t : Token) (p : Token) → if_known c r t ≡ Some p → t ≡ p
  token_known r t p e =
      elim (cases_Bool (is_known c r)) [
        | inl known ↦ let e' = rw known at e in (cc)
        | inr other ↦ let e' = rw other at e in absurd (cc)
      ]

  token_read : (text : List ℕ) (p t : Token) → text ≡ token_text p → p.revision < 2 ^ 64 → p.offset < 2 ^ 64 → token_asked c (Some text) ≡ Some t → p ≡ t
  token_read text p t is revision offset asked =
      let read : token_at text ≡ Some p = rw is (token_at-token_text p revision offset) in
      token_known p.revision p t (rw read at asked)

  given_on : (l : ListTold V) (params : ListParams) (text : List ℕ) (answer : RawAnswer V) → params.continue_token ≡ Some text → goes_on l params ≡ true → IsPage meta c.changes l.selection l.objects answer → ListStands meta c.changes (list_after (Some l) (ListAsked params) answer)
  given_on l params text answer by_token on page =
      rw page.is (subst (λ o. ListStands meta c.changes (after_page (Some l) o params page.items page.token page.version)) (sym by_token) (rw on page.goes_on))

  given_first : (list : Option (ListTold V)) (params : ListParams) (answer : RawAnswer V) → params.continue_token ≡ None → IsPage meta c.changes (list_selection params) [] answer → ListStands meta c.changes (list_after list (ListAsked params) answer)
  given_first list params answer begins page =
      rw page.is (subst (λ o. ListStands meta c.changes (after_page list o params page.items page.token page.version)) (sym begins) page.goes_on)

  -- a page by another token than that of the list under way ends it
  given_off : (l : ListTold V) (params : ListParams) (text : List ℕ) (answer : RawAnswer V) → params.continue_token ≡ Some text → goes_on l params ≡ false → IsGiven answer → ListStands meta c.changes (list_after (Some l) (ListAsked params) answer)
  given_off l params text answer by_token off page =
      rw page.is (subst (λ o. ListStands meta c.changes (after_page (Some l) o params page.items page.token page.version)) (sym by_token) (rw off tt))

  given_none : (params : ListParams) (text : List ℕ) (answer : RawAnswer V) → params.continue_token ≡ Some text → IsGiven answer → ListStands meta c.changes (list_after None (ListAsked params) answer)
  given_none params text answer by_token page =
      rw page.is (subst (λ o. ListStands meta c.changes (after_page None o params page.items page.token page.version)) (sym by_token) tt)

  page_after : (l : ListTold V) (params : ListParams) (name : NameSought) (text : List ℕ) (t : Token) → length c.changes < 2 ^ 64 → name_sought params.label_selector params.field_selector ≡ Some name → params.continue_token ≡ Some text → token_asked c (Some text) ≡ Some t → ListStands meta c.changes (Some l) → goes_on l params ≡ true → ListStands meta c.changes (list_after (Some l) (ListAsked params) (page_at meta c name params.limit (Some t)))
  page_after l params name text t small names by_token asked stands on =
      let both = and_both (option_eq bytes_eq l.token params.continue_token) (same_selection l.selection (list_selection params)) on in
      let token : l.token ≡ Some text = same_text l.token params.continue_token both.0 ∙ by_token in
      let selectors = and_both (option_eq bytes_eq l.selection.labels params.label_selector) (option_eq bytes_eq l.selection.fields params.field_selector) both.1 in
      let labels : l.selection.labels ≡ params.label_selector = same_text _ _ selectors.0 in
      let fields : l.selection.fields ≡ params.field_selector = same_text _ _ selectors.1 in
      let sought : name_sought l.selection.labels l.selection.fields ≡ Some name = rw (labels, fields) names in
      let listing : IsListing meta c.changes l text = subst (λ o. ListGoesOn meta c.changes l o) token stands in
      let same : listing.from ≡ t = token_read text listing.from t listing.token (omega (arith, listing.known)) (omega (arith, listing.within, length-selected_at meta (selected_by meta) c.changes l.selection listing.from.revision)) asked in
      let page = page_of-is meta c.changes l.selection l.objects listing.from listing.known listing.given listing.within params.limit in
      let page' : IsPage meta c.changes l.selection l.objects (page_at meta c name params.limit (Some t)) = rw (← same, named_at-is meta c.changes l.selection name listing.from.revision sought) page in
      given_on l params text _ by_token on page'

  first_page : (list : Option (ListTold V)) (params : ListParams) (name : NameSought) → name_sought params.label_selector params.field_selector ≡ Some name → params.continue_token ≡ None → ListStands meta c.changes (list_after list (ListAsked params) (page_at meta c name params.limit (Some (record { revision = length c.changes; offset = 0 }))))
  first_page list params name names begins =
      let page = page_of-is meta c.changes (list_selection params) [] (record { revision = length c.changes; offset = 0 }) (omega arith) refl (omega arith) params.limit in
      let page' : IsPage meta c.changes (list_selection params) [] (page_at meta c name params.limit (Some (record { revision = length c.changes; offset = 0 }))) = rw (named_at-is meta c.changes (list_selection params) name (length c.changes) names) page in
      given_first list params _ begins page'

  next_page : (list : Option (ListTold V)) (params : ListParams) (name : NameSought) (text : List ℕ) (t : Token) → length c.changes < 2 ^ 64 → name_sought params.label_selector params.field_selector ≡ Some name → params.continue_token ≡ Some text → token_asked c (Some text) ≡ Some t → ListStands meta c.changes list → ListStands meta c.changes (list_after list (ListAsked params) (page_at meta c name params.limit (Some t)))
  next_page None params name text t small names by_token asked stands = given_none params text _ by_token (page_of-gives params.limit t (drop t.offset (named_at meta name c.changes t.revision)))
  next_page (Some l) params name text t small names by_token asked stands =
      elim (cases_Bool (goes_on l params)) [
        | inl on ↦ page_after l params name text t small names by_token asked stands on
        | inr off ↦ given_off l params text _ by_token off (page_of-gives params.limit t (drop t.offset (named_at meta name c.changes t.revision)))
      ]

  asked_page : (list : Option (ListTold V)) (params : ListParams) (name : NameSought) (token : Option (List ℕ)) (found : Option Token) → length c.changes < 2 ^ 64 → name_sought params.label_selector params.field_selector ≡ Some name → params.continue_token ≡ token → token_asked c token ≡ found → ListStands meta c.changes list → ListStands meta c.changes (list_after list (ListAsked params) (page_at meta c name params.limit found))
  asked_page list params name token None small names by asked stands = stands
  asked_page list params name None (Some t) small names by asked stands =
      let first : record { revision = length c.changes; offset = 0 } ≡ t = (cc) in
      subst (λ p. ListStands meta c.changes (list_after list (ListAsked params) (page_at meta c name params.limit (Some p)))) first (first_page list params name names by)
  asked_page list params name (Some text) (Some t) small names by asked stands = next_page list params name text t small names by asked stands

  sought : (list : Option (ListTold V)) (params : ListParams) (name : Option NameSought) → length c.changes < 2 ^ 64 → name_sought params.label_selector params.field_selector ≡ name → ListStands meta c.changes list → ListStands meta c.changes (list_after list (ListAsked params) (listed_by meta c params name))
  sought list params None small names stands = stands
  sought list params (Some name) small names stands = asked_page list params name params.continue_token (token_asked c params.continue_token) small names refl refl stands

  -- a list call leaves the list under way where its pages go on
  pub ListStands-listed : (list : Option (ListTold V)) (params : ListParams) → length c.changes < 2 ^ 64 → ListStands meta c.changes list → ListStands meta c.changes (list_after list (ListAsked params) (listed meta params c))
  ListStands-listed list params small stands = sought list params (name_sought params.label_selector params.field_selector) small refl stands

-- ---- such a list is honest, and the history may go on

module _ {V : Type 0} (meta : V → ObjectMeta) (h : List (Change V)) where
  -- without a version a list is not at its end
  unended : (s : Selection) (objects : List V) (token : Option (List ℕ)) → IsHonestEnd meta (selected_by meta) h s objects token None
  unended s objects None = tt
  unended s objects (Some text) = tt

  honest_end : (s : Selection) (objects : List V) (token version : Option (List ℕ)) → ListGoesOn meta h (record { selection = s; objects = objects; token = token; version = version }) token → IsHonestEnd meta (selected_by meta) h s objects (unless_empty token) (unless_empty version)
  honest_end s objects None version x = x
  honest_end s objects (Some text) version x = rw x.goes_on (unended s objects (unless_empty (Some text)))

  pub ListStands-honest : (list : Option (ListTold V)) → ListStands meta h list → IsHonestList meta (selected_by meta) h list
  ListStands-honest None x = tt
  ListStands-honest (Some list) x = honest_end list.selection list.objects list.token list.version x

module _ {V : Type 0} (meta : V → ObjectMeta) (h more : List (Change V)) where
  goes_on-more : (list : ListTold V) (token : Option (List ℕ)) → ListGoesOn meta h list token → ListGoesOn meta (h ++ more) list token
  goes_on-more list None x = IsHonestEnd-more meta (selected_by meta) h more list.selection list.objects None (unless_empty list.version) x
  goes_on-more list (Some text) x =
      let same = selected_at-more meta (selected_by meta) h more list.selection x.from.revision x.known in
      record {
        from = x.from;
        known = longer meta (selected_by meta) h more x.from.revision x.known;
        within = rw same x.within;
        token = x.token;
        given = rw same x.given;
        goes_on = x.goes_on;
      }

  pub ListStands-more : (list : Option (ListTold V)) → ListStands meta h list → ListStands meta (h ++ more) list
  ListStands-more None x = tt
  ListStands-more (Some list) x = goes_on-more list list.token x
