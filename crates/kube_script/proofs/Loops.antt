-- Reading what a list or a map holds, one after the other, as a loop does.
use Rattle.std.proofs.Common.{◌≡◌, ℕ, List, [], ◌∷◌, ◌++◌, Result, Ok, Err, Less, Greater, string_bytes, string_cmp, String, Global, refl, sym, ap, ◌∙◌, append_assoc}
use Rattle.std.proofs.lemmas.Cmp.{nat_list_cmp_total}
use Rattle.std.specs.Cmp.Lexicographic.{slice_cmp}
use Rattle.std.specs.List.{AllByRecursion, AllZip}
use Rattle.std.specs.List.Sorted.{IsStrictlySortedBy}
use Rattle.std.specs.Map.{keys_of}
use Rattle.std.specs.Ordering.{nat_cmp, ordering_reverse}
use Rattle.serde_json.specs.Data.{Data, Members, member}
use Rattle.kube_meta.specs.declared.object_fault.ObjectFault.{ObjectFault}
use Rattle.kube_meta.specs.Places.{◌>>=◌}
use Rattle.kube_meta.specs.Pairs.{with_pair}
use Rattle.kube_meta.specs.Reading.{text_at, pairs_at}

-- what was read before, and what is still read
abbrev pub with_front : {A : Type 0} → List A → Result (List A) ObjectFault → Result (List A) ObjectFault
with_front front read = read >>= λ xs. Ok (front ++ xs)

-- pairs that stand under the names of these entries
abbrev pub SameNames : {X : Type 0} → List (List ℕ × List ℕ) → List (String Global × X) → Type 0
SameNames ps es = AllZip (λ p e. p.0 ≡ string_bytes e.0) ps es

below_middle : {X : Type 0} (first : String Global) (es : List (String Global × X)) (e : String Global × X) (more : List (String Global × X)) → AllByRecursion (λ y. string_cmp first y ≡ Less) (keys_of (es ++ e ∷ more)) → string_cmp first e.0 ≡ Less
below_middle first [] e more h = h.0
below_middle first (x ∷ es) e more h = below_middle first es e more h.1

-- a name that comes behind those before it
above : {X : Type 0} (first : String Global × X) (done : List (String Global × X)) (e : String Global × X) (more : List (String Global × X)) → AllByRecursion (λ y. string_cmp first.0 y ≡ Less) (keys_of (done ++ e ∷ more))
    → slice_cmp nat_cmp (string_bytes e.0) (string_bytes first.0) ≡ Greater
above first done e more h = nat_list_cmp_total.antisymm (string_bytes e.0) (string_bytes first.0) ∙ ap ordering_reverse (below_middle first.0 done e more h)

pub with_pair-last : {X : Type 0} (ps : List (List ℕ × List ℕ)) (done : List (String Global × X)) (e : String Global × X) (more : List (String Global × X)) (text : List ℕ) → SameNames ps done → IsStrictlySortedBy string_cmp (keys_of (done ++ e ∷ more))
    → with_pair (string_bytes e.0) text ps ≡ ps ++ (string_bytes e.0, text) ∷ []
unfolding IsStrictlySortedBy
with_pair-last [] [] e more text s h = refl
with_pair-last [] (x ∷ done) e more text s h = absurd s
with_pair-last (p ∷ ps) [] e more text s h = absurd s
with_pair-last (p ∷ ps) (x ∷ done) e more text s h =
    let behind : slice_cmp nat_cmp (string_bytes e.0) p.0 ≡ Greater = rw s.0 (above x done e more h.0) in
    rw behind (ap (λ qs. p ∷ qs) (with_pair-last ps done e more text s.1 h.1))

pub same_more : {X : Type 0} (ps : List (List ℕ × List ℕ)) (done : List (String Global × X)) (p : List ℕ × List ℕ) (e : String Global × X) → SameNames ps done → p.0 ≡ string_bytes e.0 → SameNames (ps ++ p ∷ []) (done ++ e ∷ [])
same_more [] [] p e s h = (h, tt)
same_more [] (x ∷ done) p e s h = absurd s
same_more (q ∷ ps) [] p e s h = absurd s
same_more (q ∷ ps) (x ∷ done) p e s h = (s.0, same_more ps done p e s.1 h)

-- one more was read
pub front_more : {A : Type 0} (front : List A) (x : A) (read : Result (List A) ObjectFault) → with_front front (read >>= λ xs. Ok (x ∷ xs)) ≡ with_front (front ++ x ∷ []) read
front_more front x (Ok xs) = ap Ok (sym (append_assoc front (x ∷ []) xs))
front_more front x (Err e) = refl

pub pairs_more : (front : List (List ℕ × List ℕ)) (name text : List ℕ) (d : Data) (ms : Members) (all : Result (List (List ℕ × List ℕ)) ObjectFault) → text_at d ≡ Ok text → with_front front (pairs_at (member name d ms)) ≡ all
    → with_front (front ++ (name, text) ∷ []) (pairs_at ms) ≡ all
pairs_more front name text d ms all e h = sym (front_more front (name, text) (pairs_at ms)) ∙ (rw e at h)
