-- What entries of a log make, one after another.
use Rattle.std.proofs.Common.{◌≡◌, ℕ, ◌+◌, ◌-◌, ◌<◌, List, [], ◌∷◌, ◌++◌, map, take, drop, length, get_or, sym, ap, ◌∙◌, arith, length-append, length-drop}
use Rattle.std.proofs.Math.ListN.{get_or-map}
use Rattle.std.proofs.Math.Seq.{drop-append_seam}
use Rattle.std.proofs.lemmas.List.{take_more, take_all, take-append-le, take-map, drop-map, length-map}
use Rattle.std.proofs.lemmas.List.Sums.{fold-append}
use Rattle.std.specs.declared.alloc.Global.{Global}
use Rattle.std.specs.declared.sync.Arc.{Arc}
use Rattle.kube_meta.specs.declared.dynamic.DynamicObject.{DynamicObject}
use Rattle.kube_server.specs.declared.entry.Entry.{Entry}
use Rattle.kube_server.specs.History.{Change, State, changed, state_of, state_at, objects_of, IsLater}
use Rattle.kube_server.specs.Servers.{meta_of}
use Rattle.kube_server.specs.Stored.{change_of}
use Rattle.kube_server.specs.Kept.{IsKept}

-- one change more
pub state_at-next : (entries : List Entry) (i : ℕ) (entry : Entry) → i < length entries → entry ≡ get_or entries i entry → state_at meta_of (map change_of entries) (i + 1) ≡ changed meta_of (state_at meta_of (map change_of entries) i) (change_of entry)
state_at-next entries i entry within is =
    let within' : i < length (map change_of entries) = omega (arith, length-map entries change_of) in
    let here : get_or (map change_of entries) i (change_of entry) ≡ change_of entry = get_or-map change_of entries i entry ∙ ap change_of (sym is) in
    ap (state_of meta_of) (take_more (map change_of entries) i (change_of entry) within' ∙ ap (λ change. take i (map change_of entries) ++ change ∷ []) here)
    ∙ fold-append (changed meta_of) [] (take i (map change_of entries)) (change_of entry ∷ [])

-- the first entries make the state at their number
pub state_at-first : (entries : List Entry) (revision : ℕ) → state_of meta_of (map change_of (take revision entries)) ≡ state_at meta_of (map change_of entries) revision
state_at-first entries revision = ap (state_of meta_of) (sym (take-map change_of revision entries))

-- what is kept stays kept as the log grows
pub IsKept-more : (changes more : List (Change DynamicObject)) (newest : State DynamicObject) (applied : ℕ) (shown : List (Arc DynamicObject Global)) (revision : ℕ) → IsKept changes newest applied shown revision → IsKept (changes ++ more) newest applied shown revision
IsKept-more changes more newest applied shown revision k = record {
  counted = omega (arith, length-append changes more, k.counted);
  made = k.made ∙ ap (state_of meta_of) (sym (take-append-le applied changes more k.counted));
  known = omega (arith, length-append changes more, k.known);
  ready = k.ready ∙ ap (λ cs. objects_of (state_of meta_of cs)) (sym (take-append-le revision changes more k.known));
}

-- what came behind all that was known
pub rest_is : (old new : List (Change DynamicObject)) (a b : ℕ) → IsLater old new a b → old ++ drop (length old) new ≡ new
rest_is old new a b later =
    let e = drop-append_seam old later.more in
    rw later.goes_on (ap (λ xs. old ++ xs) e)

-- the log that is known, and the entries behind it, are the longer log
pub fed : (log new : List (Change DynamicObject)) (known entries : List Entry) (a b : ℕ) → map change_of known ≡ log → map change_of entries ≡ new → IsLater log new a b → log ++ map change_of (take (length entries - length known) (drop (length known) entries)) ≡ new
fed log new known entries a b is_log is_new later =
    let n : length known ≡ length log = sym (length-map known change_of) ∙ ap length is_log in
    let all : take (length entries - length known) (drop (length known) entries) ≡ drop (length known) entries = take_all _ _ (omega (arith, length-drop (length known) entries)) in
    ap (λ xs. log ++ xs) (ap (map change_of) all ∙ (sym (drop-map change_of (length known) entries) ∙ (ap (λ xs. drop (length known) xs) is_new ∙ ap (λ k. drop k new) n))) ∙ rest_is log new a b later
