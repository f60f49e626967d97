-- The watcher's table agrees with the definitions.
use Rattle.std.proofs.Common.{◌≡◌, ℕ, Bool, true, false, List, [], ◌∷◌, ◌++◌, map, Option, Some, None, IsTrue, if◌then◌else◌, refl, sym, ap, ◌∙◌}
use Rattle.std.specs.List.{list_any, filter_map, flat_map}
use Rattle.kube_model.specs.declared.call.Call.{Call}
use Rattle.kube_model.specs.declared.call.Call.TheVariants.{List as ListCall, Watch, Next, Stream}
use Rattle.kube_model.specs.declared.call.Answer.{Answer}
use Rattle.kube_model.specs.declared.call.Answer.TheVariants.{Page, Opened, Added, Modified, Deleted, Bookmark, ErrorItem, Fault, End, NotReady, Idle, Item, Spent}
use Rattle.kube_model.specs.World.{Settings, Watched}
use Rattle.kube_model.specs.History.{Exchange}
use Rattle.kube_model.specs.Owed.{owed, is_initial, seen}
use Rattle.kube_model.specs.Fits.{answers, error_of, has_references}
use Rattle.kube_model.specs.Store.{completes, changes_of, Put, Gone}
use Rattle.kube_watch.specs.declared.event.Event.{Event}
use Rattle.kube_watch.specs.declared.event.Event.TheVariants.{Apply, Delete, InitDone}
use Rattle.kube_watch.specs.Table.{Row, table, begun, all_init}
use Rattle.kube_watch.specs.Agrees.{is_done, change_of, objects_of, asks_api, Agrees}
use Rattle.kube_watch.proofs.Pushes.{seen_after, owed_next, seen-push, owed-push}

changes-begin : (O : Type 0) (token : Option (List ℕ)) → filter_map change_of (begun {O = O} token) ≡ []
changes-begin O None = refl
changes-begin O (Some token) = refl

done-begin : (O : Type 0) (token : Option (List ℕ)) → list_any is_done (begun {O = O} token) ≡ false
done-begin O None = refl
done-begin O (Some token) = refl

module _ {O : Type 0} where
  changes-apply : (items : List O) → filter_map change_of (map Apply items) ≡ map Put items
  changes-apply [] = refl
  changes-apply (o ∷ items) = ap (λ cs. Put o ∷ cs) (changes-apply items)

  changes-delete : (items : List O) → filter_map change_of (map Delete items) ≡ map Gone items
  changes-delete [] = refl
  changes-delete (o ∷ items) = ap (λ cs. Gone o ∷ cs) (changes-delete items)

  changes-init : (items : List O) (rest : List (Event O)) → filter_map change_of (all_init items ++ rest) ≡ filter_map change_of rest
  changes-init [] rest = refl
  changes-init (o ∷ items) rest = changes-init items rest

  changes-all : (items : List O) → filter_map change_of (all_init items) ≡ []
  changes-all [] = refl
  changes-all (o ∷ items) = changes-all items

  changes-begun : (token : Option (List ℕ)) (rest : List (Event O)) → filter_map change_of (begun token ++ rest) ≡ filter_map change_of rest
  changes-begun None rest = refl
  changes-begun (Some token) rest = refl

  objects-apply : (items : List O) → flat_map objects_of (map Apply items) ≡ items
  objects-apply [] = refl
  objects-apply (o ∷ items) = ap (λ os. o ∷ os) (objects-apply items)

  objects-delete : (items : List O) → flat_map objects_of (map Delete items) ≡ items
  objects-delete [] = refl
  objects-delete (o ∷ items) = ap (λ os. o ∷ os) (objects-delete items)

  objects-all : (items : List O) → flat_map objects_of (all_init items) ≡ items
  objects-all [] = refl
  objects-all (o ∷ items) = ap (λ os. o ∷ os) (objects-all items)

  objects-done : (items : List O) → flat_map objects_of (all_init items ++ InitDone ∷ []) ≡ items
  objects-done [] = refl
  objects-done (o ∷ items) = ap (λ os. o ∷ os) (objects-done items)

  objects-begun : (token : Option (List ℕ)) (rest : List (Event O)) → flat_map objects_of (begun token ++ rest) ≡ flat_map objects_of rest
  objects-begun None rest = refl
  objects-begun (Some token) rest = refl

  objects-begin : (token : Option (List ℕ)) → flat_map objects_of (begun {O = O} token) ≡ []
  objects-begin None = refl
  objects-begin (Some token) = refl

  done-apply : (items : List O) → list_any is_done (map Apply items) ≡ false
  done-apply [] = refl
  done-apply (o ∷ items) = done-apply items

  done-delete : (items : List O) → list_any is_done (map Delete items) ≡ false
  done-delete [] = refl
  done-delete (o ∷ items) = done-delete items

  done-init : (items : List O) (rest : List (Event O)) → list_any is_done (all_init items ++ rest) ≡ list_any is_done rest
  done-init [] rest = refl
  done-init (o ∷ items) rest = done-init items rest

  done-all : (items : List O) → list_any is_done (all_init items) ≡ false
  done-all [] = refl
  done-all (o ∷ items) = done-all items

  done-begun : (token : Option (List ℕ)) (rest : List (Event O)) → list_any is_done (begun token ++ rest) ≡ list_any is_done rest
  done-begun None rest = refl
  done-begun (Some token) rest = refl

module _ {O : Type 0} (settings : Settings) (i : Bool) (k : List ℕ) where
  abbrev row_at : Exchange O → Row O
  row_at x = table settings k i x.call x.answer x.items

  -- the row of an exchange is the one that the definitions give
  pub record AgreesAt (x : Exchange O) : Type 0 where
    pub error : (row_at x).error ≡ error_of (record { initial = i; exchange = x })
    pub owes : (row_at x).owed ≡ owed_next settings i k x.call x
    pub keeps : (row_at x).kept ≡ seen_after i k x
    pub done : list_any is_done (row_at x).events ≡ completes (record { initial = i; exchange = x })
    pub changes : filter_map change_of (row_at x).events ≡ changes_of (record { initial = i; exchange = x })
    pub objects : flat_map objects_of (row_at x).events ≡ (if has_references (record { initial = i; exchange = x }) then x.items else [])

module _ {O : Type 0} (settings : Settings) where
  abbrev with_call : Exchange O → Call → Answer → Exchange O
  with_call x c a = record x { call = c; answer = a }

  list-row : (i : Bool) (k : List ℕ) (x : Exchange O) (asked : Option (List ℕ)) (a : Answer) → IsTrue (answers (ListCall asked) a) → AgreesAt settings i k (with_call x (ListCall asked) a)
  list-row i k x asked (Page (Some next) version) ok = record { error = refl; owes = refl; keeps = refl; done = done-begun asked (all_init x.items) ∙ done-all x.items; changes = changes-begun asked (all_init x.items) ∙ changes-all x.items; objects = objects-begun asked (all_init x.items) ∙ objects-all x.items }
  list-row i k x asked (Page None (Some version)) ok = record { error = refl; owes = refl; keeps = refl; done = done-begun asked (all_init x.items ++ InitDone ∷ []) ∙ done-init x.items (InitDone ∷ []); changes = changes-begun asked (all_init x.items ++ InitDone ∷ []) ∙ changes-init x.items (InitDone ∷ []); objects = objects-begun asked (all_init x.items ++ InitDone ∷ []) ∙ objects-done x.items }
  list-row i k x asked (Page None None) ok = record { error = refl; owes = refl; keeps = refl; done = done-begin O asked; changes = changes-begin O asked; objects = objects-begin asked }
  list-row i k x asked (Fault error) ok = record { error = refl; owes = refl; keeps = refl; done = done-begin O asked; changes = changes-begin O asked; objects = objects-begin asked }
  list-row i k x asked NotReady ok = record { error = refl; owes = refl; keeps = refl; done = refl; changes = refl; objects = refl }
  list-row i k x asked Opened ok = cc
  list-row i k x asked (Added reached) ok = cc
  list-row i k x asked (Modified reached) ok = cc
  list-row i k x asked (Deleted reached) ok = cc
  list-row i k x asked (Bookmark reached ending) ok = cc
  list-row i k x asked (ErrorItem status) ok = cc
  list-row i k x asked End ok = cc
  list-row i k x asked Idle ok = cc
  list-row i k x asked Item ok = cc
  list-row i k x asked Spent ok = cc

  start-row : (i : Bool) (k : List ℕ) (x : Exchange O) (version : List ℕ) (a : Answer) → IsTrue (answers (Watch version true) a) → AgreesAt settings i k (with_call x (Watch version true) a)
  start-row i k x version Opened ok = record { error = refl; owes = refl; keeps = refl; done = refl; changes = refl; objects = refl }
  start-row i k x version (Fault error) ok = record { error = refl; owes = refl; keeps = refl; done = refl; changes = refl; objects = refl }
  start-row i k x version NotReady ok = record { error = refl; owes = refl; keeps = refl; done = refl; changes = refl; objects = refl }
  start-row i k x version (Page token reached) ok = cc
  start-row i k x version (Added reached) ok = cc
  start-row i k x version (Modified reached) ok = cc
  start-row i k x version (Deleted reached) ok = cc
  start-row i k x version (Bookmark reached ending) ok = cc
  start-row i k x version (ErrorItem status) ok = cc
  start-row i k x version End ok = cc
  start-row i k x version Idle ok = cc
  start-row i k x version Item ok = cc
  start-row i k x version Spent ok = cc

  watch-row : (i : Bool) (k : List ℕ) (x : Exchange O) (version : List ℕ) (a : Answer) → IsTrue (answers (Watch version false) a) → AgreesAt settings i k (with_call x (Watch version false) a)
  watch-row i k x version Opened ok = record { error = refl; owes = refl; keeps = refl; done = refl; changes = refl; objects = refl }
  watch-row i k x version (Fault error) ok = record { error = refl; owes = refl; keeps = refl; done = refl; changes = refl; objects = refl }
  watch-row i k x version NotReady ok = record { error = refl; owes = refl; keeps = refl; done = refl; changes = refl; objects = refl }
  watch-row i k x version (Page token reached) ok = cc
  watch-row i k x version (Added reached) ok = cc
  watch-row i k x version (Modified reached) ok = cc
  watch-row i k x version (Deleted reached) ok = cc
  watch-row i k x version (Bookmark reached ending) ok = cc
  watch-row i k x version (ErrorItem status) ok = cc
  watch-row i k x version End ok = cc
  watch-row i k x version Idle ok = cc
  watch-row i k x version Item ok = cc
  watch-row i k x version Spent ok = cc

  initial-row : (k : List ℕ) (x : Exchange O) (a : Answer) → IsTrue (answers Next a) → AgreesAt settings true k (with_call x Next a)
  initial-row k x (Added version) ok = record { error = refl; owes = refl; keeps = refl; done = done-all x.items; changes = changes-all x.items; objects = objects-all x.items }
  initial-row k x (Modified version) ok = record { error = refl; owes = refl; keeps = refl; done = done-all x.items; changes = changes-all x.items; objects = objects-all x.items }
  initial-row k x (Deleted version) ok = record { error = refl; owes = refl; keeps = refl; done = refl; changes = refl; objects = refl }
  initial-row k x (Bookmark version true) ok = record { error = refl; owes = refl; keeps = refl; done = refl; changes = refl; objects = refl }
  initial-row k x (Bookmark version false) ok = record { error = refl; owes = refl; keeps = refl; done = refl; changes = refl; objects = refl }
  initial-row k x (ErrorItem status) ok = record { error = refl; owes = refl; keeps = refl; done = refl; changes = refl; objects = refl }
  initial-row k x (Fault error) ok = record { error = refl; owes = refl; keeps = refl; done = refl; changes = refl; objects = refl }
  initial-row k x End ok = record { error = refl; owes = refl; keeps = refl; done = refl; changes = refl; objects = refl }
  initial-row k x Idle ok = record { error = refl; owes = refl; keeps = refl; done = refl; changes = refl; objects = refl }
  initial-row k x NotReady ok = record { error = refl; owes = refl; keeps = refl; done = refl; changes = refl; objects = refl }
  initial-row k x (Page token reached) ok = cc
  initial-row k x Opened ok = cc
  initial-row k x Item ok = cc
  initial-row k x Spent ok = cc

  later-row : (k : List ℕ) (x : Exchange O) (a : Answer) → IsTrue (answers Next a) → AgreesAt settings false k (with_call x Next a)
  later-row k x (Added (Some version)) ok = record { error = refl; owes = refl; keeps = refl; done = done-apply x.items; changes = changes-apply x.items; objects = objects-apply x.items }
  later-row k x (Modified (Some version)) ok = record { error = refl; owes = refl; keeps = refl; done = done-apply x.items; changes = changes-apply x.items; objects = objects-apply x.items }
  later-row k x (Deleted (Some version)) ok = record { error = refl; owes = refl; keeps = refl; done = done-delete x.items; changes = changes-delete x.items; objects = objects-delete x.items }
  later-row k x (Added None) ok = record { error = refl; owes = refl; keeps = refl; done = refl; changes = refl; objects = refl }
  later-row k x (Modified None) ok = record { error = refl; owes = refl; keeps = refl; done = refl; changes = refl; objects = refl }
  later-row k x (Deleted None) ok = record { error = refl; owes = refl; keeps = refl; done = refl; changes = refl; objects = refl }
  later-row k x (Bookmark version ending) ok = record { error = refl; owes = refl; keeps = refl; done = refl; changes = refl; objects = refl }
  later-row k x (ErrorItem status) ok = record { error = refl; owes = refl; keeps = refl; done = refl; changes = refl; objects = refl }
  later-row k x (Fault error) ok = record { error = refl; owes = refl; keeps = refl; done = refl; changes = refl; objects = refl }
  later-row k x End ok = record { error = refl; owes = refl; keeps = refl; done = refl; changes = refl; objects = refl }
  later-row k x Idle ok = record { error = refl; owes = refl; keeps = refl; done = refl; changes = refl; objects = refl }
  later-row k x NotReady ok = record { error = refl; owes = refl; keeps = refl; done = refl; changes = refl; objects = refl }
  later-row k x (Page token reached) ok = cc
  later-row k x Opened ok = cc
  later-row k x Item ok = cc
  later-row k x Spent ok = cc

  row-by : (i : Bool) (k : List ℕ) (x : Exchange O) (c : Call) → x.call ≡ c → asks_api c ≡ true → IsTrue (answers c x.answer) → AgreesAt settings i k (with_call x c x.answer)
  row-by i k x (ListCall token) e api ok = list-row i k x token x.answer ok
  row-by i k x (Watch version true) e api ok = start-row i k x version x.answer ok
  row-by i k x (Watch version false) e api ok = watch-row i k x version x.answer ok
  row-by true k x Next e api ok = initial-row k x x.answer ok
  row-by false k x Next e api ok = later-row k x x.answer ok
  row-by i k x Stream e api ok = cc

  pub agrees-at : (i : Bool) (k : List ℕ) (x : Exchange O) → asks_api x.call ≡ true → IsTrue (answers x.call x.answer) → AgreesAt settings i k x
  agrees-at i k x api ok = row-by i k x x.call refl api ok

  -- after any exchanges
  pub agrees : (before : List (Exchange O)) (x : Exchange O) → x.call ≡ owed (Watched settings) before → asks_api x.call ≡ true → IsTrue (answers x.call x.answer) → Agrees settings before x
  agrees before x same api ok =
      let at = agrees-at (is_initial before) (seen before) x api ok in
      record {
        error = at.error;
        owes = at.owes ∙ (ap (λ c. owed_next settings (is_initial before) (seen before) c x) same ∙ sym (owed-push settings before x));
        keeps = at.keeps ∙ sym (seen-push before x);
        done = at.done;
        changes = at.changes;
        objects = at.objects;
      }
