-- The objects that are given of events. (Crate: `EventDecode`.)
use Rattle.std.specs.Prelude.{Bool, true, false, List, [], ◌∷◌, ◌++◌, map, Ok, Err}
use Rattle.kube_watch.specs.declared.event.Event.{Event}
use Rattle.kube_watch.specs.declared.event.Event.TheVariants.{Apply, Delete, Init, InitApply, InitDone}
use Rattle.kube_streams.specs.Adapts.{Told}

-- the object of an event that says that it is there, that of a deletion where these count too, and each error
abbrev pub decoded : {O : Type 0} → Bool → Told (Event O) → List (Told O)
decoded deletes (Ok (Apply o)) = Ok o ∷ []
decoded true (Ok (Delete o)) = Ok o ∷ []
decoded false (Ok (Delete o)) = []
decoded deletes (Ok Init) = []
decoded deletes (Ok (InitApply o)) = Ok o ∷ []
decoded deletes (Ok InitDone) = []
decoded deletes (Err e) = Err e ∷ []

-- ---- objects of lists that are whole

-- the objects of the list that began last, as far as they came
abbrev pub listed_after : {O : Type 0} → List O → Told (Event O) → List O
listed_after listed (Ok (Apply o)) = listed
listed_after listed (Ok (Delete o)) = listed
listed_after listed (Ok Init) = []
listed_after listed (Ok (InitApply o)) = listed ++ o ∷ []
listed_after listed (Ok InitDone) = []
listed_after listed (Err e) = listed

-- an object that changed is given at once, those of a list at its end, and each error
abbrev pub settled : {O : Type 0} → List O → Told (Event O) → List (Told O)
settled listed (Ok (Apply o)) = Ok o ∷ []
settled listed (Ok (Delete o)) = []
settled listed (Ok Init) = []
settled listed (Ok (InitApply o)) = []
settled listed (Ok InitDone) = map Ok listed
settled listed (Err e) = Err e ∷ []
