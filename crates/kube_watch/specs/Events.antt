-- Events of a watcher. (Crate: `watcher::Event`.)
use Rattle.std.specs.Prelude.{◌≡◌, ℕ, List, [], ◌++◌, unwrap_or, codes}
use Rattle.std.specs.Fn.{Mut, CalledAtMut}
use Rattle.std.specs.Borrow.{MutBor}
use Rattle.kube_meta.specs.declared.metadata.ObjectMeta.{ObjectMeta}
use Rattle.kube_watch.specs.declared.event.Event.{Event}
use Rattle.kube_watch.specs.declared.event.Event.TheVariants.{Apply, Delete, Init, InitApply, InitDone}

-- an event with its object read in another way
abbrev pub event_map : {A B : Type 0} → (A → B) → Event A → Event B
event_map f (Apply object) = Apply (f object)
event_map f (Delete object) = Delete (f object)
event_map f Init = Init
event_map f (InitApply object) = InitApply (f object)
event_map f InitDone = InitDone

-- a word, and a name in parentheses
abbrev pub called : List ℕ → List ℕ → List ℕ
called word name = word ++ (codes "(" ++ (name ++ codes ")"))

-- the name of an object with this metadata, or the empty text
abbrev pub name_or_empty : ObjectMeta → List ℕ
name_or_empty meta = unwrap_or meta.name []

-- how an event is shown
abbrev pub shown : {O : Type 0} → (O → ObjectMeta) → Event O → List ℕ
shown meta (Apply object) = called (codes "Apply") (name_or_empty (meta object))
shown meta (Delete object) = called (codes "Delete") (name_or_empty (meta object))
shown meta Init = codes "Init"
shown meta (InitApply object) = called (codes "InitApply") (name_or_empty (meta object))
shown meta InitDone = codes "InitDone"

-- a call of f at a `&mut` to x may leave y there
abbrev pub ChangesTo : {F T : Type 0} → Mut F (MutBor T × Unit {0}) (Unit {0} × (MutBor T × Unit {0})) → F → T → T → Type 0
ChangesTo {F} {T} g f x y = (after : F) × CalledAtMut g f x tt after y

module _ {F T : Type 0} (g : Mut F (MutBor T × Unit {0}) (Unit {0} × (MutBor T × Unit {0}))) (f : F) where
  -- f changed the object of the event; an event without one is as before
  abbrev pub IsModified : Event T → Event T → Type 0
  IsModified (Apply x) e = (y : T) × ChangesTo g f x y × (e ≡ Apply y)
  IsModified (Delete x) e = (y : T) × ChangesTo g f x y × (e ≡ Delete y)
  IsModified Init e = e ≡ Init
  IsModified (InitApply x) e = (y : T) × ChangesTo g f x y × (e ≡ InitApply y)
  IsModified InitDone e = e ≡ InitDone
