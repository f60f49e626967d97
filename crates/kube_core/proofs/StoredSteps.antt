-- What an exchange of the root leaves.
use Rattle.std.proofs.Common.{◌≡◌, ◌≢◌, ℕ, Bool, true, false, ◌==◌, List, [], ◌∷◌, ◌++◌, map, if◌then◌else◌, refl, sym, ap, subst, ◌∙◌, append-nil}
use Rattle.std.specs.List.{fold}
use Rattle.kube_meta.specs.declared.metadata.ObjectMeta.{ObjectMeta}
use Rattle.kube_meta.specs.Reference.{ObjectType}
use Rattle.kube_meta.specs.Keys.{key_of}
use Rattle.kube_model.specs.World.{Settings}
use Rattle.kube_model.specs.declared.call.Answer.{Answer}
use Rattle.kube_model.specs.declared.call.Call.{Call}
use Rattle.kube_model.specs.History.{Exchange}
use Rattle.kube_model.specs.Owed.{is_initial, seen}
use Rattle.kube_model.specs.SecondForms.{initial_after}
use Rattle.kube_model.proofs.Marks.{initial-push}
use Rattle.kube_watch.specs.declared.event.Event.{Event}
use Rattle.kube_watch.specs.Calls.{brings}
use Rattle.kube_watch.specs.Events.{event_map}
use Rattle.kube_watch.specs.Table.{table}
use Rattle.kube_watch.proofs.Brings.{tells-nothing}
use Rattle.kube_reflect.specs.Cached.{Kept, applied}
use Rattle.kube_reflect.specs.Exchanged.{MayFollow, IsLeftBy}
use Rattle.kube_reflect.specs.Writers.{Writing, with_event}
use Rattle.kube_reflect.proofs.Exchanging.{one-more}
use Rattle.kube_history.specs.CoreWorld.{CoreWorld}
use Rattle.kube_core.specs.Cores.{HasSameHandles, IsOfType, of_root}

-- Events that are applied to a writer.
module _ {O A : Type 0} (value : A → O) (meta : O → ObjectMeta) where
  pub kept-all : (w : Writing O) (events : List (Event A))
      → (fold (with_event value meta) w events).kept ≡ fold (applied (λ o. key_of w.kind (meta o))) w.kept (map (event_map value) events)
  kept-all w [] = refl
  kept-all w (e ∷ es) = kept-all (with_event value meta w e) es

  pub kind-all : (w : Writing O) (events : List (Event A)) → (fold (with_event value meta) w events).kind ≡ w.kind
  kind-all w [] = refl
  kind-all w (e ∷ es) = kind-all (with_event value meta w e) es

  pub handles-all : (w : Writing O) (events : List (Event A)) → HasSameHandles w (fold (with_event value meta) w events)
  handles-all w [] = record { book = refl; readers = refl; shown = refl }
  handles-all w (e ∷ es) = let r = handles-all (with_event value meta w e) es in record { book = r.book; readers = r.readers; shown = r.shown }

-- where something is told, the answer brings something
pub brings-told : {O A : Type 0} (value : A → O) (events : List (Event A)) (settings : Settings) (version : List ℕ) (initial : Bool) (call : Call) (answer : Answer) (items : List O)
    → map (event_map value) events ≡ (table settings version initial call answer items).events → events ≢ [] → brings answer call ≡ true
brings-told {O} {A} value events settings version initial call answer items told some = go (brings answer call) refl
  where
    none : (es : List (Event A)) → map (event_map value) es ≡ [] → es ≡ []
    none [] h = refl
    none (e ∷ es) h = absurd (cc)

    go : (b : Bool) → brings answer call ≡ b → brings answer call ≡ true
    go true h = h
    go false h = absurd (some (none events (told ∙ tells-nothing settings version initial call answer items h)))

module _ {K : Type 0} (meta : K → ObjectMeta) where
  -- one of the root
  pub root-stored : (core : CoreWorld K) (kind : ObjectType) (own : List (Exchange K)) (x : Exchange K) (k k' : Kept K) (initial : Bool) → (x.source == 0) ≡ true → IsOfType kind meta core
      → IsLeftBy core.key own k → initial ≡ is_initial own → MayFollow own x
      → ((s : Settings) (version : List ℕ) → k' ≡ fold (applied (λ o. key_of kind (meta o))) k (table s version initial x.call x.answer x.items).events)
      → IsLeftBy core.key (own ++ of_root x) k'
  root-stored core kind own x k k' initial root is left i may told =
      let same : k' ≡ fold (applied core.key) k (table may.settings (seen own) (is_initial own) x.call x.answer x.items).events =
      told may.settings (seen own)
      ∙ (ap (λ b. fold (applied (λ o. key_of kind (meta o))) k (table may.settings (seen own) b x.call x.answer x.items).events) i
      ∙ ap (λ key. fold (applied key) k (table may.settings (seen own) (is_initial own) x.call x.answer x.items).events) (sym is.key)) in
      subst (λ ys. IsLeftBy core.key (own ++ ys) k') (sym (ap (λ b. if b then x ∷ [] else []) root))
      (subst (IsLeftBy core.key (own ++ x ∷ [])) (sym same) (one-more core.key may.settings own x k may left))

  pub root-initial : (own : List (Exchange K)) (x : Exchange K) (initial initial' : Bool) → (x.source == 0) ≡ true → initial ≡ is_initial own → initial' ≡ initial_after initial x
      → initial' ≡ is_initial (own ++ of_root x)
  root-initial own x initial initial' root i e =
      e ∙ (ap (λ b. initial_after b x) i ∙ (sym (initial-push own x) ∙ ap (λ b. is_initial (own ++ (if b then x ∷ [] else []))) (sym root)))

  -- one of another source
  pub not-root : (own : List (Exchange K)) (x : Exchange K) → (x.source == 0) ≡ false → own ≡ own ++ of_root x
  not-root own x h = sym (ap (λ b. own ++ (if b then x ∷ [] else [])) h ∙ append-nil own)
