-- What a life asks of a server, step by step.
use Rattle.std.proofs.Common.{◌≡◌, ℕ, suc, ◌≤◌, List, [], ◌∷◌, ◌++◌, slice_get, length, Option, Some, None, true, refl, sym, ap, subst}
use Rattle.std.proofs.lemmas.List.{take_all}
use Rattle.std.specs.Prelude.{drop, fold, take}
use Rattle.kube_meta.specs.declared.dynamic.DynamicObject.{DynamicObject}
use Rattle.kube_meta.specs.Reading.{seen_object}
use Rattle.kube_meta.specs.Reference.{ObjectType, Reference}
use Rattle.kube_api.specs.Patches.{Operation}
use Rattle.kube_server.specs.History.{key_of}
use Rattle.kube_server.specs.Servers.{ServerState, IsStep, put_change}
use Rattle.kube_final.specs.declared.life.LifeStep.{LifeStep}
use Rattle.kube_final.specs.declared.life.LifeStep.TheVariants.{Arrive}
use Rattle.kube_final.specs.declared.play.Stage.{Stage}
use Rattle.kube_final.specs.Finalizers.{patch_on}
use Rattle.kube_final.specs.Lives.{Decided, Past, after, beginning, is_life_from, may_follow, past_of}
use Rattle.kube_final.specs.Playing.{IsAnswered, IsKept, IsPatchOf, IsStage, new_object, object_key, stage_reference}
use Rattle.kube_final.specs.Played.{AreAsked, IsArrivalAsked, IsOpened, IsPlayedOn, IsStepAsked, no_objects}
use Rattle.kube_final.proofs.Sights.{IsPlayed, both, played-next, taken-more}

-- ---- the object is put

pub put-opened : (kind : ObjectType) (old new : ServerState) (x : DynamicObject) → old ≡ no_objects kind → seen_object x ≡ new_object
    → IsStep old new (put_change old (key_of x.metadata) (seen_object x)) → IsOpened kind new
put-opened kind old new x e seen step =
    let key : key_of x.metadata ≡ object_key = ap (λ o. key_of o.metadata) seen in
    subst (λ s. IsStep s new (put_change s object_key new_object)) e
    (subst (λ k. IsStep old new (put_change old k new_object)) key
    (subst (λ o. IsStep old new (put_change old (key_of x.metadata) o)) seen step))

-- ---- a patch that arrives

pub arrival-asked : (old new : ServerState) (r : Reference) (os : List Operation) → IsAnswered old new r os
    → (name : List ℕ) (d : Decided) → IsPatchOf name os (Some d) → IsAnswered old new r (patch_on name d.seen d.decision)
arrival-asked old new r os a name d p = subst (IsAnswered old new r) p.0 a

asked-by : (old new : ServerState) (r : Reference) (name : List ℕ) (os : List Operation) (o : Option Decided) → IsPatchOf name os o
    → ((d : Decided) → IsPatchOf name os (Some d) → IsAnswered old new r (patch_on name d.seen d.decision)) → IsArrivalAsked name o r old new
asked-by old new r name os None k f = absurd k
asked-by old new r name os (Some d) k f = f d k

pub asked-as : (old new : ServerState) (r : Reference) (name : List ℕ) (p : Past) (os : List Operation) (n m : ℕ) → slice_get p.sent n ≡ Some m → IsPatchOf name os (slice_get p.decisions m)
    → ((d : Decided) → IsPatchOf name os (Some d) → IsAnswered old new r (patch_on name d.seen d.decision)) → IsStepAsked name p (Arrive n) r old new
asked-as old new r name p os n m e k f = rw e (asked-by old new r name os (slice_get p.decisions m) k f)

-- ---- one step more

asked-more : (name : List ℕ) (p : Past) (front : List LifeStep) (step : LifeStep) (r : Reference) (old mid new : ServerState)
    → AreAsked name p front r old mid → IsStepAsked name (fold (after name) p front) step r mid new → AreAsked name p (front ++ step ∷ []) r old new
asked-more name p [] step r old mid new h k = (new, subst (λ s. IsStepAsked name p step r s new) h k, refl)
asked-more name p (s ∷ front) step r old mid new h k = (h.0, h.1, asked-more name (after name p s) front step r h.0 mid new h.2 k)

-- so much of the life was played, and asked of the server
pub record IsPlayedSo (name : List ℕ) (life : List LifeStep) (i : ℕ) (s : Stage) : Type 0 where
  pub played : IsPlayed name life i s
  pub asked : IsPlayedOn name (take i life) (stage_reference s) s.server

played-more : (name : List ℕ) (life : List LifeStep) (i : ℕ) (step : LifeStep) (p : Past) (r : Reference) (old new : ServerState)
    → drop i life ≡ step ∷ drop (suc i) life → p ≡ past_of name (take i life) → IsPlayedOn name (take i life) r old → IsStepAsked name p step r old new
    → IsPlayedOn name (take (suc i) life) r new
played-more name life i step p r old new e past h k = record {
  key = h.key;
  opened = h.opened;
  put = h.put;
  asked = subst (λ l. AreAsked name beginning l r h.opened new) (sym (taken-more i life step e))
      (asked-more name beginning (take i life) step r h.opened old new h.asked (subst (λ q. IsStepAsked name q step r old new) past k));
}

-- what a step of the stage asks
abbrev pub StepAsks : Stage → LifeStep → Stage → Type 0
StepAsks s step t = (p : Past) → IsKept s.name s p → may_follow s.name p step ≡ true → IsStepAsked s.name p step (stage_reference s) s.server t.server

pub played-so-next : (name : List ℕ) (life : List LifeStep) (i j : ℕ) (s t : Stage) (step : LifeStep) → j ≡ suc i → IsPlayedSo name life i s → drop i life ≡ step ∷ drop (suc i) life → t.name ≡ s.name
    → ((p : Past) → IsStage s.name s p → may_follow s.name p step ≡ true → IsStage s.name t (after s.name p step)) → stage_reference t ≡ stage_reference s → StepAsks s step t
    → IsPlayedSo name life j t
played-so-next name life i j s t step next h e n f key asks =
    let past = h.played.past in
    let goes : is_life_from name past (step ∷ drop (suc i) life) ≡ true = subst (λ l. is_life_from name past l ≡ true) e h.played.rest in
    let follows : may_follow name past step ≡ true = (both (may_follow name past step) (is_life_from name (after name past step) (drop (suc i) life)) goes).0 in
    let asks-so : (p : Past) → IsKept name s p → may_follow name p step ≡ true → IsStepAsked name p step (stage_reference s) s.server t.server =
    subst (λ m. (p : Past) → IsKept m s p → may_follow m p step ≡ true → IsStepAsked m p step (stage_reference s) s.server t.server) h.played.named asks in
    let more : IsPlayedOn name (take (suc i) life) (stage_reference s) t.server =
    played-more name life i step past (stage_reference s) s.server t.server e h.played.upto h.asked (asks-so past h.played.stage.kept follows) in
    record {
      played = played-next name life i j s t step next h.played e n f;
      asked = subst (λ k. IsPlayedOn name (take k life) (stage_reference t) t.server) (sym next) (subst (λ r. IsPlayedOn name (take (suc i) life) r t.server) (sym key) more);
    }

pub played-on : (name : List ℕ) (life : List LifeStep) (i : ℕ) (s : Stage) → IsPlayedSo name life i s → length life ≤ i → (r : Reference) × IsPlayedOn name life r s.server
played-on name life i s h e = (stage_reference s, subst (λ l. IsPlayedOn name l (stage_reference s) s.server) (take_all i life e) h.asked)
