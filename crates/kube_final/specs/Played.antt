-- What a life that is played asks of a server in memory: one call for each step that changes the object, and no other. (Kubernetes API concepts: patch, resource deletion.)
use Rattle.std.specs.Prelude.{◌≡◌, ℕ, List, [], ◌∷◌, slice_get, Option, Some, None}
use Rattle.kube_meta.specs.Reference.{ObjectType, Reference}
use Rattle.kube_server.specs.Servers.{ServerState, next_revision, reference_key, held, IsStep, IsAtMostStep, IsHeldAnd, put_change, deletion}
use Rattle.kube_final.specs.declared.life.LifeStep.{LifeStep}
use Rattle.kube_final.specs.declared.life.LifeStep.TheVariants.{Other, RequestDelete, Decide, ApplyStarts, CleanupStarts, CleanupEnds, Send, Arrive}
use Rattle.kube_final.specs.Finalizers.{patch_on, replacement}
use Rattle.kube_final.specs.Lives.{Decided, Past, after, beginning, decision_of}
use Rattle.kube_final.specs.Playing.{IsAnswered, new_object, object_key}

-- a server of a type, of which nothing was asked
abbrev pub no_objects : ObjectType → ServerState
no_objects kind = record { kind = kind; changes = []; compacted = 0 }

-- then the object of a life was put
abbrev pub IsOpened : ObjectType → ServerState → Type 0
IsOpened kind new = IsStep (no_objects kind) new (put_change (no_objects kind) object_key new_object)

-- the object of this reference, which is there, was asked to go at moment 0
abbrev pub IsDeletionAsked : Reference → ServerState → ServerState → Type 0
IsDeletionAsked r old new = IsHeldAnd (held old r) (λ o. IsAtMostStep old new (deletion (next_revision old) 0 o))

-- the patch of a decision was sent, and done or refused
abbrev pub IsArrivalAsked : List ℕ → Option Decided → Reference → ServerState → ServerState → Type 0
IsArrivalAsked name None r old new = new ≡ old
IsArrivalAsked name (Some d) r old new = IsAnswered old new r (patch_on name d.seen d.decision)

-- what a step asks of the server: another party's change is a patch, and so is what arrives
abbrev pub IsStepAsked : List ℕ → Past → LifeStep → Reference → ServerState → ServerState → Type 0
IsStepAsked name p (Other finalizers) r old new = IsAnswered old new r (replacement finalizers)
IsStepAsked name p RequestDelete r old new = IsDeletionAsked r old new
IsStepAsked name p (Arrive n) r old new = IsArrivalAsked name (decision_of p (slice_get p.sent n)) r old new
IsStepAsked name p (Decide sight) r old new = new ≡ old
IsStepAsked name p (ApplyStarts d) r old new = new ≡ old
IsStepAsked name p (CleanupStarts d) r old new = new ≡ old
IsStepAsked name p (CleanupEnds d ok) r old new = new ≡ old
IsStepAsked name p (Send d) r old new = new ≡ old

-- one step after another
abbrev pub AreAsked : List ℕ → Past → List LifeStep → Reference → ServerState → ServerState → Type 0
AreAsked name p [] r old new = new ≡ old
AreAsked name p (step ∷ steps) r old new = (between : ServerState) × IsStepAsked name p step r old between × AreAsked name (after name p step) steps r between new

-- the server of a life that was played, whose object has this reference
pub record IsPlayedOn (name : List ℕ) (life : List LifeStep) (r : Reference) (server : ServerState) : Type 0 where
  pub key : reference_key r ≡ object_key
  pub opened : ServerState
  pub put : IsOpened r.kind opened
  pub asked : AreAsked name beginning life r opened server
