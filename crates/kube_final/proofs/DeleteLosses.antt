-- What a deletion asked where memory could not be had.
use Rattle.std.proofs.Common.{◌≡◌, inl, ℕ, List, Option, Some, None, refl, ap}
use Rattle.kube_meta.specs.declared.metadata.ObjectMeta.{ObjectMeta}
use Rattle.kube_meta.specs.declared.poll.Polled.{Polled}
use Rattle.kube_meta.specs.declared.poll.Polled.TheVariants.{Ready, NotReady}
use Rattle.kube_api.specs.declared.object_api.DeleteAnswer.{DeleteAnswer}
use Rattle.kube_api.specs.declared.object_api.DeleteAnswer.TheVariants.{Object, Status, NotFound, Fault}
use Rattle.kube_api.specs.ObjectTalk.{delete_answer}
use Rattle.kube_watch.specs.Polls.{Api}
use Rattle.kube_final.specs.declared.delete.Deletion.{Deletion}
use Rattle.kube_final.specs.Deletions.{IsLostBy, deletion_by}
use Rattle.kube_final.specs.FinalizerPolls.{Objects}
use Rattle.kube_final.specs.Waiting.{Deleting}

-- what an answer to a deletion comes to
pub comes_to : {V : Type 0} (meta_of : V → ObjectMeta) (a : Polled (DeleteAnswer V)) → (d : Deletion) × (deletion_by meta_of (delete_answer a) ≡ Some d)
comes_to meta_of NotReady = (_, refl)
comes_to meta_of (Ready (Object object)) = (_, refl)
comes_to meta_of (Ready (Status status)) = (_, refl)
comes_to meta_of (Ready NotFound) = (_, refl)
comes_to meta_of (Ready (Fault error)) = (_, refl)

-- nothing at all happened
pub lost_still : {O V A W : Type 0} (objects : Objects O V) (reply_meta : V → ObjectMeta) (api : Api A W) (meta_of : W → ObjectMeta) (now fuel : ℕ) (uid : Option (List ℕ)) (before after : O) (old new : Deleting A W)
    → after ≡ before → new.watch ≡ old.watch → IsLostBy objects reply_meta api meta_of now fuel uid before old after new
lost_still objects reply_meta api meta_of now fuel (Some uid) before after old new same watch = (same, inl watch)
lost_still objects reply_meta api meta_of now fuel None before after old new same watch = inl (inl (ap objects.talk same, ap objects.held same, inl same), watch)
