-- A reason as the program holds it, seen as plain data.
use Rattle.kube_meta.specs.Keys.{reference_of}
use Rattle.kube_meta.specs.Resources.{resource_type}
use Rattle.kube_model.specs.declared.reason.ReconcileReason.{ReconcileReason}
use Rattle.kube_model.specs.declared.reason.ReconcileReason.TheVariants as held
use Rattle.kube_model.specs.Reason.{Reason, Unknown, ObjectUpdated, RelatedObjectUpdated, ReconcilerRequestedRetry, ErrorPolicyRequestedRetry, BulkReconcile, Custom}

abbrev pub reason_of : ReconcileReason → Reason
reason_of held.Unknown = Unknown
reason_of held.ObjectUpdated = ObjectUpdated
reason_of (held.RelatedObjectUpdated r) = RelatedObjectUpdated (reference_of (λ t. resource_type t.value) r.value)
reason_of held.ReconcilerRequestedRetry = ReconcilerRequestedRetry
reason_of held.ErrorPolicyRequestedRetry = ErrorPolicyRequestedRetry
reason_of held.BulkReconcile = BulkReconcile
reason_of (held.Custom text) = Custom text
