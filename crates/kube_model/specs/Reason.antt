-- Why something is reconciled, as plain data (crate: `ReconcileReason`).
use Rattle.std.specs.Prelude.{ℕ, List, ◌++◌, codes}
use Rattle.kube_meta.specs.Reference.{Reference, shown}

pub data Reason : Type 0 where
  Unknown : Reason
  ObjectUpdated : Reason
  RelatedObjectUpdated : (object : Reference) → Reason
  ReconcilerRequestedRetry : Reason
  ErrorPolicyRequestedRetry : Reason
  BulkReconcile : Reason
  Custom : (text : List ℕ) → Reason

-- how a reason is shown
abbrev pub reason_text : Reason → List ℕ
reason_text Unknown = codes "unknown"
reason_text ObjectUpdated = codes "object updated"
reason_text (RelatedObjectUpdated object) = codes "related object updated: " ++ shown object
reason_text ReconcilerRequestedRetry = codes "reconciler requested retry"
reason_text ErrorPolicyRequestedRetry = codes "error policy requested retry"
reason_text BulkReconcile = codes "bulk reconcile requested"
reason_text (Custom text) = text
