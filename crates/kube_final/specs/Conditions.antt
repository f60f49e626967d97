-- When a condition on an object holds. K is the type of the object. (Crate: `wait::conditions`.)
use Rattle.std.specs.Prelude.{◌⊎◌, ℕ, Bool, true, false, not, ◌&&◌, ◌||◌, List, Option, Some, None, is_some, find, codes}
use Rattle.std.specs.List.{list_all}
use Rattle.std.specs.Str.{bytes_eq}
use Rattle.kube_meta.specs.declared.metadata.ObjectMeta.{ObjectMeta}
use Rattle.kube_final.specs.declared.parts.StatusCondition.{StatusCondition}
use Rattle.kube_final.specs.declared.parts.ConditionsStatus.{ConditionsStatus}
use Rattle.kube_final.specs.declared.parts.ServiceSpec.{ServiceSpec}
use Rattle.kube_final.specs.declared.parts.LoadBalancerIngress.{LoadBalancerIngress}
use Rattle.kube_final.specs.declared.parts.ExposedStatus.{ExposedStatus}
use Rattle.kube_final.specs.declared.kinds.Pod.{Pod}
use Rattle.kube_final.specs.declared.kinds.Job.{Job}
use Rattle.kube_final.specs.declared.kinds.Deployment.{Deployment}
use Rattle.kube_final.specs.declared.kinds.Service.{Service}
use Rattle.kube_final.specs.declared.kinds.Ingress.{Ingress}
use Rattle.kube_final.specs.declared.kinds.CustomResourceDefinition.{CustomResourceDefinition}

-- a part is there, and this holds of it
abbrev pub is_there : {A : Type 0} → (A → Bool) → Option A → Bool
is_there p None = false
is_there p (Some a) = p a

-- ---- conditions of any object

abbrev pub has_uid : List ℕ → ObjectMeta → Bool
has_uid uid meta = is_there (λ u. bytes_eq u uid) meta.uid

-- there is no object, or another one
abbrev pub is_deleted : {K : Type 0} → (K → ObjectMeta) → List ℕ → Option K → Bool
is_deleted meta_of uid object = not (is_there (λ o. has_uid uid (meta_of o)) object)

-- ---- conditions of a status: the first of a type counts

abbrev pub says_true : StatusCondition → Bool
says_true c = bytes_eq c.status (codes "True")

abbrev pub is_true : List ℕ → List StatusCondition → Bool
is_true type conditions = is_there says_true (find (λ c. bytes_eq c.type_ type) conditions)

abbrev pub has_true : List ℕ → Option ConditionsStatus → Bool
has_true type status = is_there (λ s. is_there (is_true type) s.conditions) status

abbrev pub is_established : Option CustomResourceDefinition → Bool
is_established object = is_there (λ o. has_true (codes "Established") o.status) object

abbrev pub is_completed : Option Job → Bool
is_completed object = is_there (λ o. has_true (codes "Complete") o.status) object

abbrev pub is_running : Option Pod → Bool
is_running object = is_there (λ o. is_there (λ s. is_there (λ phase. bytes_eq phase (codes "Running")) s.phase) o.status) object

-- the new replica set of a deployment is there
abbrev pub is_rolled_out : StatusCondition → Bool
is_rolled_out c = bytes_eq c.type_ (codes "Progressing") && is_there (λ reason. bytes_eq reason (codes "NewReplicaSetAvailable")) c.reason

abbrev pub is_deployed : Option Deployment → Bool
is_deployed object = is_there (λ o. is_there (λ s. is_there (λ conditions. is_there says_true (find is_rolled_out conditions)) s.conditions) o.status) object

-- ---- load balancers

abbrev pub has_address : LoadBalancerIngress → Bool
has_address i = is_some i.ip || is_some i.hostname

-- the list is there, and each of it has an address: so an empty list will do
abbrev pub is_provisioned : Option ExposedStatus → Bool
is_provisioned status = is_there (λ s. is_there (λ b. is_there (list_all has_address) b.ingress) s.load_balancer) status

abbrev pub is_balanced : ServiceSpec → Bool
is_balanced spec = is_there (λ type. bytes_eq type (codes "LoadBalancer")) spec.type_

abbrev pub is_service_provisioned : Option Service → Bool
is_service_provisioned object = is_there (λ o. is_there (λ spec. not (is_balanced spec) || is_provisioned o.status) o.spec) object

abbrev pub is_ingress_provisioned : Option Ingress → Bool
is_ingress_provisioned object = is_there (λ o. is_provisioned o.status) object

-- ---- two conditions, by what each may answer

-- false where the first is, and else what the second is
abbrev pub BothHold : (Bool → Type 0) → (Bool → Type 0) → Bool → Type 0
BothHold first second true = first true × second true
BothHold first second false = first false ⊎ (first true × second false)

-- true where the first is, and else what the second is
abbrev pub OneHolds : (Bool → Type 0) → (Bool → Type 0) → Bool → Type 0
OneHolds first second true = first true ⊎ (first false × second true)
OneHolds first second false = first false × second false
