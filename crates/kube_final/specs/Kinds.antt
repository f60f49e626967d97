-- The parts of an object of a known type that conditions ask, and how they are read of its JSON. (Kubernetes API reference: Pod, Job, Deployment, Service, Ingress, CustomResourceDefinition.)
use Rattle.std.specs.Prelude.{Result, Ok, codes}
use Rattle.serde_json.specs.Data.{Data}
use Rattle.kube_meta.specs.Reading.{text_at, list_at, field, maybe_field, object_at}
use Rattle.kube_meta.specs.Places.{◌>>=◌}
use Rattle.kube_meta.specs.declared.metadata.ObjectMeta.{ObjectMeta}
use Rattle.kube_meta.specs.declared.object_fault.ObjectFault.{ObjectFault}
use Rattle.kube_final.specs.declared.parts.StatusCondition.{StatusCondition}
use Rattle.kube_final.specs.declared.parts.ConditionsStatus.{ConditionsStatus}
use Rattle.kube_final.specs.declared.parts.PodStatus.{PodStatus}
use Rattle.kube_final.specs.declared.parts.ServiceSpec.{ServiceSpec}
use Rattle.kube_final.specs.declared.parts.LoadBalancerIngress.{LoadBalancerIngress}
use Rattle.kube_final.specs.declared.parts.LoadBalancerStatus.{LoadBalancerStatus}
use Rattle.kube_final.specs.declared.parts.ExposedStatus.{ExposedStatus}
use Rattle.kube_final.specs.declared.kinds.Pod.{Pod}
use Rattle.kube_final.specs.declared.kinds.Job.{Job}
use Rattle.kube_final.specs.declared.kinds.Deployment.{Deployment}
use Rattle.kube_final.specs.declared.kinds.Service.{Service}
use Rattle.kube_final.specs.declared.kinds.Ingress.{Ingress}
use Rattle.kube_final.specs.declared.kinds.CustomResourceDefinition.{CustomResourceDefinition}

-- ---- parts: each is an object, and members of other names are not read

unfoldable pub condition_at : Data → Result StatusCondition ObjectFault
condition_at d = do
  _ ← object_at d
  type ← field (codes "type") text_at d
  status ← field (codes "status") text_at d
  reason ← maybe_field (codes "reason") text_at d
  Ok (record { type_ = type; status = status; reason = reason })

unfoldable pub conditions_at : Data → Result ConditionsStatus ObjectFault
conditions_at d = do
  _ ← object_at d
  conditions ← maybe_field (codes "conditions") (list_at condition_at) d
  Ok (record { conditions = conditions })

unfoldable pub pod_status_at : Data → Result PodStatus ObjectFault
pod_status_at d = do
  _ ← object_at d
  phase ← maybe_field (codes "phase") text_at d
  Ok (record { phase = phase })

unfoldable pub service_spec_at : Data → Result ServiceSpec ObjectFault
service_spec_at d = do
  _ ← object_at d
  type ← maybe_field (codes "type") text_at d
  Ok (record { type_ = type })

unfoldable pub ingress_at : Data → Result LoadBalancerIngress ObjectFault
ingress_at d = do
  _ ← object_at d
  ip ← maybe_field (codes "ip") text_at d
  hostname ← maybe_field (codes "hostname") text_at d
  Ok (record { ip = ip; hostname = hostname })

unfoldable pub balancer_at : Data → Result LoadBalancerStatus ObjectFault
balancer_at d = do
  _ ← object_at d
  ingress ← maybe_field (codes "ingress") (list_at ingress_at) d
  Ok (record { ingress = ingress })

unfoldable pub exposed_at : Data → Result ExposedStatus ObjectFault
exposed_at d = do
  _ ← object_at d
  balancer ← maybe_field (codes "loadBalancer") balancer_at d
  Ok (record { load_balancer = balancer })

-- ---- objects, by their metadata and their other members

unfoldable pub pod_at : ObjectMeta → Data → Result Pod ObjectFault
pod_at metadata d = maybe_field (codes "status") pod_status_at d >>= λ status. Ok (record { metadata = metadata; status = status })

unfoldable pub job_at : ObjectMeta → Data → Result Job ObjectFault
job_at metadata d = maybe_field (codes "status") conditions_at d >>= λ status. Ok (record { metadata = metadata; status = status })

unfoldable pub deployment_at : ObjectMeta → Data → Result Deployment ObjectFault
deployment_at metadata d = maybe_field (codes "status") conditions_at d >>= λ status. Ok (record { metadata = metadata; status = status })

unfoldable pub definition_at : ObjectMeta → Data → Result CustomResourceDefinition ObjectFault
definition_at metadata d = maybe_field (codes "status") conditions_at d >>= λ status. Ok (record { metadata = metadata; status = status })

unfoldable pub service_at : ObjectMeta → Data → Result Service ObjectFault
service_at metadata d = do
  spec ← maybe_field (codes "spec") service_spec_at d
  status ← maybe_field (codes "status") exposed_at d
  Ok (record { metadata = metadata; spec = spec; status = status })

unfoldable pub ingress_object_at : ObjectMeta → Data → Result Ingress ObjectFault
ingress_object_at metadata d = maybe_field (codes "status") exposed_at d >>= λ status. Ok (record { metadata = metadata; status = status })
