-- A lease as an object's content, and the first fault of an object that is none.
use Rattle.std.specs.Prelude.{◌≡◌, ℕ, ⊤, List, Option, Some, None, Result, Ok, Err, codes}
use Rattle.std.specs.Option.{option_and_then}
use Rattle.serde_json.specs.Data.{Data, no_members, member, object, number, string, unsigned}
use Rattle.serde_json.specs.Find.{get, as_number, as_str, as_u64}
use Rattle.kube_meta.specs.declared.metadata.ObjectMeta.{ObjectMeta}
use Rattle.kube_meta.specs.Reading.{ObjectData}
use Rattle.kube_meta.specs.Resources.{no_metadata}
use Rattle.kube_lease.specs.declared.lease.LeaseView.{LeaseView}
use Rattle.kube_lease.specs.declared.lease.LeaseFault.{LeaseFault}
use Rattle.kube_lease.specs.declared.lease.LeaseFault.TheVariants.{Malformed, NoMemory}
use Rattle.kube_lease.specs.Leases.{Lease, unheld}

abbrev pub lease_of : LeaseView → Lease
lease_of v = record { holder = v.holder; term = v.term; until = v.until.0 }

-- a member of an object's spec
abbrev pub spec_member : List ℕ → Data → Option Data
spec_member k d = option_and_then (get k) (get (codes "spec") d)

abbrev pub spec_text : List ℕ → Data → Option (List ℕ)
spec_text k d = option_and_then as_str (spec_member k d)

abbrev pub number_of : Data → Option ℕ
number_of d = option_and_then as_u64 (as_number d)

abbrev pub spec_number : List ℕ → Data → Option ℕ
spec_number k d = option_and_then number_of (spec_member k d)

-- the lease of a holder, a term and an end, or the place of the first that is missing
abbrev pub lease_by : Option (List ℕ) → Option ℕ → Option ℕ → Result Lease (List ℕ)
lease_by None term until = Err (codes "/spec/holder")
lease_by (Some holder) None until = Err (codes "/spec/term")
lease_by (Some holder) (Some term) None = Err (codes "/spec/until")
lease_by (Some holder) (Some term) (Some until) = Ok (record { holder = holder; term = term; until = until })

-- the lease that a content is, or the first place at which something is missing or of another form
abbrev pub lease_at : Data → Result Lease (List ℕ)
lease_at d = lease_by (spec_text (codes "holder") d) (spec_number (codes "term") d) (spec_number (codes "until") d)

-- why there is none, unless memory ran out
abbrev pub IsFaultOf : Result Lease (List ℕ) → LeaseFault → Type 0
IsFaultOf wanted NoMemory = ⊤
IsFaultOf wanted (Malformed place) = wanted ≡ Err place

-- a lease as a content
abbrev pub lease_data : Lease → Data
lease_data l = object (member (codes "spec") (object (member (codes "holder") (string l.holder) (member (codes "term") (number (unsigned l.term)) (member (codes "until") (number (unsigned l.until)) no_members)))) no_members)

abbrev pub named : List ℕ → ObjectMeta
named name = record no_metadata { name = Some name }

-- a lease of a name that nobody has held
abbrev pub new_lease : List ℕ → ObjectData
new_lease name = record { types = None; metadata = named name; content = lease_data unheld }
