use Rattle.std.proofs.Common.{refl, rules}
use Rattle.kube_meta.specs.Reading.{meta_at}
use Rattle.kube_meta.proofs.reading.ObjectMetaReadable.read.Goals as goal

pub returns-in_err-finalizers : goal.returns-in_err-finalizers
unfolding meta_at
returns-in_err-finalizers c =
    rw (c.in_ok-is_object.ensures, c.in_ok-name.ensures, c.in_ok-namespace.ensures, c.in_ok-uid.ensures, c.in_ok-resource_version.ensures, c.in_ok-deletion_timestamp.ensures, c.in_ok-generation.ensures, c.in_ok-labels.ensures, c.in_ok-annotations.ensures) (search rules)

pub returns-in_err-owner_references : goal.returns-in_err-owner_references
unfolding meta_at
returns-in_err-owner_references c =
    rw (c.in_ok-is_object.ensures, c.in_ok-name.ensures, c.in_ok-namespace.ensures, c.in_ok-uid.ensures, c.in_ok-resource_version.ensures, c.in_ok-deletion_timestamp.ensures, c.in_ok-generation.ensures, c.in_ok-labels.ensures, c.in_ok-annotations.ensures, c.in_ok-finalizers.ensures) (search rules)

pub returns : goal.returns
unfolding meta_at
returns c =
    rw (c.in_ok-is_object.ensures, c.in_ok-name.ensures, c.in_ok-namespace.ensures, c.in_ok-uid.ensures, c.in_ok-resource_version.ensures, c.in_ok-deletion_timestamp.ensures, c.in_ok-generation.ensures, c.in_ok-labels.ensures, c.in_ok-annotations.ensures, c.in_ok-finalizers.ensures, c.in_ok-owner_references.ensures) refl
