use Rattle.std.proofs.Common.{refl}
use Rattle.kube_meta.specs.Writing.{meta_fields}
use Rattle.kube_meta.proofs.writing.put_meta.Goals as goal

pub returns : goal.returns
unfolding meta_fields
returns c =
    rw (c.in_ok-put_list-2.ensures, c.in_ok-put_list.ensures, c.in_ok-put_texts-2.ensures, c.in_ok-put_texts.ensures, c.in_ok-put_if-6.ensures, c.in_ok-put_if-5.ensures, c.in_ok-put_if-4.ensures, c.in_ok-put_if-3.ensures, c.in_ok-put_if-2.ensures, c.in_ok-put_if.ensures) refl
