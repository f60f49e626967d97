use Rattle.std.proofs.Common.{◌≡◌, Ok, refl, sym, ap, ◌∙◌, subst}
use Rattle.serde_json.specs.Data.{object}
use Rattle.serde_json.proofs.Views.{view-Object}
use Rattle.kube_meta.specs.Reading.{seen_object, object_data_at}
use Rattle.kube_meta.specs.Writing.{object_data, as_read}
use Rattle.kube_meta.proofs.ReadBack.{object_back}
use Rattle.kube_meta.proofs.writing.write_object.Goals as goal

pub returns-clause-members : goal.returns-clause-members
unfolding object_data
returns-clause-members c =
    view-Object c.put.new.map
    ∙ ap object (c.in_ok-put.ensures.ok ∙ rw (c.in_ok-metadata.ensures, c.in_ok-put_types.ensures, c.in_ok-members.ensures) refl)

pub returns-clause-reads_back : goal.returns-clause-reads_back
returns-clause-reads_back c = λ plain.
    let o = seen_object c.args.object.now in
    subst (λ d. object_data_at d ≡ Ok (as_read o)) (sym (returns-clause-members c)) (object_back o plain c.generation_fits.ensures)
