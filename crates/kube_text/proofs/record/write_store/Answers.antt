use Rattle.std.proofs.Common.{◌++◌, codes, map, option_map, subst, true}
use Rattle.std.specs.Arc.{arc_value}
use Rattle.serde_json.specs.Written.{members_text}
use Rattle.kube_meta.specs.Writing.{object_data}
use Rattle.kube_text.specs.Pieces.{Holds}
use Rattle.kube_text.specs.Shown.{array_of, member_if}
use Rattle.kube_text.proofs.record.write_store.Goals as goal

pub returns-in-Some-clause-part : goal.returns-in-Some-clause-part
returns-in-Some-clause-part g c rest end start whole h =
    c.write_list.ensures.part rest end start whole
    (subst (λ o. Holds start (g.W.Sink.written c.args.sink.now) c.args.line.items (members_text true (member_if (codes "store") (option_map (array_of object_data) (option_map (map arc_value) o)) rest) ++ end) whole) c.in-Some.is h)
