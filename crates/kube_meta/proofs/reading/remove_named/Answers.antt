use Rattle.std.proofs.Common.{ap, ◌∙◌, codes}
use Rattle.serde_json.specs.View.{members_view}
use Rattle.kube_meta.specs.Reading.{without, others}
use Rattle.kube_meta.proofs.Loops.{removed}
use Rattle.kube_meta.proofs.reading.remove_named.Goals as goal

pub returns : goal.returns
unfolding others
returns c =
    let first = ap members_view c.remove.ensures.entries ∙ removed (codes "metadata") c.args.members.now.entries in
    let second = ap members_view c.remove-2.ensures.entries ∙ removed (codes "kind") c.remove.new.self.entries ∙ ap (without (codes "kind")) first in
    ap members_view c.remove-3.ensures.entries ∙ removed (codes "apiVersion") c.remove-2.new.self.entries ∙ ap (without (codes "apiVersion")) second
