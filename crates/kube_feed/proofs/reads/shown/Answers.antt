use Rattle.std.proofs.Common.{map, ap, ◌∙◌}
use Rattle.std.specs.Arc.{arc_value}
use Rattle.kube_feed.proofs.Reading.{later-by, later-none, read-by}
use Rattle.kube_feed.proofs.reads.shown.Goals as goal

pub returns-then-not-show-clause-same : goal.returns-then-not-show-clause-same
returns-then-not-show-clause-same g c = later-none c.args.reader.now

pub returns-in_err-objects-clause-same : goal.returns-in_err-objects-clause-same
returns-in_err-objects-clause-same g c = later-by c.args.reader.now c.state.new.self c.in_err-objects.ensures.own c.in_err-objects.ensures.later

pub returns-clause-same : goal.returns-clause-same
returns-clause-same g c = later-by c.args.reader.now c.state.new.self c.in_ok-objects.ensures.own c.in_ok-objects.ensures.later

pub returns-clause-listed : goal.returns-clause-listed
returns-clause-listed g c =
    let e = c.in_ok-objects.ensures in
    (read-by c.args.reader.now c.state.new.self e.own e.later e.readable, ap (map arc_value) c.from.ensures ∙ e.read)
