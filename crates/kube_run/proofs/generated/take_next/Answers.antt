use Rattle.std.proofs.Common.{map}
use Rattle.std.specs.Option.{option_to_list}
use Rattle.kube_meta.specs.Keys.{reference_of}
use Rattle.kube_object.specs.Named.{named_type}
use Rattle.kube_turn.specs.Records.{records_of, turn_of}
use Rattle.kube_run.specs.Played.{made_by}
use Rattle.kube_run.proofs.Reaching.{reached-more}
use Rattle.kube_run.proofs.generated.take_next.Goals as goal

pub returns : goal.returns
returns c s k =
    let g = c.in_ok-made.ensures s (made_by k.turns k.records) k.stands k.of_script k.policy in
    reached-more _ _ _ _ s c.args.taken c.args.controller.now c.args.after_fault (map (reference_of named_type) c.args.running.items) c.args.totals k (turn_of named_type c.in_ok-turn.turn) (records_of named_type (option_to_list c.in_ok-made.made))
    c.take_turn.new.controller (map (reference_of named_type) c.in_ok-running.running.items) c.in_ok-totals.totals c.in_ok-turn.ensures g.0 g.1 (c.in_ok-totals.ensures k.records k.totals_are) c.in_ok-running.ensures
