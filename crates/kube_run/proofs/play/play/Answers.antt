use Rattle.kube_script.specs.SeenScript.{seen_script}
use Rattle.kube_run.proofs.Played.{none-played}
use Rattle.kube_run.proofs.Plays.{err-before, err-lines, err-refused, err-unnamed, err-unspent, ok-lines, ok-played}
use Rattle.kube_run.proofs.play.play.Goals as goal

pub returns-in-Ok-clause-played : goal.returns-in-Ok-clause-played
returns-in-Ok-clause-played c =
    let s = seen_script c.args.script in
    let told = c.in-Ok.ensures in
    ok-played s c.take_turns.result (c.take_turns.ensures.ran s told.stands told.first told.turns told.faults told.after_fault)

pub returns-in-Ok-clause-lines : goal.returns-in-Ok-clause-lines
returns-in-Ok-clause-lines c =
    let s = seen_script c.args.script in
    let told = c.in-Ok.ensures in
    ok-lines s c.take_turns.result (c.take_turns.ensures.ran s told.stands told.first told.turns told.faults told.after_fault)

pub returns-in-Ok-clause-before : goal.returns-in-Ok-clause-before
returns-in-Ok-clause-before c =
    let s = seen_script c.args.script in
    let told = c.in-Ok.ensures in
    err-before s c.take_turns.result (c.take_turns.ensures.ran s told.stands told.first told.turns told.faults told.after_fault)

pub returns-in-Ok-clause-lines_before : goal.returns-in-Ok-clause-lines_before
returns-in-Ok-clause-lines_before c =
    let s = seen_script c.args.script in
    let told = c.in-Ok.ensures in
    err-lines s c.take_turns.result (c.take_turns.ensures.ran s told.stands told.first told.turns told.faults told.after_fault)

pub returns-in-Ok-clause-refused : goal.returns-in-Ok-clause-refused
returns-in-Ok-clause-refused c =
    let s = seen_script c.args.script in
    let told = c.in-Ok.ensures in
    err-refused s c.take_turns.result (c.take_turns.ensures.ran s told.stands told.first told.turns told.faults told.after_fault)

pub returns-in-Ok-clause-unnamed : goal.returns-in-Ok-clause-unnamed
returns-in-Ok-clause-unnamed c =
    let s = seen_script c.args.script in
    let told = c.in-Ok.ensures in
    err-unnamed s c.take_turns.result (c.take_turns.ensures.ran s told.stands told.first told.turns told.faults told.after_fault)

pub returns-in-Ok-clause-unspent : goal.returns-in-Ok-clause-unspent
returns-in-Ok-clause-unspent c =
    let s = seen_script c.args.script in
    let told = c.in-Ok.ensures in
    err-unspent s c.take_turns.result (c.take_turns.ensures.ran s told.stands told.first told.turns told.faults told.after_fault)

pub returns-in-Err-clause-before : goal.returns-in-Err-clause-before
returns-in-Err-clause-before c = rw (c.no_memory.ensures) (none-played (seen_script c.args.script))
