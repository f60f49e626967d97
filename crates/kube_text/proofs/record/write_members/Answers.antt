use Rattle.std.proofs.Common.{codes, option_map}
use Rattle.serde_json.specs.Data.{Members, member, boolean, number, unsigned}
use Rattle.kube_meta.specs.Writing.{object_data}
use Rattle.kube_text.specs.Part.{AppendsPart}
use Rattle.kube_text.specs.Shown.{array_of, member_if}
use Rattle.kube_text.specs.TraceText.{Line, finish_data, stop_data, taken_data, line_members}
use Rattle.kube_text.specs.TraceView.{seen_record}
use Rattle.kube_model.proofs.Results.{on_err}
use Rattle.kube_text.proofs.record.write_members.Goals as goal

-- the members from one on, with the rest behind them
abbrev from_turn : Line → Members → Members
from_turn l rest = member (codes "turn") (number (unsigned l.turn)) rest

abbrev from_taken : Line → Members → Members
from_taken l rest = member (codes "taken") (array_of taken_data l.taken) (from_turn l rest)

abbrev from_store : Line → Members → Members
from_store l rest = member_if (codes "store") (option_map (array_of object_data) l.store) (from_taken l rest)

abbrev from_stops : Line → Members → Members
from_stops l rest = member (codes "stops") (array_of stop_data l.stops) (from_store l rest)

abbrev from_finished : Line → Members → Members
from_finished l rest = member (codes "finished") (array_of finish_data l.finished) (from_stops l rest)

abbrev from_ended : Line → Members → Members
from_ended l rest = member (codes "ended") (boolean l.ended) (from_finished l rest)

abbrev from_at : Line → Members → Members
from_at l rest = member (codes "at") (number (unsigned l.at)) (from_ended l rest)

pub returns-in_err-line-clause-part : goal.returns-in_err-line-clause-part
unfolding line_members
returns-in_err-line-clause-part g c rest end start whole h =
    let l = seen_record c.args.turn c.args.«record».now in
    on_err c.from_residual.result (AppendsPart start (g.W.Sink.written c.write_list.new.sink) whole)
    (c.in_err-line.ensures.part (from_at l rest) end start whole
    h)

pub returns-in_err-line-2-clause-part : goal.returns-in_err-line-2-clause-part
unfolding line_members
returns-in_err-line-2-clause-part g c rest end start whole h =
    let l = seen_record c.args.turn c.args.«record».now in
    on_err c.from_residual-in_err-line-2.result (AppendsPart start (g.W.Sink.written c.write_member.new.sink) whole)
    (c.in_err-line-2.ensures.part (from_ended l rest) end start whole
    (c.in_ok-line.ensures.adds (from_at l rest) end start whole
    h))

pub returns-in_err-line-3-clause-part : goal.returns-in_err-line-3-clause-part
unfolding line_members
returns-in_err-line-3-clause-part g c rest end start whole h =
    let l = seen_record c.args.turn c.args.«record».now in
    on_err c.from_residual-in_err-line-3.result (AppendsPart start (g.W.Sink.written c.write_member-2.new.sink) whole)
    (c.in_err-line-3.ensures.part (from_finished l rest) end start whole
    (c.in_ok-line-2.ensures.adds (from_ended l rest) end start whole
    (c.in_ok-line.ensures.adds (from_at l rest) end start whole
    h)))

pub returns-in_err-line-4-clause-part : goal.returns-in_err-line-4-clause-part
unfolding line_members
returns-in_err-line-4-clause-part g c rest end start whole h =
    let l = seen_record c.args.turn c.args.«record».now in
    on_err c.from_residual-in_err-line-4.result (AppendsPart start (g.W.Sink.written c.write_list-2.new.sink) whole)
    (c.in_err-line-4.ensures.part (from_stops l rest) end start whole
    (c.in_ok-line-3.ensures.adds (from_finished l rest) end start whole
    (c.in_ok-line-2.ensures.adds (from_ended l rest) end start whole
    (c.in_ok-line.ensures.adds (from_at l rest) end start whole
    h))))

pub returns-in_err-line-5-clause-part : goal.returns-in_err-line-5-clause-part
unfolding line_members
returns-in_err-line-5-clause-part g c rest end start whole h =
    let l = seen_record c.args.turn c.args.«record».now in
    on_err c.from_residual-in_err-line-5.result (AppendsPart start (g.W.Sink.written c.write_list-3.new.sink) whole)
    (c.in_err-line-5.ensures.part (from_store l rest) end start whole
    (c.in_ok-line-4.ensures.adds (from_stops l rest) end start whole
    (c.in_ok-line-3.ensures.adds (from_finished l rest) end start whole
    (c.in_ok-line-2.ensures.adds (from_ended l rest) end start whole
    (c.in_ok-line.ensures.adds (from_at l rest) end start whole
    h)))))

pub returns-in_err-line-6-clause-part : goal.returns-in_err-line-6-clause-part
unfolding line_members
returns-in_err-line-6-clause-part g c rest end start whole h =
    let l = seen_record c.args.turn c.args.«record».now in
    on_err c.from_residual-in_err-line-6.result (AppendsPart start (g.W.Sink.written c.write_store.new.sink) whole)
    (c.in_err-line-6.ensures.part (from_taken l rest) end start whole
    (c.in_ok-line-5.ensures.adds (from_store l rest) end start whole
    (c.in_ok-line-4.ensures.adds (from_stops l rest) end start whole
    (c.in_ok-line-3.ensures.adds (from_finished l rest) end start whole
    (c.in_ok-line-2.ensures.adds (from_ended l rest) end start whole
    (c.in_ok-line.ensures.adds (from_at l rest) end start whole
    h))))))

pub returns-in_err-line-7-clause-part : goal.returns-in_err-line-7-clause-part
unfolding line_members
returns-in_err-line-7-clause-part g c rest end start whole h =
    let l = seen_record c.args.turn c.args.«record».now in
    on_err c.from_residual-in_err-line-7.result (AppendsPart start (g.W.Sink.written c.write_takes.new.sink) whole)
    (c.in_err-line-7.ensures.part (from_turn l rest) end start whole
    (c.in_ok-line-6.ensures.adds (from_taken l rest) end start whole
    (c.in_ok-line-5.ensures.adds (from_store l rest) end start whole
    (c.in_ok-line-4.ensures.adds (from_stops l rest) end start whole
    (c.in_ok-line-3.ensures.adds (from_finished l rest) end start whole
    (c.in_ok-line-2.ensures.adds (from_ended l rest) end start whole
    (c.in_ok-line.ensures.adds (from_at l rest) end start whole
    h)))))))

pub returns-clause-adds : goal.returns-clause-adds
unfolding line_members
returns-clause-adds g c rest end start whole h =
    let l = seen_record c.args.turn c.args.«record».now in
    c.write_member-3.ensures.adds rest end start whole
    (c.in_ok-line-7.ensures.adds (from_turn l rest) end start whole
    (c.in_ok-line-6.ensures.adds (from_taken l rest) end start whole
    (c.in_ok-line-5.ensures.adds (from_store l rest) end start whole
    (c.in_ok-line-4.ensures.adds (from_stops l rest) end start whole
    (c.in_ok-line-3.ensures.adds (from_finished l rest) end start whole
    (c.in_ok-line-2.ensures.adds (from_ended l rest) end start whole
    (c.in_ok-line.ensures.adds (from_at l rest) end start whole
    h)))))))

pub returns-clause-part : goal.returns-clause-part
unfolding line_members
returns-clause-part g c rest end start whole h =
    let l = seen_record c.args.turn c.args.«record».now in
    c.write_member-3.ensures.part rest end start whole
    (c.in_ok-line-7.ensures.adds (from_turn l rest) end start whole
    (c.in_ok-line-6.ensures.adds (from_taken l rest) end start whole
    (c.in_ok-line-5.ensures.adds (from_store l rest) end start whole
    (c.in_ok-line-4.ensures.adds (from_stops l rest) end start whole
    (c.in_ok-line-3.ensures.adds (from_finished l rest) end start whole
    (c.in_ok-line-2.ensures.adds (from_ended l rest) end start whole
    (c.in_ok-line.ensures.adds (from_at l rest) end start whole
    h)))))))
