use Rattle.std.proofs.Common.{Some}
use Rattle.kube_server.specs.Servers.{meta_of}
use Rattle.kube_server.specs.Connections.{IsMove}
use Rattle.kube_watch.specs.Calls.{version_of}
use Rattle.kube_final.proofs.LogLaws.{deletion-keeps, deletion-makes}
use Rattle.kube_final_tests.proofs.Fed.{GoesOn, goes-on-moved, goes-on-still, objects}
use Rattle.kube_final_tests.proofs.tests.served.waits.Goals as goal

pub returns-clause-log : goal.returns-clause-log
returns-clause-log c =
    deletion-keeps (λ a. Some a.talk) (λ a. a.failures) (version_of meta_of) objects meta_of c.args.deletion.now.uid 5 9 c.args.objects.now c.poll.new.objects c.args.deletion.now c.poll.new.self
    c.in_ok-answer.answer c.in_ok-answer.ensures.deleted

pub returns-clause-later : goal.returns-clause-later
returns-clause-later c =
    deletion-makes objects meta_of (record { moves = IsMove meta_of; talk = λ a. Some a.talk; faults = λ a. a.failures; version = version_of meta_of }) meta_of
    c.args.deletion.now.uid 5 9 c.args.objects.now c.poll.new.objects c.args.deletion.now c.poll.new.self c.in_ok-answer.answer GoesOn goes-on-still goes-on-moved c.in_ok-answer.ensures.deleted
