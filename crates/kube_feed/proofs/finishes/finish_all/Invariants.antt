use Rattle.std.proofs.Common.{◌≡◌, ◌++◌, List, map}
use Rattle.std.specs.Arc.{arc_value}
use Rattle.kube_model.specs.History.{Message, Step, Turn}
use Rattle.kube_model.specs.Queue.{QueueEvent}
use Rattle.kube_model.specs.Takes.{running, unfinished}
use Rattle.kube_model.specs.Traces.{IsValid}
use Rattle.kube_history.specs.CoreWorld.{CoreWorld}
use Rattle.kube_history.specs.TurnCalls.{with_requests}
use Rattle.kube_core.specs.Pendings.{Stands}
use Rattle.kube_turn.specs.Records.{finish_of, finished_of}
use Rattle.kube_step.specs.Finishes.{AreFinished}
use Rattle.kube_step.specs.Policies.{Answers}
use Rattle.kube_feed.specs.Requests.{finish_requests}
use Rattle.kube_feed.proofs.finishes.finish_all.Given as goal

-- as far as the loop has come, whatever is left
abbrev pub invariant-loop-finish : goal.invariant-loop-finish
invariant-loop-finish g l =
    let type_of = g.K.Resource.type_of in
    record {
      done : (core : CoreWorld _) (qs : List (QueueEvent Message)) (h : List (Step _)) (t : Turn) (rest : List _) → Stands type_of core l.fn.pending qs (running h) → IsValid h t
          → t.finishes ≡ map (finish_of type_of) (l.yielded ++ rest)
          → AreFinished type_of (Answers g.P.Fn l.error_policy (arc_value l.context)) (running h) l.yielded l.finished
          × Stands type_of core l.pending (with_requests qs l.at.0 (finish_requests l.closed l.at.0 (map (finished_of type_of) l.finished))) (unfinished (running h) (map (finish_of type_of) l.yielded));
    }
