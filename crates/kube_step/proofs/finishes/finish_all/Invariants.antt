use Rattle.std.proofs.Common.{◌≡◌, ◌≤◌, ◌++◌, List, map}
use Rattle.std.specs.Arc.{arc_value}
use Rattle.kube_model.specs.History.{Step, Turn}
use Rattle.kube_model.specs.Takes.{running}
use Rattle.kube_model.specs.Traces.{IsValid}
use Rattle.kube_history.specs.CoreWorld.{CoreWorld}
use Rattle.kube_history.specs.CoreEvents.{CoreEvent, running_of}
use Rattle.kube_history.specs.TurnEvents.{finish_event}
use Rattle.kube_core.specs.Cores.{StandsFor}
use Rattle.kube_turn.specs.Records.{finish_of, finished_of}
use Rattle.kube_step.specs.Finishes.{AreFinished}
use Rattle.kube_step.specs.Policies.{Answers}
use Rattle.kube_step.proofs.finishes.finish_all.Given as goal

-- as far as the loop has come, whatever is left
abbrev pub invariant-loop-finish : goal.invariant-loop-finish
invariant-loop-finish g l =
    let type_of = g.K.Resource.type_of in
    let meta = g.K.Resource.meta_of in
    record {
      clock : l.core.clock.0 ≤ l.at.0;
      writer : l.core.writer ≡ l.fn.core.writer;
      done : (world : CoreWorld _) (es : List (CoreEvent _)) (h : List (Step _)) (t : Turn) (rest : List _) → StandsFor type_of meta world es l.fn.core → running_of es ≡ running h → IsValid h t
          → t.finishes ≡ map (finish_of type_of) (l.yielded ++ rest)
          → AreFinished type_of (Answers g.P.Fn l.error_policy (arc_value l.context)) (running h) l.yielded l.finished
          × StandsFor type_of meta world (es ++ map (finish_event l.at.0) (map (finished_of type_of) l.finished)) l.core;
    }
