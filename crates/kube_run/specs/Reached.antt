-- How far a run over a generated input has come.
use Rattle.std.specs.Prelude.{◌≡◌, ℕ, false, List, [], length, map, Option}
use Rattle.kube_meta.specs.Reading.{ObjectData}
use Rattle.kube_meta.specs.Reference.{Reference}
use Rattle.kube_meta.specs.declared.action.Action.{Action}
use Rattle.kube_meta.specs.declared.resource.Resource as resource
use Rattle.kube_model.specs.History.{Exchange, Turn, TurnRecord}
use Rattle.kube_model.specs.Named.{AreNamedTurns, RootIsNamed}
use Rattle.kube_model.specs.Traces.{IsTrace, has_ended, steps, unread}
use Rattle.kube_model.specs.World.{World}
use Rattle.kube_backoff.specs.declared.backoff.Backoff as backoff
use Rattle.kube_asks.specs.declared.root.RootSource as root_source
use Rattle.kube_asks.specs.declared.set.RelatedSet as related_set
use Rattle.kube_object.specs.Named.{Named}
use Rattle.kube_script.specs.Script.{Script}
use Rattle.kube_script.specs.declared.backoff.ScriptBackoff.{ScriptBackoff}
use Rattle.kube_step.specs.Calls.{dated_in}
use Rattle.kube_control.specs.Controllers.{Controlling, StandsFor}
use Rattle.kube_run.specs.GeneratedRun.{AreTurnsFrom, running_references, totals_of}
use Rattle.kube_run.specs.Played.{AreAnswered, apis_at_first, made_by, script_world}
use Rattle.kube_run.specs.Sources.{AreOfScript, Root, Sources, apis_in}
use Rattle.kube_run.specs.declared.totals.Totals.{Totals}

-- over which input it goes, for how many turns, and how many it has taken
pub record Progress : Type 0 where
  pub seed : ℕ
  pub objects : ℕ
  pub turns : ℕ
  pub taken : ℕ

-- the records are the trace of so many turns of such a run, and came with their names
pub record HasTaken {O B : Type 0} (w : World O B) (policy : O → Option ℕ) (named : ℕ → List (Exchange O) → Exchange O → Type 0) (count : ℕ) (ts : List Turn) (rs : List (TurnRecord O)) : Type 0 where
  pub count_is : length ts ≡ count
  pub turns_are : AreTurnsFrom 0 [] ts rs
  pub trace : IsTrace w (λ n k. policy) [] ts (map unread rs)
  pub all_named : AreNamedTurns w named [] (steps ts (map unread rs))

abbrev pub ScriptControlling : Type 0
ScriptControlling = Controlling Root Sources ScriptBackoff ObjectData Named

module _ (root : root_source.Ghosts Root ObjectData Named) (related : related_set.Ghosts Sources ObjectData Named) (delays : backoff.Ghosts ScriptBackoff) (object : resource.Ghosts ObjectData Named) where
  -- so many turns of the run over the script's input were taken: the controller stands for their trace, these are its totals, and these run, unless the trace has ended
  pub record IsReached (s : Script) (count : ℕ) (c : ScriptControlling) (after_fault : Action) (running : List Reference) (totals : Totals) : Type 0 where
    pub turns : List Turn
    pub records : List (TurnRecord ObjectData)
    pub taken : HasTaken (script_world s) (λ o. s.error_requeue) (RootIsNamed (script_world s)) count turns records
    pub answered : AreAnswered s [] (apis_at_first s) (dated_in records) (apis_in c.asks.root c.asks.related)
    pub of_script : AreOfScript s c.asks.root c.asks.related
    pub stands : StandsFor root related delays object (script_world s) (made_by turns records) c
    pub policy : after_fault ≡ s.error_requeue
    pub runs : has_ended (made_by turns records) ≡ false → running ≡ running_references (made_by turns records)
    pub totals_are : totals ≡ totals_of records 0
