-- What the code keeps of a life, as the definitions have it.
use Rattle.std.specs.Prelude.{ℕ, List, map}
use Rattle.kube_final.specs.declared.life.LifeStep.{LifeStep}
use Rattle.kube_final.specs.declared.life.Decided.{Decided as KeptDecision}
use Rattle.kube_final.specs.declared.life.Past.{Past as KeptPast}
use Rattle.kube_final.specs.Lives.{Decided, Past, cleaned_by, decisions_after, sent_by, started_by}
use Rattle.std.specs.Prelude.{◌++◌}

abbrev pub decided_in : KeptDecision → Decided
decided_in d = record { decision = d.decision; seen = d.seen }

abbrev pub past_in : KeptPast → Past
past_in p = record {
  before = p.before.items;
  current = p.current;
  decisions = map decided_in p.decisions.items;
  started = p.started.items;
  cleaned = p.cleaned.items;
  sent = p.sent.items;
}

-- what a step does beside the state
abbrev pub noted : List ℕ → Past → LifeStep → Past
noted name p step = record p { decisions = decisions_after name p step; started = p.started ++ started_by step; cleaned = p.cleaned ++ cleaned_by step; sent = p.sent ++ sent_by step }
