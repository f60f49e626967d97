use Rattle.std.proofs.Common.{map, ap, ◌∙◌}
use Rattle.kube_model.specs.Raw.{Raw}
use Rattle.kube_api.specs.Recordings.{call_of}
use Rattle.kube_api.proofs.TalkLemmas.{call-talk_of}
use Rattle.kube_api.proofs.recording.Talk.calls.Goals as goal

pub returns : goal.returns
returns g c =
    ap (map call_of) c.as_slice.ensures.value
    ∙ (call-talk_of c.self.inside.calls.items c.self.inside.answers.items c.self.invariant ∙ ap (map (λ (raw : Raw g.row.K.Denot). raw.call)) c.self.view_is)
