use Rattle.std.proofs.Common.{◌++◌, ap, ◌∙◌}
use Rattle.std.specs.List.{filter_map}
use Rattle.std.specs.Option.{option_map, option_to_list}
use Rattle.std.proofs.lemmas.Result.{IfOk-weaker}
use Rattle.kube_turn.specs.Results.{Queue, Ended, missing}
use Rattle.kube_turn.proofs.record.TurnRecord.into_results.Goals as goal

pub returns : goal.returns
returns g c =
    let type_of = g.K.Resource.type_of in
    let errors = filter_map (λ x. option_map Queue x.error) c.args.self.exchanges in
    let absent = filter_map (missing type_of) c.args.self.taken in
    let last = option_to_list (option_map Ended c.args.self.runner) in
    IfOk-weaker c.add_runner.result _ _
    (λ cs e. e ∙ ap (λ ys. ys ++ last) (c.in_ok-results-3.ensures ∙ ap (λ ys. ys ++ absent) (c.in_ok-results-2.ensures ∙ ap (λ ys. ys ++ errors) c.in_ok-results.ensures)))
    c.add_runner.ensures
