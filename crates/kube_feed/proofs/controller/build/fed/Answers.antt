use Rattle.std.proofs.Common.{refl}
use Rattle.kube_history.specs.CoreWorld.{core_world}
use Rattle.kube_control.proofs.Histories.{none-yet}
use Rattle.kube_feed.proofs.Firsts.{started}
use Rattle.kube_feed.proofs.controller.build.fed.Goals as goal

pub returns-clause-stands : goal.returns-clause-stands
returns-clause-stands g c w stands fed names is backoff limit debounce = record {
  parts = started _ _ _ _ w c.new.result _ c.args.root _ c.args.backoff c.new.ensures.root c.new.ensures.related c.new.ensures.unspent is backoff fed names (c.new-2.ensures.stands (core_world w) limit debounce) refl refl
      (record { root = stands; related = λ place h. tt }) c.new.ensures.stands;
  last = refl;
  ended = refl;
  of_trace = none-yet w;
  unspent = refl;
}
