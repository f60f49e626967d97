use Rattle.std.proofs.Common.{◌≡◌, sym, ap, ◌∙◌}
use Rattle.kube_meta.specs.Resources.{resource_type}
use Rattle.kube_meta.specs.declared.dynamic.ApiResource.{ApiResource}
use Rattle.kube_script.specs.SeenScript.{seen_map}
use Rattle.kube_watch.specs.Configs.{settings_of}
use Rattle.kube_run.specs.Mapped.{mapped_as, mapped_by}
use Rattle.kube_run.proofs.play.source.Goals as goal

pub returns : goal.returns
returns c = record {
  row_is = record {
    settings = ap settings_of c.new-2.ensures.config ∙ c.into_api-api.ensures.watcher;
    kind = c.new-2.ensures.kind ∙ ap resource_type c.in_ok-own.ensures.ok;
    maps = ap mapped_as c.new-2.ensures.mapper ∙ (c.new-mapper.ensures ∙ ap (λ (k : ApiResource). mapped_by (resource_type k) (seen_map c.args.related.mapped)) c.in_ok-clone.ensures.cases);
  };
  api = c.new-2.ensures.api ∙ c.into_api-api.ensures.api;
  stands = c.new-2.ensures.stands;
}
