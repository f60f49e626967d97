-- A controller whose root lists and watches, as what it stands for says it.
use Rattle.std.proofs.Common.{◌≡◌, ℕ, List, ap, ◌∙◌, unwrap_or, slice_get}
use Rattle.kube_meta.specs.Keys.{is_named}
use Rattle.kube_meta.specs.declared.resource.Resource as resource
use Rattle.kube_model.specs.World.{World, Settings, Streamed, Watched}
use Rattle.kube_model.specs.History.{Dated, Exchange, Step}
use Rattle.kube_model.specs.Named.{AreNamed}
use Rattle.kube_backoff.specs.declared.backoff.Backoff as backoff
use Rattle.kube_watch.specs.Stands.{exchanges_in}
use Rattle.kube_asks.specs.declared.root.RootSource as root_source
use Rattle.kube_asks.specs.declared.set.RelatedSet as related_set
use Rattle.kube_control.specs.Controllers.{Controlling, StandsFor}
use Rattle.kube_control.specs.Runs.{IsWatching}

module _ {R S B O D : Type 0} (root : root_source.Ghosts R O D) (related : related_set.Ghosts S O D) (delays : backoff.Ghosts B) (object : resource.Ghosts O D) (w : World O B) (h : List (Step O)) (c : Controlling R S B O D) where
  pub watching-is : StandsFor root related delays object w h c → (settings : Settings) → root.feed c.asks.root ≡ Watched settings
      → (w.is_named ≡ (λ o. is_named (object.meta_of o)) → (own : List (Dated O)) (at : ℕ) (x : Exchange O) (r r' : R) → root.polls r own at x r' → AreNamed w (exchanges_in own) x)
      → IsWatching root related delays object w h c
  watching-is s settings fed names = record {
    may = record {
      parts = s.parts;
      settings = settings;
      is_watched = ap (λ fs. unwrap_or (slice_get fs 0) Streamed) s.parts.world.fed_so ∙ fed;
      names = names s.parts.world.named;
    };
    last = s.last;
    ended = s.ended;
    of_trace = s.of_trace;
    unspent = s.unspent;
  }

  pub stands-is : IsWatching root related delays object w h c → StandsFor root related delays object w h c
  stands-is k = record {
    parts = k.may.parts;
    last = k.last;
    ended = k.ended;
    of_trace = k.of_trace;
    unspent = k.unspent;
  }
