use Rattle.std.proofs.Common.{◌≡◌, IsTrue, map, refl, sym, subst}
use Rattle.kube_watch.specs.Stands.{Stands, StandsFor, settings_in, exchanges_in, row_of}
use Rattle.kube_watch.specs.Configs.{settings_of}
use Rattle.kube_watch.specs.Units.{nanos_of, as_exchange}
use Rattle.kube_watch.specs.Table.{table}
use Rattle.kube_model.specs.Owed.{is_initial, is_next, mark, seen}
use Rattle.kube_model.specs.Fits.{error_of}
use Rattle.std.specs.Arc.{arc_value}
use Rattle.kube_watch.specs.Watching.{Watching}
use Rattle.kube_watch.proofs.Made.{made-row, made-initial, made-error, made-fails, made-stands}
use Rattle.kube_watch.specs.Calls.{version_of}
use Rattle.kube_watch.proofs.Texts.{texts-fit}
use Rattle.kube_watch.proofs.watching.Watcher.poll_exchange.Goals as goal

pub returns-clause-row : goal.returns-clause-row
returns-clause-row g c ds =
    let self = c.self.inside in
    let u = c.in_ok-exchange.exchange in
    subst (λ (w : Watching g.row.A.Denot g.row.A-Value.Denot). StandsFor ds w → table (settings_in w) (seen (exchanges_in ds)) u.initial u.call u.answer (map arc_value u.items) ≡ row_of (settings_in w) (exchanges_in ds) (as_exchange u)) c.self.view_is
    (λ h. made-row _ _ _ _ _ _ _ c.in_ok-exchange.ensures.made ds
    (subst (λ s. Stands (settings_of self.config) s (nanos_of self.silent_since) ds) (sym c.replace-state.ensures.value) h.stands))

pub returns-clause-initial : goal.returns-clause-initial
returns-clause-initial g c ds =
    let self = c.self.inside in
    let u = c.in_ok-exchange.exchange in
    subst (λ (w : Watching g.row.A.Denot g.row.A-Value.Denot). StandsFor ds w → IsTrue (is_next u.call) → u.initial ≡ is_initial (exchanges_in ds)) c.self.view_is
    (λ h. made-initial _ _ _ _ _ _ _ c.in_ok-exchange.ensures.made ds
    (subst (λ s. Stands (settings_of self.config) s (nanos_of self.silent_since) ds) (sym c.replace-state.ensures.value) h.stands))

pub returns-clause-fails : goal.returns-clause-fails
returns-clause-fails g c ds =
    let self = c.self.inside in
    let u = c.in_ok-exchange.exchange in
    subst (λ (w : Watching g.row.A.Denot g.row.A-Value.Denot). StandsFor ds w → u.error ≡ error_of (mark (exchanges_in ds) (as_exchange u))) c.self.view_is
    (λ h. made-fails _ _ _ _ _ _ _ c.in_ok-exchange.ensures.made ds
    (subst (λ s. Stands (settings_of self.config) s (nanos_of self.silent_since) ds) (sym c.replace-state.ensures.value) h.stands))

pub returns-clause-error : goal.returns-clause-error
returns-clause-error g c ds =
    let self = c.self.inside in
    let u = c.in_ok-exchange.exchange in
    subst (λ (w : Watching g.row.A.Denot g.row.A-Value.Denot). StandsFor ds w → u.error ≡ (row_of (settings_in w) (exchanges_in ds) (as_exchange u)).error) c.self.view_is
    (λ h. made-error _ _ _ _ _ _ _ c.in_ok-exchange.ensures.made ds
    (subst (λ s. Stands (settings_of self.config) s (nanos_of self.silent_since) ds) (sym c.replace-state.ensures.value) h.stands))

pub returns-clause-stands : goal.returns-clause-stands
returns-clause-stands g c ds x h same-call same-answer =
    let self = c.self.inside in
    let h' = subst (StandsFor {A = g.row.A.Denot} {V = g.row.A-Value.Denot} ds) (sym c.self.view_is) h in
    record {
      stands =
          made-stands _ _ _ _ _ _ _ c.in_ok-exchange.ensures.made ds
          (subst (λ s. Stands (settings_of self.config) s (nanos_of self.silent_since) ds) (sym c.replace-state.ensures.value) h'.stands)
          x same-call same-answer;
      unspent = refl;
    }

pub returns-clause-texts : goal.returns-clause-texts
returns-clause-texts g c =
    let asked = c.in_ok-exchange.ensures.asked in
    texts-fit (version_of g.A.Value.Resource.meta_of) asked.0 _ asked.1.answer
