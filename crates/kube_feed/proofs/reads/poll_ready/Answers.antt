use Rattle.std.proofs.Common.{◌≡◌, Bool, true, false, not, ◌||◌, None, Some, refl, sym, ap, ◌∙◌}
use Rattle.kube_model.specs.Reads.{is_told_ready}
use Rattle.kube_feed.specs.Reads.{told_by}
use Rattle.kube_feed.proofs.Reading.{later-by, later-none, read-by}
use Rattle.kube_feed.proofs.reads.poll_ready.Goals as goal

or-none : (b : Bool) → (b || false) ≡ b
or-none true = refl
or-none false = refl

pub returns-then-parts-clause-same : goal.returns-then-parts-clause-same
returns-then-parts-clause-same g c = later-none c.args.parts.now.reader

pub returns-then-parts-clause-polled : goal.returns-then-parts-clause-polled
returns-then-parts-clause-polled g c = (None, refl, sym (ap not c.if-parts.true), sym (or-none c.args.parts.now.ready), refl)

pub returns-clause-same : goal.returns-clause-same
returns-clause-same g c = later-by c.args.parts.now.reader c.poll_ready-answer.new.self c.poll_ready-answer.ensures.own c.poll_ready-answer.ensures.later

pub returns-clause-polled : goal.returns-clause-polled
returns-clause-polled g c =
    let e = c.poll_ready-answer.ensures in
    let told = told_by c.poll_ready-answer.result in (
      Some told,
      (read-by c.args.parts.now.reader c.poll_ready-answer.new.self e.own e.later e.readable, ap told_by e.read),
      sym (ap not c.if-parts.false),
      c.told-is_ready.ensures.ready ∙ sym (ap (λ b. b || is_told_ready (Some told)) c.if-parts.false),
      c.told-is_ready.ensures.failed,
    )
