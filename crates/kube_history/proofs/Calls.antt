-- From a turn's calls to its record.
use Rattle.std.proofs.Common.{◌≡◌, ℕ, true, false, not, cond, ◌||◌, ◌==◌, List, [], ◌∷◌, ◌++◌, map, length, Some, None, refl, sym, ap, subst, ◌∙◌, append_assoc, append-nil, zero, suc, Option}
use Rattle.kube_model.specs.World.{World, Settings, Watched, feed_of}
use Rattle.kube_model.specs.History.{Exchange, Turn, Finished, Taken, TurnRecord, Step, exchanges, exchanges_with, exchanges_of}
use Rattle.kube_model.specs.Named.{AreNamed}
use Rattle.kube_model.specs.Pause.{gave_up}
use Rattle.kube_model.specs.Shutdowns.{is_shut, asks_shutdown, is_over, is_closed}
use Rattle.kube_model.specs.Reads.{nothing_read}
use Rattle.kube_model.specs.Takes.{running}
use Rattle.kube_model.specs.Turns.{next_source, record_with, is_idle_after, ReadsFit}
use Rattle.kube_model.specs.Traces.{IsValid, AreFinishesOf, EachIsNext, IsRecord, Made, unread, step, last_moment}
use Rattle.kube_model.specs.Named.{EachIsNamed, RootIsNamed}
use Rattle.kube_model.proofs.Histories.{exchanges_with-push, running-push}
use Rattle.kube_history.specs.CoreWorld.{CoreWorld, core_world}
use Rattle.kube_history.specs.CoreEvents.{CoreEvent, Answered, Requested, Settled, Took, answers_in, running_of, next_taken}
use Rattle.kube_history.specs.TurnEvents.{finish_event, reload_events, asks, closing, shut_if, before_takes, takes, core_events}
use Rattle.kube_history.specs.Legal.{AreLegal}
use Rattle.kube_history.specs.Agrees.{Agrees}
use Rattle.kube_history.proofs.Segments.{answers-append, answers-finishes, answers-reload, answers-named}
use Rattle.kube_history.proofs.TurnParts.{none-next}
use Rattle.kube_history.proofs.ClosedTurn.{none-over}
use Rattle.kube_history.proofs.OneTurn.{one-turn}

module _ {O : Type 0} (core : CoreWorld O) where
  pub legal-left : (before es fs : List (CoreEvent O)) → AreLegal core before (es ++ fs) → AreLegal core before es
  legal-left before [] fs l = tt
  legal-left before (e ∷ es) fs l = (l.0, legal-left (before ++ e ∷ []) es fs l.1)

  pub legal-right : (before es fs : List (CoreEvent O)) → AreLegal core before (es ++ fs) → AreLegal core (before ++ es) fs
  legal-right before [] fs l = subst (λ b. AreLegal core b fs) (sym (append-nil before)) l
  legal-right before (e ∷ es) fs l = subst (λ b. AreLegal core b fs) (append_assoc before (e ∷ []) es) (legal-right (before ++ e ∷ []) es fs l.1)

  -- takes that are legal are determined
  pub takes-same : (at : ℕ) (before : List (CoreEvent O)) (ts us : List (Taken O)) → AreLegal core before (takes at ts) → AreLegal core before (takes at us) → ts ≡ us
  takes-same at before [] [] a b = refl
  takes-same at before [] (u ∷ us) a b = absurd (let e : None ≡ next_taken core before = a.0.reply in let f : Some u ≡ next_taken core before = b.0.reply in cc)
  takes-same at before (t ∷ ts) [] a b = absurd (let e : Some t ≡ next_taken core before = a.0.reply in let f : None ≡ next_taken core before = b.0.reply in cc)
  takes-same at before (t ∷ ts) (u ∷ us) a b =
      let e : Some t ≡ next_taken core before = a.0.reply in
      let f : Some u ≡ next_taken core before = b.0.reply in
      let is : t ≡ u = cc in
      ap (λ v. v ∷ ts) is
      ∙ ap (λ vs. u ∷ vs) (takes-same at (before ++ Took at (Some u) ∷ []) ts us (subst (λ v. AreLegal core (before ++ Took at (Some v) ∷ []) (takes at ts)) is a.1) b.1)

module _ {O B : Type 0} (w : World O B) where
  root-named : (source : ℕ) (own : List (Exchange O)) (x : Exchange O) → AreNamed w own x → RootIsNamed w source own x
  root-named zero own x n = n
  root-named (suc place) own x n = tt

  -- legal answers are named
  names-of : (h : List (Step O)) (t : Turn) (ys xs : List (Exchange O)) (before : List (CoreEvent O)) → answers_in before ≡ exchanges_with h t ys
      → AreLegal (core_world w) before (map (Answered t.at) xs) → EachIsNamed w (RootIsNamed w) h t ys xs
  names-of h t ys [] before e l = tt
  names-of h t ys (x ∷ xs) before e l = (
    subst (λ ds. RootIsNamed w x.source (exchanges_of x.source ds) x) e (root-named x.source (exchanges_of x.source (answers_in before)) x l.0.reply.named),
    names-of h t (ys ++ x ∷ []) xs (before ++ Answered t.at x ∷ [])
        (answers-append before (Answered t.at x ∷ []) ∙ (ap (λ ds. ds ++ record { at = t.at; exchange = x } ∷ []) e ∙ sym (exchanges_with-push h t ys x))) l.1,
  )

  pub named-asks : (h : List (Step O)) (t : Turn) (fs : List Finished) (xs : List (Exchange O)) (es : List (CoreEvent O)) → answers_in es ≡ exchanges h
      → AreLegal (core_world w) es (asks t fs xs) → EachIsNamed w (RootIsNamed w) h t [] xs
  named-asks h t fs xs es e l =
      let ff : List (CoreEvent O) = map (finish_event t.at) fs in
      let rr : List (CoreEvent O) = reload_events t.at t.reload in
      let nn : List (CoreEvent O) = map (Requested t.at) t.on in
      let f : List (CoreEvent O) = ff ++ rr ++ nn in
      let quiet : answers_in f ≡ [] =
      answers-append (ff ++ rr) nn
      ∙ (ap (λ ds. ds ++ answers_in nn) (answers-append ff rr ∙ (ap (λ ds. ds ++ answers_in rr) (answers-finishes t.at fs) ∙ answers-reload t.at t.reload))
      ∙ answers-named t.at t.on) in
      names-of h t [] xs (es ++ f) (answers-append es f ∙ (ap (λ ds. answers_in es ++ ds) quiet ∙ ap (λ ds. ds ++ []) e))
      (legal-right (core_world w) es f (map (Answered t.at) xs) l)

  module _ (settings : Settings) (watched : feed_of w 0 ≡ Watched settings) (policies : ℕ → O → Option ℕ) (h : List (Step O)) (t : Turn) (fs : List Finished) where
    reads-none : (xs : List (Exchange O)) → ReadsFit w (feed_of w 0) h t nothing_read fs xs
    reads-none xs = subst (λ f. ReadsFit w f h t nothing_read fs xs) (sym watched) refl

    abbrev pub made_by : List (Exchange O) → TurnRecord O
    made_by xs = record_with w h t nothing_read fs xs

    pub calls-make : (xs : List (Exchange O)) (ts : List (Taken O)) (es : List (CoreEvent O))
        → is_closed w h t ≡ false → Agrees w h es → IsValid h t → AreFinishesOf policies (running h) t.finishes fs → EachIsNext w h t [] xs → next_source w h t xs ≡ None
        → AreLegal (core_world w) [] (es ++ before_takes w h t fs xs ++ takes t.at ts)
        → IsRecord w policies h t (unread (made_by xs)) × ((made_by xs).taken ≡ ts) × EachIsNamed w (RootIsNamed w) h t [] xs
    calls-make xs ts es c a v z k d l =
        let core = core_world w in
        let r = made_by xs in
        let m = unread r in
        let g = shut_if (gave_up w (exchanges_with h t xs)) t.at in
        let before : AreLegal core es (before_takes w h t fs xs) = legal-right core [] es (before_takes w h t fs xs) (legal-left core [] (es ++ before_takes w h t fs xs) (takes t.at ts) l) in
        let named : EachIsNamed w (RootIsNamed w) h t [] xs =
        named-asks h t fs xs es a.answers (legal-left core es (asks t fs xs) (Settled t.at ∷ []) (legal-left core es (asks t fs xs ++ Settled t.at ∷ []) g before)) in
        let is : IsRecord w policies h t m = record { valid = v; finishes = z; asked = k; done = d; reads = reads-none xs; determined = refl } in
        let all = one-turn w settings watched policies h t m es is named a in
        let whole : AreLegal core es (cond (is_closed w h t) (closing w h t fs) (before_takes w h t fs xs ++ takes t.at r.taken)) = legal-right core [] es (core_events w h (step t m)) all.legal in
        let here : AreLegal core es (before_takes w h t fs xs ++ takes t.at r.taken) = subst (λ b. AreLegal core es (cond b (closing w h t fs) (before_takes w h t fs xs ++ takes t.at r.taken))) c whole in
        let mine : AreLegal core (es ++ before_takes w h t fs xs) (takes t.at r.taken) = legal-right core es (before_takes w h t fs xs) (takes t.at r.taken) here in
        let given : AreLegal core (es ++ before_takes w h t fs xs) (takes t.at ts) = legal-right core [] (es ++ before_takes w h t fs xs) (takes t.at ts) l in
        (is, takes-same core t.at (es ++ before_takes w h t fs xs) r.taken ts mine given, named)

    pub closed-make : is_closed w h t ≡ true → IsValid h t → AreFinishesOf policies (running h) t.finishes fs → IsRecord w policies h t (unread (made_by [])) × ((made_by []).taken ≡ [])
    closed-make c v z =
        let over : is_over w h t [] ≡ true = ap (λ ds. is_shut h || asks_shutdown t.shutdown || gave_up w ds) (append-nil (exchanges h)) ∙ c in
        let is : IsRecord w policies h t (unread (made_by [])) = record { valid = v; finishes = z; asked = tt; done = none-next w h t c; reads = reads-none []; determined = refl } in
        (is, none-over w settings watched policies h t (unread (made_by [])) is over)

  -- whether nothing runs after a turn
  pub idle-is : (h : List (Step O)) (t : Turn) (m : Made O) (es : List (CoreEvent O)) → Agrees w (h ++ step t m ∷ []) es → is_idle_after w h t m.0.taken ≡ (length (running_of es) == 0)
  idle-is h t m es a = ap (λ us. length us == 0) (sym (a.running ∙ running-push h (step t m)))

  -- a later closed turn without finishes makes no event
  pub no-event : (h : List (Step O)) (s : Step O) → is_shut h ≡ true → s.made.finished ≡ [] → core_events w h s ≡ []
  no-event h s k e =
      ap (λ b. cond (b || asks_shutdown s.turn.shutdown || gave_up w (exchanges h)) (closing w h s.turn s.made.finished) (before_takes w h s.turn s.made.finished s.made.exchanges ++ takes s.turn.at s.made.taken)) k
      ∙ (ap (λ b. shut_if (not (b || gave_up w (exchanges h))) (last_moment h) ++ map (finish_event s.turn.at) s.made.finished) k
      ∙ ap (λ fs. map (finish_event s.turn.at) fs) e)
