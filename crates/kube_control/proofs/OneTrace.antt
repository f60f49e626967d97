-- Where the exchanges of sources are determined, so is the trace.
use Rattle.std.proofs.Common.{◌≡◌, ℕ, ◌+◌, true, false, List, [], ◌∷◌, ◌++◌, map, Option, Some, None, refl, sym, ap, ap₂, subst, ◌∙◌, append_assoc, append-nil, unwrap_or}
use Rattle.std.proofs.lemmas.List.{map-append}
use Rattle.std.proofs.lemmas.Grind.{flat_map-append}
use Rattle.kube_model.specs.World.{World}
use Rattle.kube_model.specs.Fits.{IsFitting}
use Rattle.kube_model.specs.Reads.{nothing_read}
use Rattle.kube_model.specs.History.{Outcome, Succeeded, Failed, Dated, Exchange, Finish, Finished, Turn, TurnRecord, Step, dated, exchanges, exchanges_with}
use Rattle.kube_model.specs.Takes.{Running, running}
use Rattle.kube_model.specs.Turns.{next_source, record_with}
use Rattle.kube_model.specs.Traces.{AreFinishesOf, EachIsNext, IsActionOf, IsRecord, IsRefusedAfter, IsTrace, Refusal, handed_over, step, unread}
use Rattle.kube_step.specs.Calls.{ArePolled, dated_in}
use Rattle.kube_control.proofs.Determined.{ArePollsDetermined}

module _ {O : Type 0} where
  action-same : (policy : O → Option ℕ) (object : Option O) (outcome : Outcome) (a b : Option ℕ) → IsActionOf policy object outcome a → IsActionOf policy object outcome b → a ≡ b
  action-same policy object (Succeeded own) a b p q = p ∙ sym q
  action-same policy None Failed a b p q = absurd p
  action-same policy (Some o) Failed a b p q = p ∙ sym q

  finishes-same : (policies : ℕ → O → Option ℕ) (rs : List (Running O)) (fs : List Finish) (gs hs : List Finished) → AreFinishesOf policies rs fs gs → AreFinishesOf policies rs fs hs → gs ≡ hs
  finishes-same policies rs [] gs hs p q = p ∙ sym q
  finishes-same policies rs (f ∷ fs) [] hs p q = absurd p
  finishes-same policies rs (f ∷ fs) (g ∷ gs) [] p q = absurd q
  finishes-same policies rs (f ∷ fs) (g ∷ gs) (k ∷ hs) p q =
      let act = action-same (policies 0) (handed_over rs f.reference) f.outcome g.action k.action p.0.action q.0.action in
      let fin = p.0.finish ∙ sym q.0.finish in
      let rest = finishes-same (λ n. policies (n + 1)) rs fs gs hs p.1 q.1 in
      λ i. record { finish = fin i; action = act i } ∷ rest i

module _ {O B R S : Type 0} (w : World O B) (root_polls : R → List (Dated O) → ℕ → Exchange O → R → Type 0) (related_polls : S → ℕ → List (Dated O) → ℕ → Exchange O → S → Type 0) where
  abbrev Polled : List (Dated O) → R → S → List (Dated O) → R → S → Type 0
  Polled before r s ds r' s' = ArePolled root_polls related_polls before r s ds r' s'

  pub polled-split : (before : List (Dated O)) (r : R) (s : S) (ds es : List (Dated O)) (r'' : R) (s'' : S) → Polled before r s (ds ++ es) r'' s'' → (r' : R) × (s' : S) × Polled before r s ds r' s' × Polled (before ++ ds) r' s' es r'' s''
  polled-split before r s [] es r'' s'' p = (r, s, (refl, refl), subst (λ b. Polled b r s es r'' s'') (sym (append-nil before)) p)
  polled-split before r s (d ∷ ds) es r'' s'' p =
      let q = polled-split (before ++ d ∷ []) p.0 p.1 ds es r'' s'' p.3 in
      (q.0, q.1, (p.0, p.1, p.2, q.2), subst (λ b. Polled b q.0 q.1 es r'' s'') (append_assoc before (d ∷ []) ds) q.3)

  module _ (AreRootsAlike : R → R → Type 0) (AreSetsAlike : S → S → Type 0) (determined : ArePollsDetermined w root_polls related_polls AreRootsAlike AreSetsAlike) where
    exchanges-same : (h : List (Step O)) (t : Turn) (before xs ys : List (Exchange O)) (all : List (Dated O)) (r r' q q' : R) (s s' u u' : S) → all ≡ exchanges_with h t before → AreRootsAlike r q → AreSetsAlike s u
        → EachIsNext w h t before xs → EachIsNext w h t before ys → next_source w h t (before ++ xs) ≡ None → next_source w h t (before ++ ys) ≡ None → Polled all r s (dated t.at xs) r' s' → Polled all q u (dated t.at ys) q' u'
        → (xs ≡ ys) × AreRootsAlike r' q' × AreSetsAlike s' u'
    exchanges-same h t before [] [] all r r' q q' s s' u u' e a b k l m n p z = (
      refl,
      subst (λ v. AreRootsAlike v q') (sym p.0) (subst (AreRootsAlike r) (sym z.0) a),
      subst (λ v. AreSetsAlike v u') (sym p.1) (subst (AreSetsAlike s) (sym z.1) b),
    )
    exchanges-same h t before [] (y ∷ ys) all r r' q q' s s' u u' e a b k l m n p z =
        absurd (let c : None ≡ Some y.source = sym m ∙ (ap (next_source w h t) (append-nil before) ∙ l.0.source) in cc)
    exchanges-same h t before (x ∷ xs) [] all r r' q q' s s' u u' e a b k l m n p z =
        absurd (let c : None ≡ Some x.source = sym n ∙ (ap (next_source w h t) (append-nil before) ∙ k.0.source) in cc)
    exchanges-same h t before (x ∷ xs) (y ∷ ys) all r r' q q' s s' u u' e a b k l m n p z =
        let source : x.source ≡ y.source = ap (λ o. unwrap_or o 0) (sym k.0.source ∙ l.0.source) in
        let one =
        determined all t.at x y r p.0 q z.0 s p.1 u z.1 a b (subst (λ ds. IsFitting w ds t.at x) (sym e) k.0.fits) (subst (λ ds. IsFitting w ds t.at y) (sym e) l.0.fits) source p.2 z.2 in
        let more : all ++ record { at = t.at; exchange = x } ∷ [] ≡ exchanges_with h t (before ++ x ∷ []) =
        ap (λ ds. ds ++ record { at = t.at; exchange = x } ∷ []) e
        ∙ (append_assoc (exchanges h) (dated t.at before) (record { at = t.at; exchange = x } ∷ []) ∙ ap (λ ds. exchanges h ++ ds) (sym (map-append (λ v. record { at = t.at; exchange = v }) before (x ∷ [])))) in
        let rest =
        exchanges-same h t (before ++ x ∷ []) xs ys (all ++ record { at = t.at; exchange = x } ∷ []) p.0 r' z.0 q' p.1 s' z.1 u' more one.1 one.2 k.1 (subst (λ v. EachIsNext w h t (before ++ v ∷ []) ys) (sym one.0) l.1)
        (subst (λ zs. next_source w h t zs ≡ None) (sym (append_assoc before (x ∷ []) xs)) m)
        (subst (λ zs. next_source w h t zs ≡ None) (sym (append_assoc before (x ∷ []) ys)) (subst (λ v. next_source w h t (before ++ v ∷ ys) ≡ None) (sym one.0) n)) p.3
        (subst (λ v. Polled (all ++ record { at = t.at; exchange = v } ∷ []) z.0 z.1 (dated t.at ys) q' u') (sym one.0) z.3) in
        (λ i. one.0 i ∷ rest.0 i, rest.1, rest.2)

    pub turn-same : (policy : ℕ → O → Option ℕ) (h : List (Step O)) (t : Turn) (f g : TurnRecord O) (r r' q q' : R) (s s' u u' : S) → AreRootsAlike r q → AreSetsAlike s u → IsRecord w policy h t (unread f) → IsRecord w policy h t (unread g)
        → Polled (exchanges h) r s (dated f.at f.exchanges) r' s' → Polled (exchanges h) q u (dated g.at g.exchanges) q' u' → (f ≡ g) × AreRootsAlike r' q' × AreSetsAlike s' u'
    turn-same policy h t f g r r' q q' s s' u u' a b k l p z =
        let f-at : f.at ≡ t.at = ap (λ (v : TurnRecord O). v.at) k.determined in
        let g-at : g.at ≡ t.at = ap (λ (v : TurnRecord O). v.at) l.determined in
        let asked =
        exchanges-same h t [] f.exchanges g.exchanges (exchanges h) r r' q q' s s' u u' (sym (append-nil (exchanges h))) a b k.asked l.asked k.done l.done
        (subst (λ n. Polled (exchanges h) r s (dated n f.exchanges) r' s') f-at p) (subst (λ n. Polled (exchanges h) q u (dated n g.exchanges) q' u') g-at z) in
        let ended = finishes-same policy (running h) t.finishes f.finished g.finished k.finishes l.finishes in
        (k.determined ∙ (ap₂ (λ gs xs. record_with w h t nothing_read gs xs) ended asked.0 ∙ sym l.determined), asked.1, asked.2)

    pub after-one : (policy : ℕ → O → Option ℕ) (h : List (Step O)) (t : Turn) (f : TurnRecord O) → IsRecord w policy h t (unread f) → exchanges h ++ dated f.at f.exchanges ≡ exchanges (h ++ step t (unread f) ∷ [])
    after-one policy h t f k =
        ap (λ n. exchanges h ++ dated n f.exchanges) (ap (λ (v : TurnRecord O). v.at) k.determined)
        ∙ sym (flat_map-append (λ (v : Step O). dated v.turn.at v.made.exchanges) h (step t (unread f) ∷ []) ∙ ap (λ ds. exchanges h ++ ds) (append-nil (dated t.at f.exchanges)))

    pub trace-same : (policies : ℕ → ℕ → O → Option ℕ) (h : List (Step O)) (ts : List Turn) (rs qs : List (TurnRecord O)) (r r' q q' : R) (s s' u u' : S) → AreRootsAlike r q → AreSetsAlike s u
        → IsTrace w policies h ts (map unread rs) → IsTrace w policies h ts (map unread qs) → Polled (exchanges h) r s (dated_in rs) r' s' → Polled (exchanges h) q u (dated_in qs) q' u' → (rs ≡ qs) × AreRootsAlike r' q' × AreSetsAlike s' u'
    trace-same policies h [] [] [] r r' q q' s s' u u' a b k l p z = (
      refl,
      subst (λ v. AreRootsAlike v q') (sym p.0) (subst (AreRootsAlike r) (sym z.0) a),
      subst (λ v. AreSetsAlike v u') (sym p.1) (subst (AreSetsAlike s) (sym z.1) b),
    )
    trace-same policies h [] (f ∷ rs) qs r r' q q' s s' u u' a b k l p z = absurd (cc)
    trace-same policies h [] [] (g ∷ qs) r r' q q' s s' u u' a b k l p z = absurd (cc)
    trace-same policies h (t ∷ ts) [] [] r r' q q' s s' u u' a b k l p z = (
      refl,
      subst (λ v. AreRootsAlike v q') (sym p.0) (subst (AreRootsAlike r) (sym z.0) a),
      subst (λ v. AreSetsAlike v u') (sym p.1) (subst (AreSetsAlike s) (sym z.1) b),
    )
    trace-same policies h (t ∷ ts) [] (g ∷ qs) r r' q q' s s' u u' a b k l p z = absurd (let c : true ≡ false = sym k ∙ l.0 in cc)
    trace-same policies h (t ∷ ts) (f ∷ rs) [] r r' q q' s s' u u' a b k l p z = absurd (let c : true ≡ false = sym l ∙ k.0 in cc)
    trace-same policies h (t ∷ ts) (f ∷ rs) (g ∷ qs) r r' q q' s s' u u' a b k l p z =
        let p' = polled-split (exchanges h) r s (dated f.at f.exchanges) (dated_in rs) r' s' p in
        let z' = polled-split (exchanges h) q u (dated g.at g.exchanges) (dated_in qs) q' u' z in
        let one = turn-same (policies 0) h t f g r p'.0 q z'.0 s p'.1 u z'.1 a b k.1 l.1 p'.2 z'.2 in
        let rest =
        trace-same (λ n. policies (n + 1)) (h ++ step t (unread f) ∷ []) ts rs qs p'.0 r' z'.0 q' p'.1 s' z'.1 u' one.1 one.2 k.2 (subst (λ v. IsTrace w (λ n. policies (n + 1)) (h ++ step t (unread v) ∷ []) ts (map unread qs)) (sym one.0) l.2)
        (subst (λ ds. Polled ds p'.0 p'.1 (dated_in rs) r' s') (after-one (policies 0) h t f k.1) p'.3)
        (subst (λ ds. Polled ds z'.0 z'.1 (dated_in qs) q' u') (after-one (policies 0) h t f k.1) (subst (λ v. Polled (exchanges h ++ dated v.at v.exchanges) z'.0 z'.1 (dated_in qs) q' u') (sym one.0) z'.3)) in
        (λ i. one.0 i ∷ rest.0 i, rest.1, rest.2)

    -- turns of which one is refused have no trace
    pub refused-apart : (policies : ℕ → ℕ → O → Option ℕ) (h : List (Step O)) (ts : List Turn) (rs qs : List (TurnRecord O)) (why : Refusal) (r r' q q' : R) (s s' u u' : S) → AreRootsAlike r q → AreSetsAlike s u
        → IsRefusedAfter w policies h ts (map unread rs) why → IsTrace w policies h ts (map unread qs) → Polled (exchanges h) r s (dated_in rs) r' s' → Polled (exchanges h) q u (dated_in qs) q' u' → ⊥
    refused-apart policies h [] rs qs why r r' q q' s s' u u' a b k l p z = k
    refused-apart policies h (t ∷ ts) [] [] why r r' q q' s s' u u' a b k l p z = let c : true ≡ false = sym l ∙ k.0 in cc
    refused-apart policies h (t ∷ ts) [] (g ∷ qs) why r r' q q' s s' u u' a b k l p z = let c : None ≡ Some why = sym l.1.valid ∙ k.1 in cc
    refused-apart policies h (t ∷ ts) (f ∷ rs) [] why r r' q q' s s' u u' a b k l p z = let c : true ≡ false = sym l ∙ k.0 in cc
    refused-apart policies h (t ∷ ts) (f ∷ rs) (g ∷ qs) why r r' q q' s s' u u' a b k l p z =
        let p' = polled-split (exchanges h) r s (dated f.at f.exchanges) (dated_in rs) r' s' p in
        let z' = polled-split (exchanges h) q u (dated g.at g.exchanges) (dated_in qs) q' u' z in
        let one = turn-same (policies 0) h t f g r p'.0 q z'.0 s p'.1 u z'.1 a b k.1 l.1 p'.2 z'.2 in
        refused-apart (λ n. policies (n + 1)) (h ++ step t (unread f) ∷ []) ts rs qs why p'.0 r' z'.0 q' p'.1 s' z'.1 u' one.1 one.2 k.2 (subst (λ v. IsTrace w (λ n. policies (n + 1)) (h ++ step t (unread v) ∷ []) ts (map unread qs)) (sym one.0) l.2)
        (subst (λ ds. Polled ds p'.0 p'.1 (dated_in rs) r' s') (after-one (policies 0) h t f k.1) p'.3)
        (subst (λ ds. Polled ds z'.0 z'.1 (dated_in qs) q' u') (after-one (policies 0) h t f k.1) (subst (λ v. Polled (exchanges h ++ dated v.at v.exchanges) z'.0 z'.1 (dated_in qs) q' u') (sym one.0) z'.3))
