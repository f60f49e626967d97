-- What a root that is fed by the settled objects of a watcher requests in a trace.
use Rattle.std.proofs.Common.{◌≡◌, ℕ, zero, suc, ◌+◌, ◌==◌, List, [], ◌∷◌, ◌++◌, map, Option, if◌then◌else◌, refl, sym, ap, subst, ◌∙◌}
use Rattle.std.specs.List.{AllByRecursion}
use Rattle.std.proofs.Math.Dec.{eqb-suc-zero}
use Rattle.kube_model.specs.World.{World, Streamed, feed_of}
use Rattle.kube_model.specs.History.{Dated, Exchange, Step, Turn, dated, dated_of, exchanges_of, exchanges_with}
use Rattle.kube_model.specs.Fits.{IsFitting, IsOfRoot, IsOfSource, IsOfStream}
use Rattle.kube_model.specs.Traces.{EachIsNext, IsTrace, Made, step}
use Rattle.kube_model.proofs.Alls.{all-append}
use Rattle.kube_asks.specs.Asking.{IsPolledAt}
use Rattle.kube_asks.proofs.FitLemmas.{other-push, own-push}
use Rattle.kube_step.specs.Calls.{ArePolled, dated_in}
use Rattle.kube_alike.specs.Settles.{ArePolls}

-- An exchange is the root's own, or another source's.
module _ {O : Type 0} (d : Dated O) (ds : List (Dated O)) where
  pub mine : d.exchange.source ≡ 0 → dated_of 0 (d ∷ ds) ≡ d ∷ dated_of 0 ds
  mine e = ap (λ b. if b then d ∷ dated_of 0 ds else dated_of 0 ds) (ap (λ n. n == 0) e)

  pub theirs : (place : ℕ) → d.exchange.source ≡ suc place → dated_of 0 (d ∷ ds) ≡ dated_of 0 ds
  theirs place e = ap (λ b. if b then d ∷ dated_of 0 ds else dated_of 0 ds) (ap (λ n. n == 0) e ∙ eqb-suc-zero place)

-- The root's polls, of those of all sources.
module _ {O R S : Type 0} (root_polls : R → List (Dated O) → ℕ → Exchange O → R → Type 0) (related_polls : S → ℕ → List (Dated O) → ℕ → Exchange O → S → Type 0) where
  pub root-polls : (before ds : List (Dated O)) (r r' : R) (s s' : S) → ArePolled root_polls related_polls before r s ds r' s' → ArePolls root_polls (dated_of 0 before) r (dated_of 0 ds) r'
  root-polls before [] r r' s s' p = p.0
  root-polls before (d ∷ ds) r r' s s' p = go d.exchange.source refl p.2 (root-polls (before ++ d ∷ []) ds p.0 r' p.1 s' p.3)
    where
      not-zero : (n place : ℕ) → n ≡ suc place → n ≡ 0 → ⊥
      not-zero n place e z = (let f : suc place ≡ 0 = sym e ∙ z in cc)

      go : (n : ℕ) → d.exchange.source ≡ n → IsPolledAt root_polls related_polls before d.at d.exchange r s p.0 p.1 n → ArePolls root_polls (dated_of 0 (before ++ d ∷ [])) p.0 (dated_of 0 ds) r'
          → ArePolls root_polls (dated_of 0 before) r (dated_of 0 (d ∷ ds)) r'
      go zero e q more =
          subst (λ xs. ArePolls root_polls (dated_of 0 before) r xs r') (sym (mine d ds e))
          (p.0, q.0, subst (λ b. ArePolls root_polls b p.0 (dated_of 0 ds) r') (subst (λ n. dated_of n (before ++ d ∷ []) ≡ dated_of n before ++ d ∷ []) e (own-push before d)) more)
      go (suc place) e q more =
          subst (λ xs. ArePolls root_polls (dated_of 0 before) r xs r') (sym (theirs d ds place e))
          (subst (λ x. ArePolls root_polls (dated_of 0 before) x (dated_of 0 ds) r') q.1
          (subst (λ b. ArePolls root_polls b p.0 (dated_of 0 ds) r') (other-push before d 0 (not-zero d.exchange.source place e)) more))

-- The root's exchanges in a trace are those of a stream.
module _ {O B : Type 0} (w : World O B) (streamed : feed_of w 0 ≡ Streamed) where
  abbrev pub IsStreamOfRoot : Dated O → Type 0
  IsStreamOfRoot d = d.exchange.source ≡ 0 → IsOfStream w d.exchange

  of-stream : (before : List (Dated O)) (at : ℕ) (x : Exchange O) → IsFitting w before at x → x.source ≡ 0 → IsOfStream w x
  of-stream before at x f root = subst (λ feed. IsOfRoot w feed (exchanges_of 0 before) x) streamed (subst (λ n. IsOfSource w n (exchanges_of n before) x) root f.content)

  pub each-streamed : (h : List (Step O)) (t : Turn) (before xs : List (Exchange O)) (at : ℕ) → EachIsNext w h t before xs → AllByRecursion IsStreamOfRoot (dated at xs)
  each-streamed h t before [] at k = tt
  each-streamed h t before (x ∷ xs) at k = (of-stream (exchanges_with h t before) t.at x k.0.fits, each-streamed h t (before ++ x ∷ []) xs at k.1)

  all-streamed : (policies : ℕ → ℕ → O → Option ℕ) (h : List (Step O)) (ts : List Turn) (ms : List (Made O)) → IsTrace w policies h ts ms
      → AllByRecursion IsStreamOfRoot (dated_in (map (λ (m : Made O). m.0) ms))
  all-streamed policies h [] ms k = subst (λ ns. AllByRecursion IsStreamOfRoot (dated_in (map (λ (m : Made O). m.0) ns))) (sym k) tt
  all-streamed policies h (t ∷ ts) [] k = tt
  all-streamed policies h (t ∷ ts) (m ∷ ms) k =
      all-append IsStreamOfRoot (dated m.0.at m.0.exchanges) (dated_in (map (λ (m : Made O). m.0) ms)) (each-streamed h t [] m.0.exchanges m.0.at k.1.asked)
      (all-streamed (λ n. policies (n + 1)) (h ++ step t m ∷ []) ts ms k.2)

  own-streamed : (ds : List (Dated O)) → AllByRecursion IsStreamOfRoot ds → AllByRecursion (λ d. IsOfStream w d.exchange) (dated_of 0 ds)
  own-streamed [] p = tt
  own-streamed (d ∷ ds) p = go d.exchange.source refl (own-streamed ds p.1)
    where
      go : (n : ℕ) → d.exchange.source ≡ n → AllByRecursion (λ d. IsOfStream w d.exchange) (dated_of 0 ds) → AllByRecursion (λ d. IsOfStream w d.exchange) (dated_of 0 (d ∷ ds))
      go zero e more = subst (AllByRecursion (λ d. IsOfStream w d.exchange)) (sym (mine d ds e)) (p.0 e, more)
      go (suc place) e more = subst (AllByRecursion (λ d. IsOfStream w d.exchange)) (sym (theirs d ds place e)) more

  pub trace-streamed : (policies : ℕ → ℕ → O → Option ℕ) (ts : List Turn) (ms : List (Made O)) → IsTrace w policies [] ts ms
      → AllByRecursion (λ d. IsOfStream w d.exchange) (dated_of 0 (dated_in (map (λ (m : Made O). m.0) ms)))
  trace-streamed policies ts ms k = own-streamed (dated_in (map (λ (m : Made O). m.0) ms)) (all-streamed policies [] ts ms k)
