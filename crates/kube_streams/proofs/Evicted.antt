-- What a filter forgets.
use Rattle.std.proofs.Common.{◌≡◌, ◌⊎◌, ℕ, ◌-◌, nat_lt, Bool, true, false, cond, if◌then◌else◌, List, Option, Some, None, refl, ap, ap₂, ◌∙◌, inl, inr}
use Rattle.std.specs.List.{IsDistinct, filter}
use Rattle.std.specs.Map.{keys_of, lookup}
use Rattle.std.proofs.lemmas.Map.Entries.{option_filter, lookup-filter-values}
use Rattle.kube_streams.specs.Filters.{Key, Sight, Filtering, same_key, is_fresh, swept, DoesNotCount, KeepsSettings}
use Rattle.kube_streams.specs.FilterLaws.{same_key_equiv}

module _ (ttl now : ℕ) where
  at-sight : (s : Sight) (b : Bool) → is_fresh ttl now s ≡ b → (cond b (Some s) None ≡ Some s) ⊎ ((cond b (Some s) None ≡ None) × (is_fresh ttl now s ≡ false))
  at-sight s true fresh = inl refl
  at-sight s false old = inr (refl, old)

  left-of : (o : Option Sight) → (option_filter (is_fresh ttl now) o ≡ o) ⊎ ((option_filter (is_fresh ttl now) o ≡ None) × DoesNotCount ttl now o)
  left-of None = inl refl
  left-of (Some s) = at-sight s (is_fresh ttl now s) refl

  -- of distinct keys, those whose sight counts are kept
  pub kept-fresh : (es : List (Key × Sight)) → IsDistinct same_key (keys_of es) → (key : Key)
      → (lookup (same_key key) (filter (λ e. is_fresh ttl now e.1) es) ≡ lookup (same_key key) es)
      ⊎ ((lookup (same_key key) (filter (λ e. is_fresh ttl now e.1) es) ≡ None) × DoesNotCount ttl now (lookup (same_key key) es))
  kept-fresh es distinct key =
      let same = lookup-filter-values same_key_equiv (is_fresh ttl now) key es distinct in
      elim (left-of (lookup (same_key key) es)) [ inl p ↦ inl (same ∙ p) | inr p ↦ inr (same ∙ p.0, p.1) ]

module _ {P : Type 0} (now : ℕ) (f : Filtering P) where
  abbrev after_sweep : List (Key × Sight) → Filtering P
  after_sweep es = record f { kept = es; evicted = now }

  swept-as : (b : Bool) (kept : List (Key × Sight)) → record f { kept = if b then f.kept else kept; evicted = if b then f.evicted else now } ≡ (if b then f else after_sweep kept)
  swept-as true kept = refl
  swept-as false kept = refl

  -- it is swept where that is due
  pub swept-by : (same kept : List (Key × Sight)) (evicted : ℕ) → same ≡ f.kept
      → kept ≡ (if nat_lt (now - f.evicted) f.ttl then same else filter (λ e. is_fresh f.ttl now e.1) same)
      → evicted ≡ (if nat_lt (now - f.evicted) f.ttl then f.evicted else now)
      → record f { kept = kept; evicted = evicted } ≡ swept now f
  swept-by same kept evicted e k m =
      let due = nat_lt (now - f.evicted) f.ttl in
      ap₂ (λ ks at. record f { kept = ks; evicted = at }) (k ∙ ap (λ es. if due then es else filter (λ e. is_fresh f.ttl now e.1) es) e) m
      ∙ swept-as due (filter (λ e. is_fresh f.ttl now e.1) f.kept)

  keeps : (b : Bool) → KeepsSettings f (if b then f else after_sweep (filter (λ e. is_fresh f.ttl now e.1) f.kept))
  keeps true = (refl, refl)
  keeps false = (refl, refl)

  pub swept-keeps : KeepsSettings f (swept now f)
  swept-keeps = keeps (nat_lt (now - f.evicted) f.ttl)
