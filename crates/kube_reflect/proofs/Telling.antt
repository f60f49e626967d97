-- What a writer has for its readers goes with the events that it applies.
use Rattle.std.proofs.Common.{◌≡◌, ℕ, ◌+◌, ◌<◌, ◌^◌, take, get_or, List, [], ◌∷◌, ◌++◌, fold, map, length, refl, ap, ap₂, sym, subst, ◌∙◌, append_assoc, length-append, arith}
use Rattle.std.specs.Prelude.{Option, Some, None, IfSome}
use Rattle.std.specs.Option.{option_map}
use Rattle.std.proofs.lemmas.List.{map-append, append-nil, take_more}
use mathlib.Core.List.{IsPrefix}
use Rattle.kube_meta.specs.declared.metadata.ObjectMeta.{ObjectMeta}
use Rattle.kube_meta.specs.Reference.{ObjectType}
use Rattle.kube_meta.specs.Keys.{key_of}
use Rattle.kube_watch.specs.declared.event.Event.{Event}
use Rattle.kube_watch.specs.Events.{event_map}
use Rattle.std.specs.Arc.{arc_value}
use Rattle.std.specs.declared.sync.Arc.{Arc}
use Rattle.std.specs.declared.alloc.Global.{Global}
use Rattle.kube_reflect.specs.declared.copies.copied.Op.{Op}
use Rattle.kube_reflect.specs.declared.copies.copied.Op.TheVariants.{Add, End as AddEnd}
use Rattle.kube_reflect.specs.declared.copies.law.Entry.{Entry}
use Rattle.kube_reflect.specs.declared.copies.law.Entry.TheVariants.{End}
use Rattle.kube_reflect.specs.Published.{Keeping, IsMade, keeping_with}
use Rattle.kube_reflect.specs.Entries.{entries_of, entry_of, told_in}
use Rattle.kube_reflect.specs.Copies.{added}
use Rattle.kube_reflect.specs.Shareds.{SharedList, Tells}
use Rattle.kube_reflect.specs.Ruled.{kept_for}
use Rattle.kube_reflect.proofs.Pending.{kept_same, added-append}

pub prefix_more : {A : Type 0} (xs ys zs : List A) → IsPrefix xs ys → IsPrefix xs (ys ++ zs)
prefix_more xs ys zs p = (p.0 ++ zs, sym (append_assoc xs p.0 zs) ∙ ap (λ w. w ++ zs) p.1)

module _ {K : Type 0} where
  -- the copies have what is told, and so much more once more waits
  pub told_more : (events more : List (Event K)) (told : Option (List (Entry K))) (ops : List (Op K)) → IfSome told (λ es. es ≡ entries_of events)
      → IfSome told (λ _. added ops ≡ entries_of more) → IfSome (option_map (λ es. es ++ added ops) told) (λ es. es ≡ entries_of (events ++ more))
  told_more events more None ops is new = tt
  told_more events more (Some es) ops is new = ap₂ (λ a b. a ++ b) is new ∙ sym (map-append entry_of events more)

  pub named_more : (events more : List (Event K)) (named : List (Entry K)) → IsPrefix named (entries_of events) → IsPrefix named (entries_of (events ++ more))
  named_more events more named p = subst (IsPrefix named) (sym (map-append entry_of events more)) (prefix_more named (entries_of events) (entries_of more) p)

  -- more operations wait
  pub told_wait : (log : List (Entry K)) (pending queue queue' ops : List (Op K)) → queue' ≡ queue ++ ops
      → log ++ added (pending ++ queue') ≡ (log ++ added (pending ++ queue)) ++ added ops
  told_wait log pending queue queue' ops is =
      ap (λ q. log ++ added (pending ++ q)) is
      ∙ (ap (λ es. log ++ es) (ap added (sym (append_assoc pending queue ops)) ∙ added-append (pending ++ queue) ops)
      ∙ sym (append_assoc log (added (pending ++ queue)) (added ops)))

  pub told_wait_end : (log : List (Entry K)) (pending queue queue' : List (Op K)) → queue' ≡ queue ++ AddEnd ∷ []
      → log ++ added (pending ++ queue') ≡ (log ++ added (pending ++ queue)) ++ End ∷ []
  told_wait_end log pending queue queue' is = told_wait log pending queue queue' (AddEnd ∷ []) is

  -- one more copy of an event
  pub copy_next : (ops ops' : List (Op K)) (e x : Event (Arc K Global)) (es : List (Event (Arc K Global))) (i : ℕ) → ops' ≡ ops ++ Add e ∷ [] → event_map arc_value e ≡ event_map arc_value x
      → i < length es → x ≡ get_or es i x → added ops ≡ entries_of (map (event_map arc_value) (take i es)) → added ops' ≡ entries_of (map (event_map arc_value) (take (i + 1) es))
  copy_next ops ops' e x es i is same lt here inv =
      let value : Arc K Global → K = arc_value in
      ap added is ∙ (added-append ops (Add e ∷ []) ∙ (ap₂ (λ a b. a ++ b) inv (ap (λ y. entry_of y ∷ []) same)
      ∙ (sym (map-append entry_of (map (event_map value) (take i es)) (event_map value x ∷ []))
      ∙ (ap entries_of (sym (map-append (event_map value) (take i es) (x ∷ [])))
      ∙ ap (λ ys. entries_of (map (event_map value) ys)) (sym (take_more es i x lt ∙ ap (λ y. take i es ++ y ∷ []) (sym here)))))))

module _ {K D : Type 0} (type_of : D → ObjectType) (meta : K → ObjectMeta) where
  -- what events made, by their entries
  pub made_told : (d : D) (k : Keeping K) (log : List (Entry K)) → type_of d ≡ k.kind → IsMade meta k → log ≡ entries_of k.events → k.kept ≡ kept_for type_of meta d log
  made_told d k log kind made is =
      made ∙ (sym (kept_same (λ o. key_of k.kind (meta o)) k.events) ∙ (ap (λ t. kept_for (λ (u : D). t) meta d (entries_of k.events)) (sym kind) ∙ ap (kept_for type_of meta d) (sym is)))

  -- one keeps more, and the copies have as much more waiting
  pub tells_more : (k k' : Keeping K) (count count' : ℕ) (s s1 s2 : SharedList K D) (ops : List (Op K)) (more : List (Event K)) (L : Type 0) → Tells type_of k count s
      → s1 ≡ record s { room = s1.room } → s2 ≡ record s1 { told = option_map (λ es. es ++ added ops) s1.told; room = s2.room }
      → IfSome s.told (λ _. (added ops ≡ entries_of more) × L) → k'.kind ≡ k.kind → k'.events ≡ k.events ++ more → count' ≡ count + length more → count' < 2 ^ 62
      → Tells type_of k' count' s2
  tells_more k k' count count' s s1 s2 ops more L t a b staged kind events counted room =
      let n = t.counted in
      let m = length-append k.events more in
      let e = ap length events in
      record {
        counted = omega arith;
        room = room;
        kind = ap (λ z. type_of z.home.dyntype) b ∙ (ap (λ z. type_of z.home.dyntype) a ∙ (t.kind ∙ sym kind));
        begun =
            subst (λ (es : List (Event K)). IsPrefix (told_in s2.named) (entries_of es)) (sym events)
            (subst (λ (es : List (Entry K)). IsPrefix (told_in es) (entries_of (k.events ++ more))) (sym (ap (λ z. z.named) b ∙ ap (λ z. z.named) a))
            (named_more k.events more (told_in s.named) t.begun));
        told =
            subst (λ (o : Option (List (Entry K))). IfSome o (λ es. es ≡ entries_of k'.events))
            (sym (ap (λ z. z.told) b ∙ ap (λ z. option_map (λ es. es ++ added ops) z.told) a))
            (subst (λ (es : List (Event K)). IfSome (option_map (λ es. es ++ added ops) s.told) (λ z. z ≡ entries_of es)) (sym events)
            (told_more k.events more s.told ops t.told (first L s.told staged)));
      }
    where
      first : (L : Type 0) (o : Option (List (Entry K))) → IfSome o (λ _. (added ops ≡ entries_of more) × L) → IfSome o (λ _. added ops ≡ entries_of more)
      first L None h = tt
      first L (Some x) h = h.0

module _ {K A : Type 0} (value : A → K) (meta : K → ObjectMeta) where
  -- all events that are applied at once
  pub events_all : (k : Keeping K) (es : List (Event A)) → (fold (keeping_with value meta) k es).events ≡ k.events ++ map (event_map value) es
  events_all k [] = sym (append-nil k.events)
  events_all k (e ∷ es) = events_all (keeping_with value meta k e) es ∙ append_assoc k.events (event_map value e ∷ []) (map (event_map value) es)

  pub kind_all : (k : Keeping K) (es : List (Event A)) → (fold (keeping_with value meta) k es).kind ≡ k.kind
  kind_all k [] = refl
  kind_all k (e ∷ es) = kind_all (keeping_with value meta k e) es
