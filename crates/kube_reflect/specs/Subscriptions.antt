-- What one subscriber has seen, over all that was offered and all its polls. (Crate: `ReflectHandle`.)
use Rattle.std.specs.Prelude.{List, [], ◌∷◌, ◌++◌, length, take, ◌-◌}
use Rattle.kube_meta.specs.Reference.{Reference}
use Rattle.kube_reflect.specs.Subscribers.{first_stored, left}

-- a reference is offered, or the subscriber polls while these objects are stored
pub data Act (O : Type 0) : Type 0 where
  Offered : (r : Reference) → Act O
  Polled : (store : List (Reference × O)) → Act O

module _ {O : Type 0} where
  -- all that was offered, in order
  abbrev pub offers : List (Act O) → List Reference
  offers [] = []
  offers (Offered r ∷ acts) = r ∷ offers acts
  offers (Polled store ∷ acts) = offers acts

  -- what waits after these acts
  abbrev pub waiting_after : List Reference → List (Act O) → List Reference
  waiting_after rs [] = rs
  waiting_after rs (Offered r ∷ acts) = waiting_after (rs ++ r ∷ []) acts
  waiting_after rs (Polled store ∷ acts) = waiting_after (left (first_stored store rs)) acts

  -- what one poll takes or passes over: all that waits but what is then left
  abbrev pub seen_by : List (Reference × O) → List Reference → List Reference
  seen_by store rs = take (length rs - length (left (first_stored store rs))) rs

  -- what the polls take or pass over, in order
  abbrev pub seen : List Reference → List (Act O) → List Reference
  seen rs [] = []
  seen rs (Offered r ∷ acts) = seen (rs ++ r ∷ []) acts
  seen rs (Polled store ∷ acts) = seen_by store rs ++ seen (left (first_stored store rs)) acts
