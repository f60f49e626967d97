use Rattle.std.proofs.Common.{◌∷◌, [], ◌++◌, refl, ap, ap₂}
use Rattle.kube_asks.proofs.Determined.{beside-determined, list-determined, list-fed, one-determined}
use Rattle.kube_asks.proofs.laws.sets_are_determined.Goals as goal

pub returns-clause-none : goal.returns-clause-none
returns-clause-none g c = record {
  fed_alike = λ s u k. refl;
  same = λ s u s' u' place own at x y k f h source p q. absurd p;
}

pub returns-clause-one : goal.returns-clause-one
returns-clause-one g c d = record {
  fed_alike = λ s u k. ap (λ t. t ∷ []) (d.fed_alike s.0 u.0 k);
  same = λ s u s' u' place own at x y k f h source p q.
      one-determined g.T.Related.settings g.T.Related.alike g.T.Related.polls d.same s.0 u.0 s'.0 u'.0 place own at x y k f h source p q;
}

pub returns-clause-list : goal.returns-clause-list
returns-clause-list g c d = record {
  fed_alike = λ s u k. list-fed g.T.Related.settings g.T.Related.alike g.T.Related.polls d.same d.fed_alike s.items.items u.items.items k;
  same = λ s u s' u' place own at x y k f h source p q.
      list-determined g.T.Related.settings g.T.Related.alike g.T.Related.polls d.same s.items.items u.items.items s'.items.items u'.items.items place own at x y k f h source p q;
}

pub returns-clause-beside : goal.returns-clause-beside
returns-clause-beside g c d e = record {
  fed_alike = λ s u k. ap₂ (λ xs ys. xs ++ ys) (d.fed_alike s.first u.first k.0) (e.fed_alike s.rest u.rest k.1);
  same = λ s u s' u' place own at x y k f h source p q.
      beside-determined g.S.RelatedSet.feeds g.U.RelatedSet.feeds g.S.RelatedSet.alike g.U.RelatedSet.alike g.S.RelatedSet.polls g.U.RelatedSet.polls d.same e.same d.fed_alike
      s.first u.first s'.first u'.first s.rest u.rest s'.rest u'.rest place own at x y k f h source p q;
}
