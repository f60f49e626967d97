-- Reads, one after another.
use Rattle.std.proofs.Common.{◌≡◌, true, List, Option, Some, None, is_some, refl, ◌∙◌}
use Rattle.std.specs.declared.alloc.Global.{Global}
use Rattle.std.specs.declared.sync.Arc.{Arc}
use mathlib.Core.List.{IsPrefix}
use Rattle.kube_reflect.proofs.Fronts.{prefix_self, prefix_trans}
use Rattle.kube_reflect.specs.Entries.{is_readable}
use Rattle.kube_reflect.specs.Writers.{Reader}
use Rattle.kube_turn.specs.Views.{shown_objects}
use Rattle.kube_feed.specs.Reads.{IsLater, IsRead}

module _ {O : Type 0} where
  pub later-none : (r : Reader O) → IsLater r r
  later-none r = record { book = refl; kind = refl; later = prefix_self r.seen }

  pub later-more : (a b c : Reader O) → IsLater a b → IsLater b c → IsLater a c
  later-more a b c k l = record { book = l.book ∙ k.book; kind = l.kind ∙ k.kind; later = prefix_trans a.seen b.seen c.seen k.later l.later }

  -- by what the handle says of a read
  pub later-by : (a b : Reader O) → (b.book ≡ a.book) × (b.kind ≡ a.kind) → IsPrefix a.seen b.seen → IsLater a b
  later-by a b own later = record { book = own.0; kind = own.1; later = later }

  pub read-by : (a b : Reader O) → (b.book ≡ a.book) × (b.kind ≡ a.kind) → IsPrefix a.seen b.seen → is_readable b.seen ≡ true → IsRead a b
  read-by a b own later readable = record { same = later-by a b own later; readable = readable }

-- what a turn shows is there where objects were read for it
pub some-shown : {K : Type 0} (o : Option (List (Arc K Global))) → is_some (shown_objects o) ≡ is_some o
some-shown None = refl
some-shown (Some os) = refl
