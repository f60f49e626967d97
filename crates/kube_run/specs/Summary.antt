-- The line of a run's totals: an object in the compact text, with its members by the bytes of their names, and a line feed.
use Rattle.std.specs.Prelude.{ℕ, List, [], ◌∷◌, ◌++◌, codes}
use Rattle.serde_json.specs.Data.{Data, number, unsigned, object, Members, no_members, member}
use Rattle.serde_json.specs.Written.{compact_text}
use Rattle.kube_run.specs.declared.totals.Totals.{Totals}

abbrev pub count_member : List ℕ → ℕ → Members → Members
count_member name n rest = member name (number (unsigned n)) rest

abbrev pub totals_members : Totals → Members → Members
totals_members t rest =
    count_member (codes "asks") t.asks (count_member (codes "finished") t.finished (count_member (codes "missing") t.missing
    (count_member (codes "objects") t.objects (count_member (codes "requests") t.requests (count_member (codes "started") t.started rest)))))

unfoldable pub totals_data : Totals → Data
totals_data t = object (totals_members t no_members)

abbrev pub totals_text : Totals → List ℕ
totals_text t = compact_text (totals_data t) ++ 10 ∷ []
