-- An exchange without what a watcher of it doesn't look at: its source, objects, requests and error. V may be another type of objects.
use Rattle.std.specs.Prelude.{List, [], map, None}
use Rattle.kube_model.specs.History.{Exchange, Dated}

abbrev pub shape : {O V : Type 0} → Exchange O → Exchange V
shape x = record { source = 0; call = x.call; answer = x.answer; items = []; requests = []; error = None }

abbrev pub shapes : {O V : Type 0} → List (Exchange O) → List (Exchange V)
shapes xs = map (λ x. shape x) xs

abbrev pub dated_shapes : {O V : Type 0} → List (Dated O) → List (Dated V)
dated_shapes ds = map (λ d. record { at = d.at; exchange = shape d.exchange }) ds
