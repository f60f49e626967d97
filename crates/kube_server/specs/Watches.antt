-- An open watch of the code, as plain data.
use Rattle.std.specs.Prelude.{map}
use Rattle.kube_meta.specs.declared.dynamic.DynamicObject.{DynamicObject}
use Rattle.kube_api.specs.Answers.{event_answer}
use Rattle.kube_server.specs.Connections.{OpenWatch}
use Rattle.kube_server.specs.Stored.{name_of}
use Rattle.kube_server.specs.declared.watching.Watching.{Watching}

abbrev pub watch_of : Watching → OpenWatch DynamicObject
watch_of w = record { name = name_of w.name; pending = map event_answer w.pending.items; follows = w.follows }
