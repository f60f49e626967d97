-- What a reflector is after its writer was lent.
use Rattle.kube_reflect.specs.declared.reflecting.Reflector.{Reflector}
use Rattle.kube_reflect.specs.Writers.{Writing}

-- the reflector with another writer
abbrev pub with_writer : {K D S : Type 0} → Reflector K S D → Writing K → Reflector K S D
with_writer r w = record r { writer = w }
