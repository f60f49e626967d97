-- The text of a fault, as an error shows it and a trace prints it.
use Rattle.std.specs.Prelude.{ℕ, List}
use Rattle.kube_model.specs.declared.error.ApiError.{ApiError}
use Rattle.kube_model.specs.declared.error.ApiError.TheVariants.{Api, ReadEvents, Transport}

abbrev pub fault_text : ApiError → List ℕ
fault_text (Api status) = status.message
fault_text (ReadEvents text) = text
fault_text (Transport text) = text
