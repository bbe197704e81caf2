-- What a part of a query says, and the parameters of a text that is left.
use Rattle.std.specs.Prelude.{ℕ, List, Option, map}
use Rattle.percent_encoding.specs.Percent.{percent_decode}
use Rattle.gw_query.specs.Parts.{parts_left}
use Rattle.gw_query.specs.declared.part.Part.{Part}
use Rattle.gw_query.specs.model.Parameters.{Parameter, parameter_of}

-- What a part says.
abbrev pub parameter_in : Part → Parameter
parameter_in p = record { name = percent_decode p.name.now; value = percent_decode p.value.now }

-- The parameters of the text that is left.
abbrev pub parameters_left : Option (List ℕ) → List Parameter
parameters_left rest = map parameter_of (parts_left 38 rest)
