-- What a call answers that parses a text.
use Rattle.std.specs.Prelude.{◌≡◌, Option, Some, None, IsSome, Result, Ok, Err}
use Rattle.gw_text.specs.declared.name.TextFault.{TextFault}
use Rattle.gw_text.specs.declared.name.TextFault.TheVariants.{Bad, NoMemory}

-- The value that the text names; Bad exactly where it names none; NoMemory only where it names one.
abbrev pub Parses : {X : Type 0} → Option X → Result X TextFault → Type 0
Parses named (Ok x) = named ≡ Some x
Parses named (Err Bad) = named ≡ None
Parses named (Err NoMemory) = IsSome named
