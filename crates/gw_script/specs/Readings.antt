-- What a call answers that reads a line of a script, or a part of one.
use Rattle.std.specs.Prelude.{◌≡◌, ⊤, Option, None, Some, Result, Ok, Err}
use Rattle.gw_script.specs.Seen.{seen_step}
use Rattle.gw_script.specs.Steps.{Step as Plain}
use Rattle.gw_script.specs.declared.step.Step.{Step}
use Rattle.gw_script.specs.declared.refusal.StepRefusal.{StepRefusal}
use Rattle.gw_script.specs.declared.refusal.StepRefusal.TheVariants.{NotStep, TooLong, NoMemory}

-- What a part says, unless memory ran out; NotStep only where it says nothing.
abbrev pub Reads : {X Y : Type 0} → (X → Y) → Option Y → Result X StepRefusal → Type 0
Reads view said (Ok x) = said ≡ Some (view x)
Reads view said (Err NotStep) = said ≡ None
Reads view said (Err TooLong) = ⊥
Reads view said (Err NoMemory) = ⊤

-- The step that a line says, or its refusal, unless memory ran out.
abbrev pub IsStep : Result Plain StepRefusal → Result Step StepRefusal → Type 0
IsStep said (Ok step) = said ≡ Ok (seen_step step)
IsStep said (Err NotStep) = said ≡ Err NotStep
IsStep said (Err TooLong) = said ≡ Err TooLong
IsStep said (Err NoMemory) = ⊤
