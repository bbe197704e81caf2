-- What a refusal of a line that is no step is printed as.
use Rattle.std.specs.Prelude.{ℕ, List, codes, Option, None, Some}
use Rattle.gw_script.specs.declared.refusal.StepRefusal.{StepRefusal}
use Rattle.gw_script.specs.declared.refusal.StepRefusal.TheVariants.{NotStep, TooLong, NoMemory}

-- Its number, beside those of the refusals of events. Want of memory is none, and has 0.
abbrev pub step_refusal_number : StepRefusal → ℕ
step_refusal_number NotStep = 8
step_refusal_number TooLong = 6
step_refusal_number NoMemory = 0

-- The path that is printed with it.
abbrev pub step_refusal_path : StepRefusal → Option (List ℕ)
step_refusal_path NotStep = None
step_refusal_path TooLong = Some (codes "line")
step_refusal_path NoMemory = None
