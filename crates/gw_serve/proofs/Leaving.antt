-- How far it came by a fault.
use Rattle.std.proofs.Common.{ℕ, List, Option, inr}
use Rattle.gw_serve.specs.Serving.{IsCutShort, IsRunFault, IsStartFault, Leaves}
use Rattle.gw_serve.specs.declared.fault.ServeFault.{ServeFault}
use Rattle.gw_serve.specs.declared.fault.ServeFault.TheVariants.{Place, Bind, Write, Start, NoMemory}

-- A job couldn't be started behind those that were.
pub cut_short : (fault : ServeFault) (faults faults' jobs : ℕ) (written written' : Option (List ℕ)) (started started' : ℕ)
    → IsStartFault fault faults faults' → IsCutShort jobs written written' started started' → Leaves fault jobs written written' started started'
cut_short Place faults faults' jobs written written' started started' cause short = absurd cause
cut_short Bind faults faults' jobs written written' started started' cause short = absurd cause
cut_short Write faults faults' jobs written written' started started' cause short = absurd cause
cut_short Start faults faults' jobs written written' started started' cause short = short
cut_short NoMemory faults faults' jobs written written' started started' cause short = inr short

-- That is a cause by which jobs don't run.
pub run_fault : (fault : ServeFault) (sink sink' crew crew' : ℕ) → IsStartFault fault crew crew' → IsRunFault fault sink sink' crew crew'
run_fault Place sink sink' crew crew' cause = cause
run_fault Bind sink sink' crew crew' cause = cause
run_fault Write sink sink' crew crew' cause = absurd cause
run_fault Start sink sink' crew crew' cause = cause
run_fault NoMemory sink sink' crew crew' cause = cause
