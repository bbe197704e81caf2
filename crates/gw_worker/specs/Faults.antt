-- Why a connection is given up.
use Rattle.std.specs.Prelude.{◌≡◌, ℕ}
use Rattle.gw_snap.specs.Counts.{Rises}
use Rattle.gw_snap.specs.declared.fault.OpenFault.{OpenFault}
use Rattle.gw_snap.specs.declared.fault.OpenFault.TheVariants as refused
use Rattle.gw_worker.specs.declared.serve.ConnFault.{ConnFault}
use Rattle.gw_worker.specs.declared.serve.ConnFault.TheVariants.{NoMemory, Place, Read, Write}

-- Where a request can't be decided.
abbrev pub of_open : OpenFault → ConnFault
of_open refused.Place = Place
of_open refused.NoMemory = NoMemory

-- A reading that was refused is counted by the pass, once, and nothing else is.
abbrev pub CountsRefused : ConnFault → ℕ → ℕ → Type 0
CountsRefused Place before now = Rises before now
CountsRefused Read before now = now ≡ before
CountsRefused Write before now = now ≡ before
CountsRefused NoMemory before now = now ≡ before
