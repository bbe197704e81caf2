-- Counts of what should never come, each up to the last u64.
use Rattle.std.specs.Prelude.{◌≡◌, ◌⊎◌, ◌+◌, ◌-◌, ◌^◌, ℕ}
use Rattle.gw_snap.specs.declared.fault.OpenFault.{OpenFault}
use Rattle.gw_snap.specs.declared.fault.OpenFault.TheVariants.{NoMemory, Place}

abbrev pub last_count : ℕ
last_count = 2 ^ 64 - 1

-- Once more, or the count stands at its end.
abbrev pub Rises : ℕ → ℕ → Type 0
Rises before now = (now ≡ before + 1) ⊎ ((before ≡ last_count) × (now ≡ before))

-- A place that was refused is counted, and want of memory isn't.
abbrev pub CountsPlace : OpenFault → ℕ → ℕ → Type 0
CountsPlace Place before now = Rises before now
CountsPlace NoMemory before now = now ≡ before

-- How often there was no place, and how often a pass was ahead of its publisher.
pub record Counts : Type 0 where
  pub places : ℕ
  pub ahead : ℕ
