-- What becomes of a number.
use Rattle.std.specs.Prelude.{ℕ, ◌+◌, ◌-◌}
use Rattle.gw_kept.specs.declared.change.Change.{Change}
use Rattle.gw_kept.specs.declared.change.Change.TheVariants.{Added, TakenOut}

-- A number with one Route more, or with one less.
abbrev pub changed : Change → ℕ → ℕ
changed Added number = number + 1
changed TakenOut number = number - 1
