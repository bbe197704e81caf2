-- What readers, and the writer, know of their opening.
use Rattle.std.specs.Prelude.{◌≡◌, ℕ, true, false, List}
use mathlib.Core.Option.{some}
use lib.ListN.{get_elem?}
use Rattle.logbook.specs.Pages.{Book}
use Rattle.gw_snap.specs.declared.known.Known.{Known}

-- Of a reader that was told nothing.
abbrev pub unknown : {F : Type 0} → F → Known F
unknown blank = record { told = false; number = 0; log_name = 0; cells_name = 0; fixed = blank }

-- Of a reader that was told which list it is, and the part that all values have.
abbrev pub known : {F : Type 0} → Book → F → Known F
known book fixed = record { told = true; number = book.number; log_name = book.log_name; cells_name = book.cells_name; fixed = fixed }

-- Whoever was told was told this.
abbrev pub Knows : {F : Type 0} → Book → F → Known F → Type 0
Knows book fixed knows = knows.told ≡ true → knows ≡ known book fixed

-- All readers, and the writer.
abbrev pub AllKnow : {F : Type 0} → Book → F → List (Known F) → Type 0
AllKnow {F} book fixed readers = (place : ℕ) (knows : Known F) → get_elem? readers place ≡ some knows → Knows book fixed knows
