-- How much of a piece a read of a link in memory asks for.
use Rattle.std.proofs.Common.{ℕ, ◌<◌, ◌≤◌, List, [], ◌∷◌, arith, fold}
use Rattle.std.proofs.lemmas.Bool.Decides.{nat_tests}
use Rattle.gw_link.specs.Memory.{LinkState, up_to_cut, in_one_piece}

-- One place leaves some bytes.
up_to_cut_some : (given size cut : ℕ) → 0 < size → 0 < up_to_cut given size cut
up_to_cut_some given size cut some = grind (arith, nat_tests)

up_to_cut_within : (given size cut : ℕ) → up_to_cut given size cut ≤ size
up_to_cut_within given size cut = grind (arith, nat_tests)

-- All places leave some bytes.
some_of_cuts : (given : ℕ) (cuts : List ℕ) (size : ℕ) → 0 < size → 0 < fold (up_to_cut given) size cuts
some_of_cuts given [] size some = some
some_of_cuts given (cut ∷ cuts) size some = some_of_cuts given cuts (up_to_cut given size cut) (up_to_cut_some given size cut some)

within_cuts : (given : ℕ) (cuts : List ℕ) (size : ℕ) → fold (up_to_cut given) size cuts ≤ size
within_cuts given [] size = omega arith
within_cuts given (cut ∷ cuts) size = omega (arith, up_to_cut_within given size cut, within_cuts given cuts (up_to_cut given size cut))

-- A piece isn't empty.
pub in_one_piece_some : (link : LinkState) (size : ℕ) → 0 < size → 0 < in_one_piece link size
in_one_piece_some link size some = some_of_cuts link.source.given link.cuts size some

-- A piece isn't above what was asked for.
pub in_one_piece_within : (link : LinkState) (size : ℕ) → in_one_piece link size ≤ size
in_one_piece_within link size = within_cuts link.source.given link.cuts size
