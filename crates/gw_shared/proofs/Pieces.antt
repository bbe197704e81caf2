-- A list that is read piece by piece.
use Rattle.std.proofs.Common.{◌≡◌, ◌∙◌, sym, ap, ℕ, ◌+◌, ◌-◌, ◌≤◌, arith, List, ◌++◌, length, take, drop}
use Rattle.std.proofs.lemmas.List.{drop-drop, length-append, length-drop, take-append-drop}

-- The rest is the piece and what is behind it.
pub piece_and_rest : {E : Type 0} (all piece : List E) (at : ℕ) → piece ≡ take (length piece) (drop at all) → drop at all ≡ piece ++ drop (at + length piece) all
piece_and_rest {E} all piece at is =
    sym (take-append-drop (length piece) (drop at all))
    ∙ ap (λ (zs : List E). zs ++ drop (length piece) (drop at all)) (sym is)
    ∙ ap (λ (zs : List E). piece ++ zs) (drop-drop (length piece) at all)

-- A piece ends within the list.
pub piece_within : {E : Type 0} (all piece : List E) (at : ℕ) → piece ≡ take (length piece) (drop at all) → at ≤ length all → at + length piece ≤ length all
piece_within all piece at is within =
    let parts : length (drop at all) ≡ length piece + length (drop (at + length piece) all) =
    ap length (piece_and_rest all piece at is) ∙ length-append piece (drop (at + length piece) all) in
    let rest : length (drop at all) ≡ length all - at = length-drop at all in
    omega arith
