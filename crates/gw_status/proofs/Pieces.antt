-- A text that is written piece by piece.
use Rattle.std.proofs.Common.{◌≡◌, ◌∙◌, sym, ap, ℕ, ◌+◌, List, ◌++◌, length, take, drop, append_assoc}
use Rattle.std.proofs.lemmas.Grind.{flat_map-append}
use Rattle.std.specs.List.{flat_map}
use Rattle.gw_shared.proofs.Pieces.{piece_and_rest}

-- With the lines of a piece, the text so far lacks the lines behind it.
pub piece_written : {E : Type 0} (line : E → List ℕ) (all piece : List E) (at : ℕ) (whole old new : List ℕ) → piece ≡ take (length piece) (drop at all)
    → new ≡ old ++ flat_map line piece → old ++ flat_map line (drop at all) ≡ whole → new ++ flat_map line (drop (at + length piece) all) ≡ whole
piece_written {E} line all piece at whole old new is more before =
    let rest = drop (at + length piece) all in
    ap (λ (t : List ℕ). t ++ flat_map line rest) more
    ∙ append_assoc old (flat_map line piece) (flat_map line rest)
    ∙ ap (λ (t : List ℕ). old ++ t) (sym (flat_map-append line piece rest))
    ∙ ap (λ (s : List E). old ++ flat_map line s) (sym (piece_and_rest all piece at is))
    ∙ before
