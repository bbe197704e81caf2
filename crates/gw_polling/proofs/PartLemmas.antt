-- The part of a piece from one place to another.
use Rattle.std.proofs.Common.{◌≡◌, ℕ, ◌+◌, ◌-◌, ◌≤◌, List, [], ◌++◌, take, drop, ap, ◌∙◌, arith}
use Rattle.std.proofs.Math.Seq.{take-add}
use Rattle.std.proofs.lemmas.List.{drop-drop}

-- From a place to itself there is nothing.
pub part_none : (piece : List ℕ) (at : ℕ) → take (at - at) (drop at piece) ≡ []
part_none piece at =
    let none : at - at ≡ 0 = omega arith in
    ap (λ n. take n (drop at piece)) none

-- A part and then the next bytes are one part.
pub part_more :
    (piece : List ℕ) (from at more : ℕ) → from ≤ at →
    take (at + more - from) (drop from piece) ≡ take (at - from) (drop from piece) ++ take more (drop at piece)
part_more piece from at more later =
    let both : at + more - from ≡ at - from + more = omega (arith, later) in
    let reached : from + (at - from) ≡ at = omega (arith, later) in
    ap (λ n. take n (drop from piece)) both ∙ take-add (at - from) more (drop from piece)
    ∙ ap (λ rest. take (at - from) (drop from piece) ++ take more rest) (drop-drop (at - from) from piece ∙ ap (λ n. drop n piece) reached)
