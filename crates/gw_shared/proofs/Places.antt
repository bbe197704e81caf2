-- Places in a list, one after another.
use Rattle.std.proofs.Common.{◌≡◌, ◌∙◌, sym, ap, ℕ, ◌+◌, arith, List, [], ◌∷◌, ◌++◌, map}
use Rattle.std.proofs.lemmas.List.FromFn.{map-range_with_len_more}
use Rattle.std.specs.List.{range_with_len}

-- One more of those that are made, place by place.
pub made_more : {A : Type 0} (part : ℕ → A) (done new : List A) (i : ℕ) (y : A) → new ≡ done ++ y ∷ [] → y ≡ part i
    → done ≡ map part (range_with_len 0 i) → new ≡ map part (range_with_len 0 (i + 1))
made_more {A} part done new i y more is before =
    more ∙ ap (λ (zs : List A). zs ++ y ∷ []) before ∙ ap (λ (z : A). map part (range_with_len 0 i) ++ z ∷ []) is
    ∙ sym (map-range_with_len_more part 0 i i (omega arith))
