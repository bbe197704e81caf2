-- What a link in memory gives, and its marks.
use Rattle.std.proofs.Common.{◌≡◌, ℕ, ◌==◌, Bool, true, false, List, [], ◌∷◌, ◌++◌, length, take, drop, nat_lt, cond, not, refl, sym, ap, ◌∙◌, append_assoc, arith}
use Rattle.std.specs.List.{concat, filter, list_any}
use Rattle.std.proofs.lemmas.List.{take-append-drop, take_all}
use Rattle.std.proofs.lemmas.Bool.Decides.{nat_tests}
use Rattle.gw_polling.specs.PollMemory.{Readiness, is_marked, has_mark, after_mark, read_piece, left_behind}

-- A read gives the front of what is left.
pub front_gives : (size : ℕ) (pieces : List (List ℕ)) → concat pieces ≡ read_piece size pieces ++ concat (left_behind size pieces)
front_gives size [] = refl
front_gives size (piece ∷ pieces) = by (nat_lt size (length piece)) refl
  where
    by : (below : Bool) → nat_lt size (length piece) ≡ below
        → piece ++ concat pieces ≡ take size piece ++ concat (cond below (drop size piece ∷ pieces) pieces)
    by true is = ap (λ t. t ++ concat pieces) (sym (take-append-drop size piece)) ∙ append_assoc (take size piece) (drop size piece) (concat pieces)
    by false is = ap (λ t. t ++ concat pieces) (sym (take_all size piece (grind (arith, nat_tests))))

-- A mark before the next call is a mark.
pub marked_has : (ready : Readiness) → is_marked ready ≡ true → has_mark ready ≡ true
marked_has ready is = by ready.marks is
  where
    by : (marks : List ℕ) → list_any (λ number. number == ready.next) marks ≡ true → list_any (λ number. true) marks ≡ true
    by [] is = absurd (cc is)
    by (mark ∷ marks) is = refl

-- No mark comes where one is taken away.
pub none_left : (ready : Readiness) → has_mark ready ≡ false → has_mark (after_mark ready) ≡ false
none_left ready none = by ready.marks none
  where
    by : (marks : List ℕ) → list_any (λ number. true) marks ≡ false → list_any (λ number. true) (filter (λ number. not (number == ready.next)) marks) ≡ false
    by [] none = refl
    by (mark ∷ marks) none = absurd (cc none)
