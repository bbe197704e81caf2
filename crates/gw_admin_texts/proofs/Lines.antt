-- Lines for which no answer is left.
use Rattle.std.proofs.Common.{◌≡◌, ℕ, ◌+◌, List, [], ◌∷◌, ◌++◌, length, filter, refl, sym, ap, ap₂, ◌∙◌, arith}
use Rattle.std.specs.List.{enumerate_from, flat_map, zip}
use Rattle.gw_report.specs.EventLines.{Refused, is_event_line}
use Rattle.gw_admin_texts.specs.model.Submissions.{Answer, refused_by_answer, refused_from}

-- numbered lines with no answer
abbrev pairs : List (ℕ × List ℕ) → List Answer → List ((ℕ × List ℕ) × Answer)
pairs lines answers = zip lines answers

zip_none : (lines : List (ℕ × List ℕ)) → pairs lines [] ≡ []
zip_none [] = refl
zip_none (x ∷ lines) = refl

refused_none : (first : ℕ) (lines : List (List ℕ)) → refused_from first lines [] ≡ []
refused_none first lines =
    ap (λ (es : List ((ℕ × List ℕ) × Answer)). flat_map (λ e. refused_by_answer e.0.0 e.1) es) (zip_none (filter (λ e. is_event_line e.1) (enumerate_from first lines)))

pub none_left : (number : ℕ) (line : List ℕ) (lines : List (List ℕ)) (answers : List Answer) → length answers ≡ 0
    → refused_from number (line ∷ lines) answers ≡ refused_from number (line ∷ []) answers ++ refused_from (number + 1) lines answers
none_left number line lines [] none =
    refused_none number (line ∷ lines)
    ∙ sym (ap₂ (λ (xs ys : List Refused). xs ++ ys) (refused_none number (line ∷ [])) (refused_none (number + 1) lines))
none_left number line lines (a ∷ answers) none = absurd (omega (arith, none))
