-- A text gone through value by value.
use Rattle.std.proofs.Common.{◌≡◌, ◌∙◌, refl, sym, ap, ℕ, Bool, true, false, List, [], ◌∷◌, ◌++◌, length, take, drop, append-nil, true≢false}
use Rattle.std.proofs.lemmas.Bool.Decides.{Decides-eqb}
use Rattle.std.proofs.lemmas.List.{take-append-drop}
use Rattle.std.proofs.lemmas.Slice.Eq.{bytes_eq-Decides}
use Rattle.std.specs.List.{join_with_byte}
use Rattle.std.specs.Str.{bytes_eq}
use Rattle.gw_rows.specs.Combined.{Continues, Differs, behind, in_a_row}

-- Equal fronts can be left out.
same_front : (front a b : List ℕ) → bytes_eq (front ++ a) (front ++ b) ≡ bytes_eq a b
same_front [] a b = refl
same_front (x ∷ front) a b = rw ((Decides-eqb x x).1 refl) (same_front front a b)

take_front : (front more : List ℕ) → take (length front) (front ++ more) ≡ front
take_front [] more = refl
take_front (x ∷ front) more = ap (λ (rest : List ℕ). x ∷ rest) (take_front front more)

pub prefix_missing : (front text : List ℕ) → bytes_eq (take (length front) text) front ≡ false → Differs text front
prefix_missing front text missing more = by (bytes_eq (front ++ more) text) refl
  where
    by : (b : Bool) → bytes_eq (front ++ more) text ≡ b → bytes_eq (front ++ more) text ≡ false
    by false e = e
    by true e =
        let is : front ++ more ≡ text = (bytes_eq-Decides (front ++ more) text).0 e in
        let begins : take (length front) text ≡ front = ap (take (length front)) (sym is) ∙ take_front front more in
        absurd (true≢false (sym ((bytes_eq-Decides (take (length front) text) front).1 begins) ∙ missing))

pub prefix_found : (front text : List ℕ) → bytes_eq (take (length front) text) front ≡ true → Continues text front (drop (length front) text)
prefix_found front text found more =
    let begins : take (length front) text ≡ front = (bytes_eq-Decides (take (length front) text) front).0 found in
    let is : front ++ drop (length front) text ≡ text = ap (λ (f : List ℕ). f ++ drop (length front) text) (sym begins) ∙ take-append-drop (length front) text in
    ap (bytes_eq (front ++ more)) (sym is) ∙ same_front front more (drop (length front) text)

-- The values joined by commas are the values in a row.
pub joined_in_a_row : (values : List (List ℕ)) → join_with_byte 44 values ≡ in_a_row false values
joined_in_a_row [] = refl
joined_in_a_row (x ∷ values) = by x values
  where
    rest : (y : List ℕ) (values : List (List ℕ)) → 44 ∷ join_with_byte 44 (y ∷ values) ≡ in_a_row true (y ∷ values)
    rest y [] = ap (λ (t : List ℕ). 44 ∷ t) (sym (append-nil y))
    rest y (z ∷ values) = ap (λ (t : List ℕ). 44 ∷ (y ++ t)) (rest z values)

    by : (x : List ℕ) (values : List (List ℕ)) → join_with_byte 44 (x ∷ values) ≡ in_a_row false (x ∷ values)
    by x [] = sym (append-nil x)
    by x (y ∷ values) = ap (λ (t : List ℕ). x ++ t) (rest y values)
