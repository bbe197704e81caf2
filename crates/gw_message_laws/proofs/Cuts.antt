-- A section is cut in one way.
use Rattle.std.proofs.Common.{◌≡◌, ℕ, ◌+◌, ◌≤◌, ◌<◌, Bool, true, false, List, [], ◌∷◌, ◌++◌, length, take, arith, refl, sym, ap, ap₂, ◌∙◌, inl, inr, length-append}
use Rattle.std.proofs.lemmas.Bool.{cases_lt}
use Rattle.gw_messages.specs.model.Sections.{Section, whole_section, long_section, part_section, IsCut, NoneBelow}

take_front : (a b : List ℕ) → take (length a) (a ++ b) ≡ a
take_front [] b = refl
take_front (x ∷ a) b = ap (λ xs. x ∷ xs) (take_front a b)

same_front : (a b r q : List ℕ) → length a ≡ length b → a ++ r ≡ b ++ q → (a ≡ b) × (r ≡ q)
same_front [] [] r q len e = (refl, e)
same_front [] (y ∷ b) r q len e = absurd (omega (arith, len))
same_front (x ∷ a) [] r q len e = absurd (omega (arith, len))
same_front (x ∷ a) (y ∷ b) r q len e =
    let tails = same_front a b r q (omega (arith, len)) (cc) in
    let heads : x ≡ y = cc in
    (ap₂ (λ z zs. z ∷ zs) heads tails.0, tails.1)

-- a front that passes isn't below one that is the shortest
not_below : (ends : List ℕ → Bool) (count : ℕ) (bytes a r : List ℕ) → bytes ≡ a ++ r → ends a ≡ true → NoneBelow ends count bytes → length a < count → ⊥
not_below ends count bytes a r split passes none lt =
    let front : take (length a) bytes ≡ a = ap (take (length a)) split ∙ take_front a r in
    let fails : ends a ≡ false = sym (ap ends front) ∙ none (length a) lt in
    cc

front_within : (bytes a r : List ℕ) → bytes ≡ a ++ r → length a ≤ length bytes
front_within bytes a r split = omega (arith, ap length split, length-append a r)

pub cut_unique : (ends : List ℕ → Bool) (most : ℕ) (bytes : List ℕ) (s t : Section) → IsCut ends most bytes s → IsCut ends most bytes t → s ≡ t
cut_unique ends most bytes (whole_section a r) (whole_section b q) x y =
    elim (cases_lt (length a) (length b)) [
      | inl less ↦ absurd (not_below ends (length b) bytes a r x.0 x.1 y.3 less)
      | inr more ↦ elim (cases_lt (length b) (length a)) [
        | inl less ↦ absurd (not_below ends (length a) bytes b q y.0 y.1 x.3 less)
        | inr least ↦
            let same = same_front a b r q (omega (arith, more, least)) (sym x.0 ∙ y.0) in
            ap₂ whole_section same.0 same.1
      ]
    ]
cut_unique ends most bytes (whole_section a r) long_section x y = absurd (not_below ends (most + 1) bytes a r x.0 x.1 y.1 (omega (arith, x.2)))
cut_unique ends most bytes (whole_section a r) part_section x y =
    absurd (not_below ends (length bytes + 1) bytes a r x.0 x.1 y.1 (omega (arith, front_within bytes a r x.0)))
cut_unique ends most bytes long_section (whole_section b q) x y = absurd (not_below ends (most + 1) bytes b q y.0 y.1 x.1 (omega (arith, y.2)))
cut_unique ends most bytes long_section long_section x y = refl
cut_unique ends most bytes long_section part_section x y = absurd (omega (arith, x.0, y.0))
cut_unique ends most bytes part_section (whole_section b q) x y =
    absurd (not_below ends (length bytes + 1) bytes b q y.0 y.1 x.1 (omega (arith, front_within bytes b q y.0)))
cut_unique ends most bytes part_section long_section x y = absurd (omega (arith, x.0, y.0))
cut_unique ends most bytes part_section part_section x y = refl
