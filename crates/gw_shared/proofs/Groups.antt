-- Groups of one width, and what stands in them.
use Rattle.std.proofs.Common.{◌≡◌, ◌∙◌, refl, sym, ap, ℕ, zero, suc, ◌+◌, ◌-◌, ◌*◌, ◌/◌, ◌%◌, ◌<◌, arith, Bool, ◌&&◌, List, [], ◌∷◌, ◌++◌, length, get_or, set, length-append, length-set, mod-lt, subst}
use Rattle.std.proofs.lemmas.List.{get_or-append-add, get_or_append_left, get_or_default, set-append_left, set-append_right}
use Rattle.std.proofs.lemmas.List.Elements.{All-set}
use Rattle.std.proofs.lemmas.List.Folds.{list_all-append}
use Rattle.std.specs.List.{All, list_all}
use native.Mathlib.Nat.{div-add-mod', suc-mul}
use Rattle.gw_shared.specs.Sharing.{elements_of}

-- Whether each passes is told group by group.
pub passes_each : {E : Type 0} (p : E → Bool) (groups : List (List E)) → list_all (λ g. list_all p g) groups ≡ list_all p (elements_of groups)
passes_each p [] = refl
passes_each p (g ∷ groups) = ap (λ (b : Bool). list_all p g && b) (passes_each p groups) ∙ sym (list_all-append p g (elements_of groups))

front : (width j : ℕ) → 0 * width + j ≡ j
front width j = omega arith

module _ {E : Type 0} (width : ℕ) where
  abbrev AreWide : List (List E) → Type 0
  AreWide groups = All (λ g. length g ≡ width) groups

  first : (g : List E) (groups : List (List E)) → AreWide (g ∷ groups) → length g ≡ width
  first g groups wide = wide 0 [] (omega arith)

  others : (g : List E) (groups : List (List E)) → AreWide (g ∷ groups) → AreWide groups
  others g groups wide = λ k d within. wide (suc k) d (omega (arith, within))

  behind : (g : List E) (i j : ℕ) → length g ≡ width → suc i * width + j ≡ length g + (i * width + j)
  behind g i j is =
      let product : suc i * width ≡ i * width + width = suc-mul i width in
      omega (arith, product, is)

  -- What stands in a group's place.
  found_in_group : (groups : List (List E)) (i j : ℕ) (d : E) → AreWide groups → j < width
      → get_or (elements_of groups) (i * width + j) d ≡ get_or (get_or groups i []) j d
  found_in_group [] i j d wide few = refl
  found_in_group (g ∷ groups) zero j d wide few =
      ap (λ (n : ℕ). get_or (g ++ elements_of groups) n d) (front width j)
      ∙ get_or_append_left g (elements_of groups) d j (omega (arith, few, first g groups wide))
  found_in_group (g ∷ groups) (suc i) j d wide few =
      ap (λ (n : ℕ). get_or (g ++ elements_of groups) n d) (behind g i j (first g groups wide))
      ∙ get_or-append-add g (elements_of groups) (i * width + j) d
      ∙ found_in_group groups i j d (others g groups wide) few

  -- What is set in a group's place.
  set_in_group : (groups : List (List E)) (i j : ℕ) (y : E) → AreWide groups → j < width
      → set (elements_of groups) (i * width + j) y ≡ elements_of (set groups i (set (get_or groups i []) j y))
  set_in_group [] i j y wide few = refl
  set_in_group (g ∷ groups) zero j y wide few =
      ap (λ (n : ℕ). set (g ++ elements_of groups) n y) (front width j)
      ∙ set-append_left g (elements_of groups) j y (omega (arith, few, first g groups wide))
  set_in_group (g ∷ groups) (suc i) j y wide few =
      let place : length g + (i * width + j) - length g ≡ i * width + j = omega arith in
      ap (λ (n : ℕ). set (g ++ elements_of groups) n y) (behind g i j (first g groups wide))
      ∙ set-append_right g (elements_of groups) (length g) (length g + (i * width + j)) y refl (omega arith)
      ∙ ap (λ (n : ℕ). g ++ set (elements_of groups) n y) place
      ∙ ap (λ (zs : List E). g ++ zs) (set_in_group groups i j y (others g groups wide) few)

  -- A place among all stands in one of the groups.
  group_within : (groups : List (List E)) (i j : ℕ) → AreWide groups → i * width + j < length (elements_of groups) → i < length groups
  group_within [] i j wide within = absurd (omega (arith, within))
  group_within (g ∷ groups) zero j wide within = omega arith
  group_within (g ∷ groups) (suc i) j wide within =
      let parts : length (g ++ elements_of groups) ≡ length g + length (elements_of groups) = length-append g (elements_of groups) in
      let rest : i < length groups =
      group_within groups i j (others g groups wide) (omega (arith, within, parts, behind g i j (first g groups wide))) in
      omega (arith, rest)

  -- The bucket of a hash, where the groups are of this width and have so many.
  module _ (groups : List (List E)) (hash count : ℕ) (all : List E) (is : (0 < width) × (AreWide groups × (count ≡ length (elements_of groups)))) (seen : elements_of groups ≡ all) where
    abbrev i : ℕ
    i = hash % count / width

    abbrev j : ℕ
    j = hash % count % width

    place_within : j < width
    place_within = mod-lt (hash % count) is.0

    whole : i * width + j ≡ hash % length all
    whole = div-add-mod' (hash % count) width ∙ ap (λ (n : ℕ). hash % n) (is.1.1 ∙ ap length seen)

    pub found_at : (d : E) → get_or (get_or groups i []) j d ≡ get_or all (hash % length all) d
    found_at d =
        sym (found_in_group groups i j d is.1.0 place_within)
        ∙ ap (λ (n : ℕ). get_or (elements_of groups) n d) whole
        ∙ ap (λ (zs : List E). get_or zs (hash % length all) d) seen

    pub number_within : 0 < length all → i < length groups
    number_within some =
        let within : hash % length all < length (elements_of groups) =
        subst (λ (zs : List E). hash % length all < length zs) (sym seen) (mod-lt hash some) in
        group_within groups i j is.1.0 (subst (λ (n : ℕ). n < length (elements_of groups)) (sym whole) within)

    pub within_group : 0 < length all → (group : List E) → group ≡ get_or groups i group → j < length group
    within_group some group own =
        subst (λ (g : List E). j < length g) (sym own)
        (subst (λ (n : ℕ). j < n) (sym (is.1.0 i group (number_within some))) place_within)

    -- One bucket is set, in a group that stands in the place of the one there.
    module _ (group changed : List E) (y : E) (changes : List (List E)) (some : 0 < length all) (own : group ≡ get_or groups i group) (set_group : changed ≡ set group j y) (put : changes ≡ set groups i changed) where
      there : group ≡ get_or groups i []
      there = own ∙ get_or_default groups i group [] (number_within some)

      now : changes ≡ set groups i (set (get_or groups i []) j y)
      now = put ∙ ap (λ (g : List E). set groups i g) (set_group ∙ ap (λ (g : List E). set g j y) there)

      pub set_at : elements_of changes ≡ set all (hash % length all) y
      set_at =
          ap elements_of now
          ∙ sym (set_in_group groups i j y is.1.0 place_within)
          ∙ ap (λ (n : ℕ). set (elements_of groups) n y) whole
          ∙ ap (λ (zs : List E). set zs (hash % length all) y) seen

      same_count : count ≡ length (elements_of changes)
      same_count =
          is.1.1 ∙ ap length seen ∙ sym (length-set all (hash % length all) y) ∙ ap length (sym set_at)

      still_wide : AreWide changes
      still_wide =
          let width_there : length (get_or groups i []) ≡ width = is.1.0 i [] (number_within some) in
          subst AreWide (sym now)
          (All-set (λ (g : List E). length g ≡ width) groups i (set (get_or groups i []) j y) (length-set (get_or groups i []) j y ∙ width_there) is.1.0)

      pub kept : (0 < width) × (AreWide changes × (count ≡ length (elements_of changes)))
      kept = (is.0, (still_wide, same_count))
