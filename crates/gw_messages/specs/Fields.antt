-- Values of fields, as far as they are told apart.
use Rattle.std.specs.Prelude.{ℕ, ◌≡◌, List, [], ◌∷◌}
use Rattle.gw_messages.specs.declared.field.Values.{Values}
use Rattle.gw_messages.specs.declared.field.Values.TheVariants as values

-- None, one alone, or a first and others.
abbrev pub Shows : List (List ℕ) → Values → Type 0
Shows [] values.Absent = Unit {0}
Shows [] (values.One v) = ⊥
Shows [] (values.Many v) = ⊥
Shows (x ∷ []) values.Absent = ⊥
Shows (x ∷ []) (values.One v) = v.now ≡ x
Shows (x ∷ []) (values.Many v) = ⊥
Shows (x ∷ y ∷ xs) values.Absent = ⊥
Shows (x ∷ y ∷ xs) (values.One v) = ⊥
Shows (x ∷ y ∷ xs) (values.Many v) = v.now ≡ x

-- The first value, empty where there is none.
abbrev pub first_of : List (List ℕ) → List ℕ
first_of [] = []
first_of (x ∷ xs) = x
