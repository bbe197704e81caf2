-- Names that are the same pass the same tests.
use Rattle.std.proofs.Common.{◌≡◌, ◌∙◌, refl, ap, Bool, true, false, List, [], ◌∷◌, map, ℕ}
use Rattle.std.specs.Char.{to_ascii_lowercase}
use Rattle.std.specs.Cmp.{IsEquivalence}
use Rattle.std.specs.Cmp.Lexicographic.{on_texts_equal}
use Rattle.gw_text.specs.model.Fields.{Field, same_field_name}
use Rattle.gw_messages.specs.model.Values.{has_field, values_of}

-- Being the same name is an equivalence.
pub same_names : IsEquivalence same_field_name
same_names = on_texts_equal (map to_ascii_lowercase)

-- A name is the same as either of two that are the same.
pub name_same : (a b x : List ℕ) → same_field_name a b ≡ true → same_field_name x a ≡ same_field_name x b
name_same a b x is = same_names.symm x a ∙ same_names.congr a b x is ∙ same_names.symm b x

pub has_field_same : (a b : List ℕ) (fields : List Field) → same_field_name a b ≡ true → has_field a fields ≡ has_field b fields
has_field_same a b [] is = refl
has_field_same a b (f ∷ fields) is = rw (name_same a b f.name is, has_field_same a b fields is) refl

pub values_same : (a b : List ℕ) (fields : List Field) → same_field_name a b ≡ true → values_of a fields ≡ values_of b fields
values_same a b [] is = refl
values_same a b (f ∷ fields) is = by (same_field_name f.name b) refl (values_same a b fields is)
  where
    by : (t : Bool) → same_field_name f.name b ≡ t → values_of a fields ≡ values_of b fields → values_of a (f ∷ fields) ≡ values_of b (f ∷ fields)
    by true e rest = rw (name_same a b f.name is, e) (ap (λ (texts : List (List ℕ)). f.value ∷ texts) rest)
    by false e rest = rw (name_same a b f.name is, e) rest
