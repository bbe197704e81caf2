-- Heads that announce no body.
use Rattle.std.proofs.Common.{◌≡◌, ℕ, Bool, true, false, List, [], ◌∷◌, Option, None, Some, codes, length, map, filter, ◌||◌, if◌then◌else◌, nat_lt, refl, ap}
use Rattle.std.specs.List.{list_any}
use Rattle.gw_text.specs.model.Fields.{Field, same_field_name}
use Rattle.gw_messages.specs.model.Values.{are_one_number, has_field, number_of, values_of}
use Rattle.gw_frames.specs.model.Heads.{Head, Target, code_of, has_one_host, is_served_target, is_unserved}
use Rattle.gw_frames.specs.model.Requests.{size_of}

-- one test or another
pub any_of : {X : Type 0} (p q : X → Bool) (xs : List X) → list_any (λ x. p x || q x) xs ≡ (list_any p xs || list_any q xs)
any_of p q [] = refl
any_of p q (x ∷ xs) = by (p x) (q x) (list_any p xs) (list_any q xs) (list_any (λ y. p y || q y) xs) (any_of p q xs)
  where
    by : (a b c d e : Bool) → e ≡ (c || d) → ((a || b) || e) ≡ ((a || c) || (b || d))
    by true b c d e is = refl
    by false true true d e is = refl
    by false true false d e is = refl
    by false false c d e is = is

-- no field of the name gives no value
pub none_named : (name : List ℕ) (fields : List Field) → has_field name fields ≡ false → values_of name fields ≡ []
none_named name [] none = refl
none_named name (f ∷ fields) none = by (same_field_name f.name name) (none_named name fields) none
  where
    by : (b : Bool) → (has_field name fields ≡ false → values_of name fields ≡ []) → (b || has_field name fields) ≡ false
        → map (λ (g : Field). g.value) (if b then f ∷ filter (λ g. same_field_name g.name name) fields else filter (λ g. same_field_name g.name name) fields) ≡ []
    by true later e = cc
    by false later e = later e

pub neither : (a b : Bool) → (a || b) ≡ false → (a ≡ false) × (b ≡ false)
neither true b e = cc
neither false b e = (refl, e)

no_length : (fields : List Field) → (has_field (codes "transfer-encoding") fields || has_field (codes "content-length") fields) ≡ false
    → values_of (codes "content-length") fields ≡ []
no_length fields none =
    none_named (codes "content-length") fields (neither (has_field (codes "transfer-encoding") fields) (has_field (codes "content-length") fields) none).1

-- a head that passes the tests before, and announces no body, passes all
pub unframed_passes : (h : Head) (t : Option Target) → nat_lt 100 (length h.fields) ≡ false → is_unserved h ≡ false → is_served_target h.target t ≡ true
    → has_one_host (values_of (codes "host") h.fields) t ≡ true → (has_field (codes "transfer-encoding") h.fields || has_field (codes "content-length") h.fields) ≡ false
    → None ≡ code_of h t
unfolding code_of
unframed_passes h t few served form host none =
    let both = neither (has_field (codes "transfer-encoding") h.fields) (has_field (codes "content-length") h.fields) none in
    rw (few, served, form, host, both.0, none_named (codes "transfer-encoding") h.fields both.0, none_named (codes "content-length") h.fields both.1) refl

pub unframed_number : (fields : List Field) → (has_field (codes "transfer-encoding") fields || has_field (codes "content-length") fields) ≡ false
    → are_one_number (values_of (codes "content-length") fields) ≡ true
unframed_number fields none = ap are_one_number (no_length fields none)

pub unframed_few : (fields : List Field) → (has_field (codes "transfer-encoding") fields || has_field (codes "content-length") fields) ≡ false
    → nat_lt 1048576 (number_of (values_of (codes "content-length") fields)) ≡ false
unframed_few fields none = ap (λ (values : List (List ℕ)). nat_lt 1048576 (number_of values)) (no_length fields none)

pub unframed_size : (fields : List Field) → (has_field (codes "transfer-encoding") fields || has_field (codes "content-length") fields) ≡ false
    → Some 0 ≡ size_of fields
unframed_size fields none =
    let both = neither (has_field (codes "transfer-encoding") fields) (has_field (codes "content-length") fields) none in
    rw (both.0, no_length fields none) refl
