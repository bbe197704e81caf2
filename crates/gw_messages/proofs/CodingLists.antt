-- Lists of codings.
use Rattle.std.proofs.Common.{◌≡◌, ℕ, ◌≤◌, Bool, true, false, cond, List, [], ◌∷◌, ◌++◌, length, map, filter, fold, drop, nat_lt, codes, refl, sym, ap, ◌∙◌, arith}
use Rattle.std.specs.List.{flat_map}
use Rattle.std.proofs.lemmas.Bool.{lt-ltb}
use Rattle.std.proofs.lemmas.List.{append-nil, drop_all}
use Rattle.std.proofs.lemmas.List.Concat.{flat_map-cons}
use Rattle.std.proofs.lemmas.List.Elements.{filter-append}
use Rattle.gw_text.specs.model.Fields.{Field, same_field_name}
use Rattle.gw_messages.specs.model.Values.{codings, elements, ends_chunked, same_word}
use Rattle.gw_text.specs.model.Names.{is_given}
use Rattle.gw_messages.specs.Codings.{note, no_coding}
use Rattle.gw_messages.specs.declared.coding.Coded.{Coded}

-- a field of another name has none
pub no_codings : (f : Field) → same_field_name f.name (codes "transfer-encoding") ≡ false → codings (f ∷ []) ≡ []
no_codings f other = ap (λ t. filter is_given (flat_map elements (map (λ (g : Field). g.value) (cond t (f ∷ []) [])))) other

-- a field of that name has those of its value
pub own_codings : (f : Field) → same_field_name f.name (codes "transfer-encoding") ≡ true → codings (f ∷ []) ≡ filter is_given (elements f.value)
own_codings f own =
    ap (λ t. filter is_given (flat_map elements (map (λ (g : Field). g.value) (cond t (f ∷ []) [])))) own
    ∙ ap (filter is_given) (flat_map-cons elements f.value [] ∙ append-nil (elements f.value))

codings_by : Bool → Field → List Field → List (List ℕ)
codings_by t f fs = filter is_given (flat_map elements (map (λ (g : Field). g.value) (cond t (f ∷ fs) fs)))

first_by : (t : Bool) (f : Field) (fs : List Field) → codings_by t f fs ≡ codings_by t f [] ++ codings_by false f fs
unfolding codings_by
first_by false f fs = refl
first_by true f fs =
    let rest = flat_map elements (map (λ (g : Field). g.value) fs) in
    ap (filter is_given) (flat_map-cons elements f.value (map (λ (g : Field). g.value) fs)) ∙ filter-append is_given (elements f.value) rest
    ∙ ap (λ l. filter is_given l ++ filter is_given rest) (sym (flat_map-cons elements f.value [] ∙ append-nil (elements f.value)))

-- the codings of a field, and then those of the others
pub first_field : (f : Field) (fs : List Field) → codings (f ∷ fs) ≡ codings (f ∷ []) ++ codings fs
unfolding codings_by
first_field f fs = first_by (same_field_name f.name (codes "transfer-encoding")) f (filter (λ (g : Field). same_field_name g.name (codes "transfer-encoding")) fs)

-- no field is left
pub all_fields : (c d : Coded) (i : ℕ) (fs : List Field) → length fs ≤ i → fold note c (codings (drop i fs)) ≡ d → c ≡ d
all_fields c d i fs le e = rw (drop_all i fs le) at e

many_kept : (c : Coded) (xs : List (List ℕ)) → c.any ≡ true → c.many ≡ true → (fold note c xs).many ≡ true
many_kept c [] a m = m
many_kept c (x ∷ xs) a m = many_kept (note c x) xs refl a

pub many_is : (xs : List (List ℕ)) → (fold note no_coding xs).many ≡ nat_lt 1 (length xs)
many_is [] = refl
many_is (x ∷ []) = refl
many_is (x ∷ y ∷ xs) =
    many_kept (note (note no_coding x) y) xs refl refl ∙ sym (lt-ltb 1 (length (x ∷ y ∷ xs)) (omega arith))

chunked_after : (c : Coded) (xs : List (List ℕ)) → (fold note c xs).chunked ≡ fold (λ before coding. same_word (codes "chunked") coding) c.chunked xs
chunked_after c [] = refl
chunked_after c (x ∷ xs) = chunked_after (note c x) xs

pub chunked_is : (xs : List (List ℕ)) → (fold note no_coding xs).chunked ≡ ends_chunked xs
chunked_is xs = chunked_after no_coding xs
