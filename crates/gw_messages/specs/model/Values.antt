-- What field lines say: names, values, lists with commas, and numbers. Source: RFC 9110 sections 5 and 8.6, RFC 9112 sections 5 and 6.
use Rattle.std.specs.Prelude.{ℕ, List, [], ◌∷◌, map, filter, fold, codes, Bool, true, false, ◌&&◌, ◌==◌, bytes_eq, if◌then◌else◌}
use Rattle.std.specs.Char.{to_ascii_lowercase, is_ascii_digit}
use Rattle.std.specs.List.{list_all, list_any, flat_map, slice_split}
use Rattle.std.specs.Str.Parse.{digits_value}
use Rattle.httparse.specs.Grammar.{field_value, trim_ows, Field as FieldLine}
use Rattle.gw_text.specs.model.Fields.{Field, same_field_name}
use Rattle.gw_text.specs.model.Names.{is_given}

-- A field line gives its name, and its value without the spaces and tabs at both ends. Source: RFC 9112 section 5.1.
abbrev pub field_of : FieldLine → Field
field_of f = record { name = f.name; value = field_value f }

-- A text in lower case.
abbrev pub lower : List ℕ → List ℕ
lower text = map to_ascii_lowercase text

-- Equal but for the case of letters.
abbrev pub same_word : List ℕ → List ℕ → Bool
same_word a b = bytes_eq (lower a) (lower b)

-- Some field has this name.
abbrev pub has_field : List ℕ → List Field → Bool
has_field name fields = list_any (λ f. same_field_name f.name name) fields

-- The values of the fields of this name, in their order. Source: RFC 9110 section 5.2.
abbrev pub values_of : List ℕ → List Field → List (List ℕ)
values_of name fields = map (λ f. f.value) (filter (λ f. same_field_name f.name name) fields)

-- What stands between the commas of a value, without the spaces and tabs at both ends. Source: RFC 9110 section 5.6.1.
abbrev pub elements : List ℕ → List (List ℕ)
elements value = map trim_ows (slice_split (λ b. b == 44) value)

-- Some value has the word among its elements.
abbrev pub has_element : List ℕ → List (List ℕ) → Bool
has_element word values = list_any (λ value. list_any (same_word word) (elements value)) values

-- The codings that Transfer-Encoding names, in their order; an empty element is none. Source: RFC 9112 section 6.1.
abbrev pub codings : List Field → List (List ℕ)
codings fields = filter is_given (flat_map elements (values_of (codes "transfer-encoding") fields))

-- The last one of them is `chunked`.
abbrev pub ends_chunked : List (List ℕ) → Bool
ends_chunked codings = fold (λ before coding. same_word (codes "chunked") coding) false codings

-- The digits of a number without zeros at its front.
abbrev pub without_zeros : List ℕ → List ℕ
without_zeros [] = []
without_zeros (digit ∷ digits) = if digit == 48 then without_zeros digits else digit ∷ digits

-- The text is a number in digits.
abbrev pub is_number : List ℕ → Bool
is_number text = is_given text && list_all is_ascii_digit text

-- The text is a number in digits, and the same number as another one.
abbrev pub is_same_number : List ℕ → List ℕ → Bool
is_same_number first text = is_number text && bytes_eq (without_zeros text) (without_zeros first)

-- The texts are numbers in digits, all of them the same. Source: RFC 9110 section 8.6.
abbrev pub are_one_number : List (List ℕ) → Bool
are_one_number [] = true
are_one_number (text ∷ texts) = list_all (is_same_number text) (text ∷ texts)

-- The number that a text gives, 0 where there is no text.
abbrev pub number_of : List (List ℕ) → ℕ
number_of [] = 0
number_of (text ∷ texts) = digits_value 10 text
