-- Lengths that fields announce.
use Rattle.std.proofs.Common.{◌≡◌, ℕ, ◌+◌, ◌*◌, ◌-◌, ◌≤◌, ◌<◌, Bool, true, false, ◌||◌, ◌&&◌, bytes_eq, if◌then◌else◌, nat_le, List, [], ◌∷◌, length, map, filter, codes, Option, None, Some, MatchOption, Bor, drop, get_or, refl, sym, ap, ◌∙◌, arith, subst}
use Rattle.std.specs.Char.{is_ascii_digit}
use Rattle.std.specs.List.{list_all}
use Rattle.std.specs.Str.Parse.{digits_value, digits_value_after}
use Rattle.std.proofs.lemmas.Bool.Decides.{nat_tests}
use Rattle.std.proofs.lemmas.List.{drop_more}
use Rattle.std.proofs.lemmas.List.Sums.{AllPass-from_list_all}
use Rattle.std.proofs.lemmas.Slice.Eq.{bytes_eq-Decides}
use Rattle.gw_text.specs.model.Fields.{Field, same_field_name}
use Rattle.gw_messages.specs.model.Values.{are_one_number, has_field, is_number, number_of, values_of, without_zeros}
use Rattle.gw_messages.proofs.Numbers.{above}
use Rattle.gw_messages.specs.Fields.{Shows}
use Rattle.gw_messages.specs.declared.field.Values.TheVariants as values
use Rattle.gw_replies.specs.model.Responses.{announced_length, by_chunks, by_end, by_number, extent_of}

-- the digits up to here are above the most
pub above_here : (most number at : ℕ) (digits : List ℕ) → at < length digits → list_all is_ascii_digit digits ≡ true
    → digits_value_after 10 number (drop at digits) ≡ digits_value 10 digits → most < number * 10 + (get_or digits at 0 - 48) → most < digits_value 10 digits
above_here most number at digits inside all e more =
    let is_digit : is_ascii_digit (get_or digits at 0) ≡ true = AllPass-from_list_all is_ascii_digit digits all at 0 inside in
    subst (λ (n : ℕ). most < n) (rw (drop_more digits at 0 inside) at e)
    (above most number (get_or digits at 0) (drop (at + 1) digits) is_digit more)

is_some_text : List (List ℕ) → Bool
is_some_text [] = false
is_some_text (x ∷ xs) = true

-- a field of the name is there where a value is
has_by : (name : List ℕ) (fields : List Field) → has_field name fields ≡ is_some_text (values_of name fields)
unfolding is_some_text
has_by name [] = refl
has_by name (f ∷ fields) = by (same_field_name f.name name) (has_by name fields)
  where
    by : (b : Bool) → has_field name fields ≡ is_some_text (values_of name fields)
        → (b || has_field name fields) ≡ is_some_text (map (λ (g : Field). g.value) (if b then f ∷ filter (λ g. same_field_name g.name name) fields else filter (λ g. same_field_name g.name name) fields))
    by true e = refl
    by false e = e

-- a number that is read up to the most
number_by : (most number : ℕ) (r : Option ℕ) → MatchOption r (most < number) (λ n. (n ≤ most) × (n ≡ number)) → r ≡ (if nat_le number most then Some number else None)
number_by most number None above = let e : nat_le number most ≡ false = grind (arith, nat_tests) in rw e refl
number_by most number (Some n) is = let e : nat_le number most ≡ true = grind (arith, nat_tests) in rw (e, is.1) refl

-- the length that the first of some values gives
announced_by : (fields : List Field) (text : List ℕ) (rest : List (List ℕ)) (r : Option ℕ) → values_of (codes "content-length") fields ≡ text ∷ rest
    → are_one_number (values_of (codes "content-length") fields) ≡ true
    → MatchOption r (18446744073709551615 < digits_value 10 text) (λ n. (n ≤ 18446744073709551615) × (n ≡ digits_value 10 text)) → r ≡ announced_length fields
unfolding is_some_text
announced_by fields text rest r e one is =
    let has : has_field (codes "content-length") fields ≡ true = has_by (codes "content-length") fields ∙ ap is_some_text e in
    let number : number_of (values_of (codes "content-length") fields) ≡ digits_value 10 text = ap number_of e in
    rw (has, one, number) (number_by 18446744073709551615 (digits_value 10 text) r is)

-- no value gives no length
pub announced_absent : (fields : List Field) → Shows (values_of (codes "content-length") fields) values.Absent → None ≡ announced_length fields
unfolding is_some_text
announced_absent fields shows =
    let has : has_field (codes "content-length") fields ≡ false = has_by (codes "content-length") fields ∙ ap is_some_text (none_of (values_of (codes "content-length") fields) shows) in
    rw has refl
  where
    none_of : (xs : List (List ℕ)) → Shows xs values.Absent → xs ≡ []
    none_of [] s = refl
    none_of (x ∷ []) s = elim s [ ]
    none_of (x ∷ y ∷ xs) s = elim s [ ]

-- the first value gives the length
pub announced_one : (fields : List Field) (v : Bor (List ℕ)) (r : Option ℕ) → Shows (values_of (codes "content-length") fields) (values.One v)
    → are_one_number (values_of (codes "content-length") fields) ≡ true
    → MatchOption r (18446744073709551615 < digits_value 10 v.now) (λ n. (n ≤ 18446744073709551615) × (n ≡ digits_value 10 v.now)) → r ≡ announced_length fields
announced_one fields v r shows one is = announced_by fields v.now [] r (one_of (values_of (codes "content-length") fields) v shows) one is
  where
    one_of : (xs : List (List ℕ)) (v : Bor (List ℕ)) → Shows xs (values.One v) → xs ≡ v.now ∷ []
    one_of [] v s = elim s [ ]
    one_of (x ∷ y ∷ xs) v s = elim s [ ]
    one_of (x ∷ []) v s = ap (λ (y : List ℕ). y ∷ []) (sym s)

pub announced_many : (fields : List Field) (v : Bor (List ℕ)) (r : Option ℕ) → Shows (values_of (codes "content-length") fields) (values.Many v)
    → are_one_number (values_of (codes "content-length") fields) ≡ true
    → MatchOption r (18446744073709551615 < digits_value 10 v.now) (λ n. (n ≤ 18446744073709551615) × (n ≡ digits_value 10 v.now)) → r ≡ announced_length fields
announced_many fields v r shows one is =
    let first = first_of (values_of (codes "content-length") fields) v shows in
    announced_by fields v.now first.0 r first.1 one is
  where
    first_of : (xs : List (List ℕ)) (v : Bor (List ℕ)) → Shows xs (values.Many v) → (rest : List (List ℕ)) × (xs ≡ v.now ∷ rest)
    first_of [] v s = elim s [ ]
    first_of (x ∷ []) v s = elim s [ ]
    first_of (x ∷ y ∷ xs) v s = (y ∷ xs, ap (λ (z : List ℕ). z ∷ y ∷ xs) (sym s))

-- a size is announced
pub extent_by : (fields : List Field) → has_field (codes "transfer-encoding") fields ≡ false → has_field (codes "content-length") fields ≡ true
    → extent_of fields ≡ by_number (number_of (values_of (codes "content-length") fields))
extent_by fields none some =
    ap (λ (b : Bool). if b then by_chunks else (if has_field (codes "content-length") fields then by_number (number_of (values_of (codes "content-length") fields)) else by_end)) none
    ∙ ap (λ (b : Bool). if b then by_number (number_of (values_of (codes "content-length") fields)) else by_end) some

-- no value is one number
pub one_absent : (xs : List (List ℕ)) → Shows xs values.Absent → true ≡ are_one_number xs
one_absent [] s = refl
one_absent (x ∷ []) s = elim s [ ]
one_absent (x ∷ y ∷ xs) s = elim s [ ]

alone : (n e : Bool) → e ≡ true → n ≡ ((n && e) && true)
alone true e is = rw is refl
alone false e is = refl

-- a value alone is one number where it is a number
pub one_alone : (xs : List (List ℕ)) (v : Bor (List ℕ)) → Shows xs (values.One v) → is_number v.now ≡ are_one_number xs
one_alone [] v s = elim s [ ]
one_alone (x ∷ y ∷ xs) v s = elim s [ ]
one_alone (x ∷ []) v s =
    ap is_number s ∙ alone (is_number x) (bytes_eq (without_zeros x) (without_zeros x)) ((bytes_eq-Decides (without_zeros x) (without_zeros x)).1 refl)
